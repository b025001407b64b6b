use Rattle.tap_base.specs.ListWords.{each_by_number}
use Rattle.tap_settings.specs.Offences.{missing_in}
use Rattle.tap_settings.specs.inner.Table.{held_at}
use Rattle.tap_base.proofs.LoopFacts.{collected_on, numbered_on}
use Rattle.tap_settings.proofs.filling.values_of.Goals as goal

pub processes-preserved : goal.processes-preserved
processes-preserved c =
    let rows = c.args.rows.now in
    let xs = c.args.processes.now in
    let i = c.processes.at in
    let x = c.index-processes-at.result in
    let l = c.processes-test.true in
    let q = c.index-processes-at.is in
    record {
      clear = numbered_on (λ n p. missing_in p.name (held_at rows n) p.inputs) xs i x l q c.in_ok-values_in.ensures.0 c.processes.invariant.clear;
      found = collected_on (λ n p. each_by_number 0 (λ j v. held_at rows n j) p.inputs) xs i x l q c.in_ok-values_in.field-0 c.processes.found _ c.in_ok-push.ensures.ok c.in_ok-values_in.ensures.1 c.processes.invariant.found;
    }
