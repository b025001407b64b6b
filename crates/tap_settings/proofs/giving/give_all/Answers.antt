use Rattle.std.proofs.Common.{List, [], map, subst, sym, take}
use Rattle.tap_base.specs.ListWords.{behind}
use Rattle.tap_settings.specs.Offences.{setting_offences}
use Rattle.tap_settings.specs.SettingText.{Assignment, assignment_of, assignments_of}
use Rattle.tap_settings.specs.inner.Giving.{GivesAll}
use Rattle.tap_settings.specs.inner.Table.{Holds}
use Rattle.std.proofs.lemmas.Option.{get_or_from_slice_get}
use Rattle.tap_base.proofs.ListFacts.{element_at}
use Rattle.tap_settings.proofs.Faults.{passed_on}
use Rattle.tap_base.proofs.LoopFacts.{said_next, said_on}
use Rattle.tap_settings.proofs.Loops.{behind_fault}
use Rattle.tap_settings.proofs.giving.give_all.Goals as goal

pub returns-in_err-give_at : goal.returns-in_err-give_at
returns-in_err-give_at c =
    let f = setting_offences c.args.processes.now in
    let xs = c.args.settings.now in
    let i = c.settings.at in
    let x = element_at xs i c.settings-test.true in
    passed_on (GivesAll c.args.processes.now (assignments_of xs) c.give_at.new.rows) (behind f [] (assignments_of xs)) (λ d h. h) c.from_residual.result c.in_err-give_at.field-0.0 c.from_residual.ensures.1
    (behind_fault assignment_of f xs i x.0 c.settings-test.true (sym (get_or_from_slice_get xs i x.0 x.0 x.1)) c.in_err-give_at.field-0.0
    (c.in_err-give_at.ensures.given (map assignment_of (take i xs)) x.0 x.1 c.settings.invariant.holds) c.settings.invariant.clear)

pub settings-preserved : goal.settings-preserved
settings-preserved c =
    let f = setting_offences c.args.processes.now in
    let xs = c.args.settings.now in
    let i = c.settings.at in
    let l = c.settings-test.true in
    let x = element_at xs i l in
    let q = sym (get_or_from_slice_get xs i x.0 x.0 x.1) in
    let given = c.in_ok-give_at.ensures.given (map assignment_of (take i xs)) x.0 x.1 c.settings.invariant.holds in
    record {
      places = c.in_ok-give_at.ensures.places;
      holds = subst (λ (before : List Assignment). Holds c.args.processes.now before c.give_at.new.rows) (sym (said_next assignment_of xs i x.0 l q)) given.1;
      clear = said_on assignment_of f xs i x.0 l q given.0 c.settings.invariant.clear;
    }
