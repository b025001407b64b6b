use Rattle.tap_types.specs.ActionOffences.{process_uses}
use Rattle.tap_base.specs.ListWords.{by_number}
use Rattle.tap_types.specs.Systems.{processes_of}
use Rattle.tap_names.specs.Tables.{entries_of, names_in}
use Rattle.tap_names.proofs.AllOf.{all_next, some_rest}
use Rattle.tap_types.proofs.NamedProcesses.{processes_on}
use Rattle.tap_base.proofs.LoopFacts.{numbered_on}
use Rattle.tap_names.proofs.Loops.{numbered_fault, passed}
use Rattle.tap_types.proofs.processes.type_processes.Goals as goal

pub next_declared-declared-requires : goal.next_declared-declared-requires
next_declared-declared-requires c = some_rest c.args.processes.now c.processes.at c.processes-test.true c.processes.rest c.processes.invariant.all

pub returns-in_err-process : goal.returns-in_err-process
returns-in_err-process c =
    let m = c.args.messages.now in
    let ns = names_in (entries_of c.args.process_table.now) in
    let ps = c.args.processes.now in
    let i = c.processes.at in
    let x = c.index-processes-at.result in
    passed (by_number 0 (process_uses m ns) ps) (processes_of m ns 0 ps) _ _ c.from_residual.ensures.1
    (numbered_fault (process_uses m ns) ps i x c.processes-test.true c.index-processes-at.is _ c.in_err-process.ensures c.processes.invariant.clear)

pub processes-preserved : goal.processes-preserved
processes-preserved c =
    let m = c.args.messages.now in
    let ns = names_in (entries_of c.args.process_table.now) in
    let ps = c.args.processes.now in
    let i = c.processes.at in
    let x = c.index-processes-at.result in
    let l = c.processes-test.true in
    let q = c.index-processes-at.is in
    record {
      clear = numbered_on (process_uses m ns) ps i x l q c.in_ok-process.ensures.0 c.processes.invariant.clear;
      named = processes_on m ns ps i x l q c.in_ok-process.process c.processes.found _ (processes_of m ns 0 ps) c.in_ok-push.ensures.ok c.in_ok-process.ensures.1 c.processes.invariant.named;
      all = (all_next ps i x l q c.processes.rest c.processes.invariant.all _ _ c.next_declared-declared.ensures).1;
    }
