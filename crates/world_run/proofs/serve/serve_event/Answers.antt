use Rattle.std.proofs.Common.{sym, subst, arith}
use Rattle.std.proofs.lemmas.List.{length-map}
use Rattle.tap_exec.specs.Semantics.{messages_of, process_semantics}
use Rattle.world_run.specs.Served.{NamesProcesses}
use Rattle.world_run.specs.inner.Serving.{said_by}
use Rattle.world_run.proofs.Events.{fault_served, fault_steady, is_fault}
use Rattle.world_run.proofs.Turns.{on_ok, on_both}
use Rattle.world_run.proofs.serve.serve_event.Goals as goal

pub returns-in_ok-label-in_default : goal.returns-in_ok-label-in_default
returns-in_ok-label-in_default c =
    let m = said_by c.args.given.now in
    let old = c.args.course.now in
    let new = c.try_plain.new.course in
    let e = c.args.event.now in
    let system = c.args.given.now.system.now in
    let named = subst (λ n. NamesProcesses n e) (sym (length-map system.processes (process_semantics (messages_of system)))) c.requires.named in
    record {
      served = on_ok c.try_plain.result (fault_served m old new e c.in_ok-label-in_default.label _ _ (is_fault e c.in_default.not-Turn c.in_default.not-Arrive) c.in_ok-label-in_default.ensures c.requires.steady (omega arith) named) c.try_plain.ensures.did;
      steady = on_both c.try_plain.result (λ whole d. fault_steady m old new e c.in_ok-label-in_default.label _ _ c.in_ok-label-in_default.ensures c.requires.steady whole d) c.try_plain.ensures.course c.try_plain.ensures.did;
      cells = c.try_plain.ensures.cells;
    }
