use Rattle.std.proofs.Common.{[], List, ℕ, Err, subst, append-nil}
use Rattle.tap_exec.specs.Semantics.{semantics_of}
use Rattle.abstract_run.specs.Opening.{opening_state}
use Rattle.replay.specs.Traces.{Judges}
use Rattle.replay.proofs.check.check_text.Goals as goal

pub returns-in-Err-clause-judges : goal.returns-in-Err-clause-judges
returns-in-Err-clause-judges c =
    let m = semantics_of c.args.system.now in
    let start = opening_state m c.args.inputs.now in
    subst (λ (t : List ℕ). Judges m start t (Err c.in-Err.fault)) (append-nil c.args.text.now) (c.in-Err.ensures.fault start [] [] c.in_ok-reader.ensures.first)
