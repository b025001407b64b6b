use Rattle.std.proofs.Common.{◌≡◌, ◌∙◌, ap, length, sym, [], arith}
use Rattle.std.specs.Prelude.{replicate}
use Rattle.std.proofs.lemmas.List.{length-map}
use Rattle.tap_exec.specs.Semantics.{messages_of, process_semantics}
use Rattle.world_run.proofs.rejects.no_errors.Goals as goal

pub returns : goal.returns
returns c =
    let items = c.as_slice-process-items.result.now in
    let system = c.args.system.now in
    let whole : c.loop-process._process-index ≡ length items = omega arith in
    c.loop-process.invariant ∙ ap (λ n. replicate n []) (whole ∙ ap length c.as_slice-process-items.ensures ∙ sym (length-map system.processes (process_semantics (messages_of system))))
