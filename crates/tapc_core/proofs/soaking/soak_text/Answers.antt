use Rattle.std.proofs.Common.{IfOk, ap, subst, sym, string_bytes, ◌∙◌}
use Rattle.abstract_run.specs.Opening.{opening_state}
use Rattle.tap_exec.specs.Semantics.{semantics_of}
use Rattle.tapc_core.specs.commands.Soak.{IsSoakText}
use Rattle.tapc_core.proofs.soaking.soak_text.Goals as goal

pub returns-clause-text : goal.returns-clause-text
returns-clause-text c =
    let same = c.in_ok-world.ensures.system in
    let asked = c.args.asked in
    let inputs = c.args.start.inputs in
    subst (λ s. IfOk c.soak_opened.result (λ text. IsSoakText asked.seed asked.faults asked.events s inputs (string_bytes text))) same
    (c.soak_opened.ensures.text inputs (c.in_ok-world.ensures.opening ∙ ap (λ s. opening_state (semantics_of s) inputs) (sym same)))
