use Rattle.std.proofs.Common.{◌≡◌, subst, sym}
use Rattle.tap_base.specs.declared.refusal.RefusalCode.TheVariants as code
use Rattle.tap_base.specs.Wires.{wire_of}
use Rattle.tap_base.specs.Resolved.{IsResolved}
use Rattle.tap_exec.specs.Semantics.{semantics_of}
use Rattle.replay.specs.Grammar.{TellsNames}
use Rattle.tap_lexer.specs.Bytes.{start}
use Rattle.tap_expr.specs.ExprText.{refusal}
use Rattle.tap_front.specs.Offences.{Offends, misspelled, too_long}
use Rattle.tap_front.specs.declared.offence.Offence.TheVariants.{Coded}
use Rattle.tap_front.proofs.Runs.{accepted_is_checked, accepted_runs}
use Rattle.exact_choice.specs.Runnable.{IsRunnable}
use Rattle.world_run.specs.Layouts.{HasLayout}
use Rattle.tapc_core.proofs.Fronts.{has_layout, told_names}
use Rattle.tapc_core.proofs.TreesRead.{read_long}
use Rattle.tapc_core.proofs.files.read_to_run.Goals as goal

pub returns-in-TooLong-clause-refused : goal.returns-in-TooLong-clause-refused
returns-in-TooLong-clause-refused g c = λ o e.
    let same : Coded (refusal code.L0 start) ≡ o = cc in
    read_long Offends (λ text h. misspelled (too_long h)) _ _ c.in_ok-text.field-0 o c.in-TooLong.is same c.in_ok-text.ensures.text

pub returns-in_ok-accept-in-Whole-clause-names : goal.returns-in_ok-accept-in-Whole-clause-names
returns-in_ok-accept-in-Whole-clause-names g c =
    subst (λ s. TellsNames (semantics_of s)) (sym c.into_system.ensures.system) (told_names _ _ c.in_ok-accept-in-Whole.ensures.reads)

pub returns-in_ok-accept-in-Whole-clause-resolved : goal.returns-in_ok-accept-in-Whole-clause-resolved
returns-in_ok-accept-in-Whole-clause-resolved g c = subst IsResolved (sym c.into_system.ensures.system) (accepted_is_checked _ _ c.in_ok-accept-in-Whole.ensures.reads).resolved

pub returns-in_ok-accept-in-Whole-clause-wire : goal.returns-in_ok-accept-in-Whole-clause-wire
returns-in_ok-accept-in-Whole-clause-wire g c =
    subst (λ s. HasLayout (wire_of s)) (sym c.into_system.ensures.system) (has_layout _ _ c.in_ok-accept-in-Whole.ensures.reads)

pub returns-in_ok-accept-in-Whole-clause-runnable : goal.returns-in_ok-accept-in-Whole-clause-runnable
returns-in_ok-accept-in-Whole-clause-runnable g c = subst IsRunnable (sym c.into_system.ensures.system) (accepted_runs _ _ c.in_ok-accept-in-Whole.ensures.reads)
