-- What a call that does a step keeps, however it ends.
use Rattle.std.proofs.Common.{◌≡◌, ◌∙◌, ℕ, List, sym, subst, Result, Ok, Err, IfOk}
use Rattle.tap_base.specs.declared.memory.NoMemory.{NoMemory}
use Rattle.tap_exec.specs.declared.running.Outgoing.{Outgoing}
use Rattle.byte_meaning.specs.declared.cell.Cell.{Cell}
use Rattle.byte_meaning.specs.Reading.{meaning}
use Rattle.abstract_run.specs.declared.label.Label.{Label}
use Rattle.abstract_run.specs.declared.state.State.{State}
use Rattle.abstract_run.specs.declared.state.StepFault.{StepFault}
use Rattle.abstract_run.specs.declared.state.StepFault.TheVariants as fault
use Rattle.abstract_run.specs.CellCount.{CountsCells}
use Rattle.abstract_run.specs.Fits.{Fits}
use Rattle.abstract_run.specs.Kept.{AreFitSends}
use Rattle.abstract_run.specs.Safe.{Agrees, BodiesKeepRanges}
use Rattle.tap_exec.specs.Semantics.{Semantics}
use Rattle.abstract_run.specs.Step.{Steps, step}
use Rattle.abstract_run.proofs.Kept.{steps_keep}
use Rattle.abstract_run.proofs.SameSteps.{same_meaning, same_steps}

pub record Outcome (semantics : Semantics) (l : Label) (old : State) (r : Result (List Outgoing) StepFault) (new : State) : Type 0 where
  pub fits : Fits semantics new
  pub sends : IfOk r (AreFitSends semantics l)
  pub cells : IfOk r (λ sends. CountsCells semantics l old sends new)

refused : (semantics : Semantics) (s t : State) (l : Label) (why : StepFault) → Fits semantics s → t ≡ s → Outcome semantics l s (Err why) t
refused semantics s t l why fits e = record { fits = subst (Fits semantics) (sym e) fits; sends = tt; cells = tt }

pub outcome : (semantics : Semantics) (s t : State) (l : Label) (r : Result (List Outgoing) StepFault) → BodiesKeepRanges semantics → Fits semantics s → Steps (step semantics s l) s r t
    → Outcome semantics l s r t
outcome semantics s t l (Ok sends) keep fits h = let x = steps_keep semantics s t l sends keep fits h in record { fits = x.fits; sends = x.sent; cells = x.cells }
outcome semantics s t l (Err fault.NotEnabled) keep fits h = refused semantics s t l fault.NotEnabled fits h.1
outcome semantics s t l (Err fault.NoMemory) keep fits h = refused semantics s t l fault.NoMemory fits h

-- a step of one record is a step of another that agrees
pub steps_same : (one other : Semantics) (s t : State) (l : Label) (r : Result (List Outgoing) StepFault) → Agrees one other → Fits other s → Steps (step one s l) s r t → Steps (step other s l) s r t
steps_same one other s t l r agree fits h = subst (λ o. Steps o s r t) (same_steps one other s l agree fits) h

-- what bytes mean to one record they mean to another that agrees
pub meant_same : (one other : Semantics) (q p : ℕ) (bytes : List ℕ) (r : Result Cell NoMemory) → Agrees one other → IfOk r (λ x. x ≡ meaning other q p bytes) → IfOk r (λ x. x ≡ meaning one q p bytes)
meant_same one other q p bytes (Ok x) agree h = h ∙ sym (same_meaning one other q p bytes agree)
meant_same one other q p bytes (Err e) agree h = tt
