-- The states before and after a label of a run.
use Rattle.std.proofs.Common.{◌≡◌, ◌+◌, ◌<◌, ℕ, zero, suc, List, [], ◌∷◌, take, length, refl, ap, ◌∙◌, slice_get, Option, Some, arith}
use Rattle.std.proofs.lemmas.Option.{option_and_then_some}
use Rattle.abstract_run.specs.declared.label.Label.{Label}
use Rattle.tap_exec.specs.declared.running.Outgoing.{Outgoing}
use Rattle.abstract_run.specs.declared.state.State.{State}
use Rattle.tap_exec.specs.Semantics.{Semantics}
use Rattle.tap_base.specs.Option.{◌>>=◌}
use Rattle.abstract_run.specs.Run.{state_after}
use Rattle.abstract_run.specs.Step.{After, step}

-- the label at a place of a run, the state as it comes, and the state after it
pub record StepAt (semantics : Semantics) (s : State) (labels : List Label) (n : ℕ) : Type 0 where
  pub l : Label
  pub stands : slice_get labels n ≡ Some l
  pub u : State
  pub before : state_after semantics s (take n labels) ≡ Some u
  pub v : State
  pub sends : List Outgoing
  pub stepped : ◌≡◌ {A = Option After} (step semantics u l) (Some (v, sends))
  pub after : state_after semantics s (take (n + 1) labels) ≡ Some v

-- the rest of a run, after its first label
rest_after : (semantics : Semantics) (s : State) (l : Label) (ls : List Label) (first : After) → ◌≡◌ {A = Option After} (step semantics s l) (Some first)
    → state_after semantics s (l ∷ ls) ≡ state_after semantics first.0 ls
rest_after semantics s l ls first e = ap (λ (o : Option After). o >>= λ after. state_after semantics after.0 ls) e

pub step_at : (semantics : Semantics) (s : State) (labels : List Label) (last : State) (n : ℕ) → state_after semantics s labels ≡ Some last → n < length labels → StepAt semantics s labels n
step_at semantics s [] last n e h = absurd (omega (arith, h))
step_at semantics s (l ∷ ls) last zero e h =
    option_and_then_some _ (step semantics s l) last e (λ first is rest. record {
      l = l;
      stands = refl;
      u = s;
      before = refl;
      v = first.0;
      sends = first.1;
      stepped = is;
      after = rest_after semantics s l [] first is;
    })
step_at semantics s (l ∷ ls) last (suc n) e h =
    option_and_then_some _ (step semantics s l) last e (λ first is rest.
    let x = step_at semantics first.0 ls last n rest (omega (arith, h)) in
    let one : suc n + 1 ≡ suc (n + 1) = omega arith in
    record {
      l = x.l;
      stands = x.stands;
      u = x.u;
      before = rest_after semantics s l (take n ls) first is ∙ x.before;
      v = x.v;
      sends = x.sends;
      stepped = x.stepped;
      after = ap (λ m. state_after semantics s (take m (l ∷ ls))) one ∙ rest_after semantics s l (take (n + 1) ls) first is ∙ x.after;
    })
