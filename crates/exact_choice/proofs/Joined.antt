-- The moments of two parts of a run, and what is chosen in both.
use Rattle.std.proofs.Common.{◌≡◌, ◌∙◌, ap, sym, subst, List, [], ◌∷◌, ◌++◌, Option, Some, unwrap_or}
use Rattle.std.specs.Option.{option_map}
use Rattle.std.proofs.lemmas.Option.{option_and_then_some}
use Rattle.guard_scheduler.specs.Cursor.{Cursor}
use Rattle.abstract_run.specs.declared.label.Label.{Label}
use Rattle.abstract_run.specs.declared.state.State.{State}
use Rattle.abstract_run.specs.Run.{state_after}
use Rattle.tap_exec.specs.Semantics.{Semantics}
use Rattle.abstract_run.specs.Step.{After, step}
use Rattle.exact_choice.specs.Choice.{AllChoose}
use Rattle.exact_choice.specs.Moments.{Moment, moments}

-- the moments behind a first step
abbrev behind : Semantics → List Label → Option After → List Moment
behind semantics ls o = unwrap_or (option_map (λ after. moments semantics after.0 ls) o) []

pub moments_joined : (semantics : Semantics) (s t : State) (labels more : List Label) → state_after semantics s labels ≡ Some t
    → moments semantics s (labels ++ more) ≡ moments semantics s labels ++ moments semantics t more
moments_joined semantics s t [] more e = ap (λ u. moments semantics u more) (let same : s ≡ t = cc in same)
moments_joined semantics s t (l ∷ ls) more e =
    option_and_then_some _ (step semantics s l) t e (λ after is rest.
    ap (λ (ms : List Moment). (s, l) ∷ ms)
    (ap (behind semantics (ls ++ more)) is ∙ moments_joined semantics after.0 t ls more rest ∙ ap (λ (ms : List Moment). ms ++ moments semantics t more) (sym (ap (behind semantics ls) is))))

pub all_joined : (semantics : Semantics) (ms ns : List Moment) (old middle new : List Cursor) → AllChoose semantics ms old middle → AllChoose semantics ns middle new → AllChoose semantics (ms ++ ns) old new
all_joined semantics [] ns old middle new x y = subst (λ (c : List Cursor). AllChoose semantics ns c new) x y
all_joined semantics (m ∷ ms) ns old middle new x y = (x.0, x.1, all_joined semantics ms ns x.0 middle new x.2 y)
