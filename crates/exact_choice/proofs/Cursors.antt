-- The cursors go round the actions of the processes, all along a run.
use Rattle.std.proofs.Common.{◌≡◌, ◌∙◌, refl, ap, ℕ, List, [], ◌∷◌, map, length}
use Rattle.tap_base.proofs.ListFacts.{map_set}
use Rattle.guard_scheduler.specs.Cursor.{Cursor}
use Rattle.abstract_run.specs.declared.label.Label.TheVariants as label
use Rattle.abstract_run.specs.declared.state.State.{State}
use Rattle.tap_exec.specs.Semantics.{ProcessSemantics, Semantics}
use Rattle.exact_choice.specs.Choice.{AllChoose, AreCursorsOf, Chooses, ChoosesAct, opening_cursors}
use Rattle.exact_choice.specs.Moments.{Moment}

opened : (ps : List ProcessSemantics) → map (λ (c : Cursor). c.places) (map (λ (p : ProcessSemantics). record { places = length p.actions; at = 0 }) ps) ≡ map (λ (p : ProcessSemantics). length p.actions) ps
opened [] = refl
opened (p ∷ ps) = ap (λ ns. length p.actions ∷ ns) (opened ps)

pub cursors_opened : (semantics : Semantics) → AreCursorsOf semantics (opening_cursors semantics)
cursors_opened semantics = opened semantics.processes

act_places : (semantics : Semantics) (s : State) (p a : ℕ) (old new : List Cursor) → ChoosesAct semantics s p a old new → map (λ (c : Cursor). c.places) new ≡ map (λ (c : Cursor). c.places) old
act_places semantics s p a old new x =
    ap (map (λ (c : Cursor). c.places)) x.moved ∙ map_set (λ (c : Cursor). c.places) old p x.from x.to x.stood (ap (λ (c : Cursor). c.places) x.next.moved)

one_places : (semantics : Semantics) (m : Moment) (old new : List Cursor) → Chooses semantics m old new → map (λ (c : Cursor). c.places) new ≡ map (λ (c : Cursor). c.places) old
one_places semantics (s, label.Act p a choices) old new x = act_places semantics s p a old new x
one_places semantics (s, _) old new x = ap (map (λ (c : Cursor). c.places)) x

all_places : (semantics : Semantics) (ms : List Moment) (old new : List Cursor) → AllChoose semantics ms old new → map (λ (c : Cursor). c.places) new ≡ map (λ (c : Cursor). c.places) old
all_places semantics [] old new x = ap (map (λ (c : Cursor). c.places)) x
all_places semantics (m ∷ ms) old new x = all_places semantics ms x.0 new x.2 ∙ one_places semantics m old x.0 x.1

pub cursors_kept : (semantics : Semantics) (ms : List Moment) (old new : List Cursor) → AllChoose semantics ms old new → AreCursorsOf semantics old → AreCursorsOf semantics new
cursors_kept semantics ms old new x h = all_places semantics ms old new x ∙ h
