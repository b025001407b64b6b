-- Two actions that are always enabled take turns.
use Rattle.std.proofs.Common.{◌≡◌, ◌∙◌, refl, ap, sym, arith, ℕ, true, List, [], ◌∷◌, slice_get, Some}
use Rattle.guard_scheduler.specs.Cursor.{Cursor}
use Rattle.guard_scheduler.specs.Cyclic.{ComesBefore, place_after}
use Rattle.abstract_run.specs.declared.state.State.{State}
use Rattle.abstract_run.specs.Enabled.{is_enabled}
use Rattle.exact_choice.specs.Choice.{ChoosesAct}
use Rattle.exact_choice.specs.Worked.{NotTwice, TurnsGoRound, two_actions}

-- nothing comes before the place that is looked at first
none_before : (c b : ℕ) → ComesBefore c b c → ⊥
none_before c b h = grind (arith, h)

abbrev at : ℕ → Cursor
at n = record { places = 2; at = n }

-- the action at which the cursor stands runs
runs : (s : State) (a n : ℕ) → is_enabled two_actions s 0 a ≡ true → place_after 2 a ≡ n → ChoosesAct two_actions s 0 a (at a ∷ []) (at n ∷ [])
runs s a n able next = record {
  from = at a;
  stood = refl;
  to = at n;
  next = record { first = record { wanted = able; first = λ b h. absurd (none_before a b h) }; moved = ap at (sym next) };
  moved = refl;
}

pub go_round : TurnsGoRound
go_round = record {
  cursors = at 1 ∷ [];
  all = (at 1 ∷ [], runs _ 0 1 refl refl, (at 1 ∷ [], refl, (at 0 ∷ [], runs _ 1 0 refl refl, (at 1 ∷ [], runs _ 0 1 refl refl, refl))));
}

-- once the first action has run, the cursor stands at the second
stands_at_second : (s : State) (middle : List Cursor) (c : Cursor) → ChoosesAct two_actions s 0 0 (at 0 ∷ []) middle → slice_get middle 0 ≡ Some c → c.at ≡ 1
stands_at_second s middle c x e =
    let from : x.from ≡ at 0 = let h = x.stood in cc in
    let to : x.to ≡ at 1 = x.next.moved ∙ ap (λ (d : Cursor). record d { at = place_after d.places 0 }) from in
    let there : Some c ≡ Some x.to = sym e ∙ ap (λ (cs : List Cursor). slice_get cs 0) x.moved in
    ap (λ (d : Cursor). d.at) ((let same : c ≡ x.to = cc in same) ∙ to)

pub not_twice : NotTwice
not_twice x =
    let z = x.all.2.1 in
    let stands = stands_at_second _ x.all.0 z.from x.all.1 z.stood in
    z.next.first.first 1 (let at = stands in grind arith) refl
