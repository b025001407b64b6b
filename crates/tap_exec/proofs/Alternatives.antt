-- A round among branches.
use Rattle.std.proofs.Common.{◌≡◌, ℕ, ℤ, suc, ◌+◌, Bool, true, false, List, [], ◌∷◌, map, refl, ap, sym, rules, ◌∙◌, slice_get, Option, Some, None}
use Rattle.std.proofs.lemmas.Option.{slice_get-map}
use Rattle.tap_base.specs.declared.tree.Branch.{Branch}
use Rattle.tap_base.specs.declared.tree.Stmt.{Stmt}
use Rattle.tap_base.specs.declared.tree.Stmt.{the_lemmas}
use Rattle.tap_base.specs.declared.wire.WireField.{WireField}
use Rattle.tap_base.specs.Option.{◌>>=◌}
use Rattle.tap_exec.specs.declared.running.Running.{Running}
use Rattle.tap_exec.specs.Computed.{computed}
use Rattle.tap_exec.specs.Sourced.{Source, alternative, one_runs, exec_all, rounds, round, open_from, Alternative}
use Rattle.tap_exec.specs.inner.Does.{Does, DoesRound}

-- which branches are open does not hang on the declared messages
same_guard : {C : Type 0} (source : Source C) (ms : List (List WireField)) (inputs received : List ℤ) (b : Branch) (r : Running C)
    → (alternative computed ms inputs received source b).0 r ≡ (alternative computed [] inputs received source b).0 r
same_guard source ms inputs received b r = search (rules, the_lemmas)

pub open_same : {C : Type 0} (source : Source C) (ms : List (List WireField)) (inputs received : List ℤ) (i : ℕ) (bs : List Branch) (r : Running C)
    → open_from i (map (alternative computed ms inputs received source) bs) r ≡ open_from i (map (alternative computed [] inputs received source) bs) r
open_same source ms inputs received i [] r = refl
open_same source ms inputs received i (b ∷ bs) r = rw (same_guard source ms inputs received b r, open_same source ms inputs received (i + 1) bs r) refl

module _ {C : Type 0} (source : Source C) (ms : List (List WireField)) (inputs received : List ℤ) where
  abbrev pub told : Branch → Alternative C
  told = alternative computed ms inputs received source

  abbrev pub run : List Stmt → Running C → Option (Running C)
  run = exec_all computed ms inputs received source

  body_of : (b : Branch) (r : Running C) → (told b).1 r ≡ run b.body r
  body_of b r = search (rules, the_lemmas)

  branch_at : (bs : List Branch) (k : ℕ) (b : Branch) (r : Running C) → slice_get bs k ≡ Some b
      → one_runs (map told bs) k r ≡ (run b.body r >>= λ after. Some (true, after))
  branch_at bs k b r h = rw (slice_get-map told bs k, h) (rw (body_of b r) refl)

  pub branch_done : (bs : List Branch) (k : ℕ) (b : Branch) (r : Running C) (xs : List Stmt) (done : Bool) (new : Running C)
      → slice_get bs k ≡ Some b → xs ≡ b.body → Does (run xs r) done new → done ≡ true → one_runs (map told bs) k r ≡ Some (true, new)
  branch_done bs k b r xs true new at e h d =
      let ran : run b.body r ≡ Some new = ap (λ ys. run ys r) (sym e) ∙ h in
      branch_at bs k b r at ∙ rw ran refl
  branch_done bs k b r xs false new at e h d = cc

  pub branch_undone : (bs : List Branch) (k : ℕ) (b : Branch) (r : Running C) (xs : List Stmt) (done : Bool) (new : Running C)
      → slice_get bs k ≡ Some b → xs ≡ b.body → Does (run xs r) done new → done ≡ false → one_runs (map told bs) k r ≡ None
  branch_undone bs k b r xs true new at e h d = cc
  branch_undone bs k b r xs false new at e h d =
      let ran : run b.body r ≡ None = ap (λ ys. run ys r) (sym e) ∙ h in
      branch_at bs k b r at ∙ rw ran refl

round_ran : {C : Type 0} (expected : Option (Bool × Running C)) (answer : Option Bool) (x : Bool) (new : Running C) → DoesRound expected answer new → answer ≡ Some x → expected ≡ Some (x, new)
round_ran expected None x new h e = cc
round_ran expected (Some y) x new h e = cc

round_stopped : {C : Type 0} (expected : Option (Bool × Running C)) (answer : Option Bool) (new : Running C) → DoesRound expected answer new → answer ≡ None → expected ≡ None
round_stopped expected None new h e = h
round_stopped expected (Some y) new h e = cc

module _ {C : Type 0} (source : Source C) (m : ℕ) (bs : List (Alternative C)) (ready xs : List ℕ) (r new : Running C) (answer : Option Bool) where
  pub rounds_step : (x : Bool) → open_from 0 bs r ≡ Some ready → xs ≡ ready → DoesRound (round source bs xs r) answer new → answer ≡ Some x → x ≡ true
      → rounds source (suc m) bs r ≡ rounds source m bs new
  rounds_step x h e ran is t =
      let there : round source bs ready r ≡ Some (true, new) = ap (λ ys. round source bs ys r) (sym e) ∙ round_ran _ answer x new ran is ∙ ap (λ y. Some (y, new)) t in
      rw (h, there) refl

  pub rounds_end : (x : Bool) → open_from 0 bs r ≡ Some ready → xs ≡ ready → DoesRound (round source bs xs r) answer new → answer ≡ Some x → x ≡ false
      → rounds source (suc m) bs r ≡ Some new
  rounds_end x h e ran is t =
      let there : round source bs ready r ≡ Some (false, new) = ap (λ ys. round source bs ys r) (sym e) ∙ round_ran _ answer x new ran is ∙ ap (λ y. Some (y, new)) t in
      rw (h, there) refl

  pub rounds_undone : open_from 0 bs r ≡ Some ready → xs ≡ ready → DoesRound (round source bs xs r) answer new → answer ≡ None → rounds source (suc m) bs r ≡ None
  rounds_undone h e ran is =
      let there : round source bs ready r ≡ None = ap (λ ys. round source bs ys r) (sym e) ∙ round_stopped _ answer new ran is in
      rw (h, there) refl

pub rounds_closed : {C : Type 0} (source : Source C) (m : ℕ) (bs : List (Alternative C)) (r : Running C) → open_from 0 bs r ≡ None → rounds source (suc m) bs r ≡ None
rounds_closed source m bs r h = rw h refl
