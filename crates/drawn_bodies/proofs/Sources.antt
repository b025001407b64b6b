-- What does the same whatever gives the choices, and leaves what gives them.
use Rattle.std.proofs.Common.{◌≡◌, ◌&&◌, ◌^◌, ℕ, ℤ, pos, List, refl, Option, Some, None, slice_get, unsigned_abs, int_le, int_lt}
use Rattle.std.specs.Option.{option_map}
use Rattle.tap_base.specs.declared.tree.Expr.{Expr}
use Rattle.tap_base.specs.declared.tree.Target.{Target}
use Rattle.tap_base.specs.declared.wire.WireField.{WireField}
use Rattle.tap_base.specs.Option.{◌>>=◌, each, provided}
use Rattle.tap_exec.specs.declared.running.Running.{Running as Open}
use Rattle.tap_exec.specs.Filling.{filled}
use Rattle.tap_exec.specs.Running.{Running}
use Rattle.tap_exec.specs.Sourced.{Doing, assigned, place_in, sent, started, value_in}
use Rattle.drawn_bodies.proofs.Trees.{with_source}

-- with a source it does what it does with a list
abbrev pub Same : {C : Type 0} → Doing (List ℤ) → Doing C → Type 0
Same {C = C} d e = (r : Running) (c : C) → e (with_source r c) ≡ option_map (λ (t : Running). with_source t c) (d r)

bound : {A C : Type 0} (c : C) (o : Option A) (f : A → Option (Open C)) (g : A → Option Running) → ((a : A) → f a ≡ option_map (λ (t : Running). with_source t c) (g a))
    → (o >>= f) ≡ option_map (λ (t : Running). with_source t c) (o >>= g)
bound c None f g h = refl
bound c (Some a) f g h = h a

module _ {C : Type 0} (value : Expr → List ℤ → List ℤ → List ℤ → Option ℤ) (messages : List (List WireField)) (inputs received : List ℤ) where
  pub assigned_same : (targets : List Target) (values : List Expr) → Same {C = C} (assigned value messages inputs received targets values) (assigned value messages inputs received targets values)
  assigned_same targets values r c =
      bound c (each (place_in value messages inputs received r) targets) _ _ (λ places.
      bound c (each (value_in value messages inputs received r) values) _ _ (λ numbers. refl))

  pub sent_same : (m : ℕ) (given : List Expr) (q : ℕ) → Same {C = C} (sent value messages inputs received m given q) (sent value messages inputs received m given q)
  sent_same m given q r c =
      bound c (slice_get messages m) _ _ (λ fields.
      bound c (each (value_in value messages inputs received r) given) _ _ (λ numbers.
      bound c (filled fields numbers) _ _ (λ values. refl)))

  pub started_same : (t : ℕ) (delay : Expr) → Same {C = C} (started value messages inputs received t delay) (started value messages inputs received t delay)
  started_same t delay r c =
      bound c (value_in value messages inputs received r delay) _ _ (λ d.
      bound c (provided (int_le (pos 0) d && int_lt d (pos (2 ^ 32))) (unsigned_abs d)) _ _ (λ wait. refl))
