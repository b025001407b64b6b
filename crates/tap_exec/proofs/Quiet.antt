-- What does the same whatever choices there are.
use Rattle.std.proofs.Common.{◌≡◌, ◌&&◌, ◌^◌, ℕ, ℤ, pos, int_le, int_lt, unsigned_abs, List, [], ◌∷◌, refl, ap, sym, ◌∙◌, slice_get, Option, Some, None}
use Rattle.std.specs.Option.{option_map}
use Rattle.tap_base.specs.declared.tree.Expr.{Expr}
use Rattle.tap_base.specs.declared.tree.Target.{Target}
use Rattle.tap_base.specs.declared.wire.WireField.{WireField}
use Rattle.tap_base.specs.Lists.{Each}
use Rattle.tap_base.specs.Option.{◌>>=◌, each, provided}
use Rattle.tap_exec.specs.Running.{Running}
use Rattle.tap_exec.specs.Execution.{Doing, assigned, do_all, place_in, sent, started, value_in}
use Rattle.tap_exec.specs.Filling.{filled}

abbrev pub with_choices : Running → List ℤ → Running
with_choices r rest = record r { choices = rest }

-- it does the same whatever choices there are, and leaves them
abbrev pub Quiet : Doing → Type 0
Quiet d = (r : Running) (rest : List ℤ) → d (with_choices r rest) ≡ option_map (λ t. with_choices t rest) (d r)

some_map : (o : Option Running) (rest : List ℤ) (t : Running) → o ≡ Some t → option_map (λ u. with_choices u rest) o ≡ Some (with_choices t rest)
some_map o rest t e = ap (option_map (λ u. with_choices u rest)) e

-- it took no choice: with any others it does the same, and leaves those
pub record LeavesChoices (body : Doing) (before after : Running) : Type 0 where
  pub left : after.choices ≡ before.choices
  pub same : (rest : List ℤ) → body (with_choices before rest) ≡ Some (with_choices after rest)

pub quiet_leaves : (d : Doing) → Quiet d → (before after : Running) → d before ≡ Some after → LeavesChoices d before after
quiet_leaves d q before after is =
    let left : Some after ≡ Some (with_choices after before.choices) = sym is ∙ q before before.choices ∙ some_map (d before) before.choices after is in
    let same : after ≡ with_choices after before.choices = cc in
    record {
      left = ap (λ (r : Running). r.choices) same;
      same = λ rest. q before rest ∙ some_map (d before) rest after is;
    }

-- what does the same as something quiet
pub quiet_as : (c d : Doing) → ((r : Running) → c r ≡ d r) → Quiet d → Quiet c
quiet_as c d e q r rest = e (with_choices r rest) ∙ q r rest ∙ ap (option_map (λ t. with_choices t rest)) (sym (e r))

-- a step that does not read the choices, and one behind it that leaves them
pub map_bind : {A : Type 0} (o : Option A) (f g : A → Option Running) (rest : List ℤ) → ((a : A) → g a ≡ option_map (λ t. with_choices t rest) (f a))
    → (o >>= g) ≡ option_map (λ t. with_choices t rest) (o >>= f)
map_bind None f g rest h = refl
map_bind (Some a) f g rest h = h a

-- ---- one after the other

quiet_behind : (o : Option Running) (e : Doing) (rest : List ℤ) → Quiet e → (option_map (λ t. with_choices t rest) o >>= e) ≡ option_map (λ t. with_choices t rest) (o >>= e)
quiet_behind None e rest q = refl
quiet_behind (Some t) e rest q = q t rest

pub quiet_then : (d e : Doing) → Quiet d → Quiet e → Quiet (λ r. d r >>= e)
quiet_then d e q k r rest = ap (λ o. o >>= e) (q r rest) ∙ quiet_behind (d r) e rest k

pub quiet_all : (ds : List Doing) → Each Quiet ds → Quiet (do_all ds)
quiet_all [] h r rest = refl
quiet_all (d ∷ ds) h r rest = quiet_then d (do_all ds) h.0 (quiet_all ds h.1) r rest

-- ---- statements

module _ (value : Expr → List ℤ → List ℤ → List ℤ → Option ℤ) (messages : List (List WireField)) (inputs received : List ℤ) where
  pub assigned_quiet : (targets : List Target) (values : List Expr) → Quiet (assigned value messages inputs received targets values)
  assigned_quiet targets values r rest =
      map_bind (each (place_in value messages inputs received r) targets) _ _ rest (λ places.
      map_bind (each (value_in value messages inputs received r) values) _ _ rest (λ numbers. refl))

  pub sent_quiet : (m : ℕ) (given : List Expr) (q : ℕ) → Quiet (sent value messages inputs received m given q)
  sent_quiet m given q r rest =
      map_bind (slice_get messages m) _ _ rest (λ fields.
      map_bind (each (value_in value messages inputs received r) given) _ _ rest (λ numbers.
      map_bind (filled fields numbers) _ _ rest (λ values. refl)))

  pub started_quiet : (t : ℕ) (delay : Expr) → Quiet (started value messages inputs received t delay)
  started_quiet t delay r rest =
      map_bind (value_in value messages inputs received r delay) _ _ rest (λ d.
      map_bind (provided (int_le (pos 0) d && int_lt d (pos (2 ^ 32))) (unsigned_abs d)) _ _ rest (λ wait. refl))
