-- What a process receives from another, as a list.
use Rattle.std.proofs.Common.{◌≡◌, ℕ, List, [], ◌∷◌, refl, ap, sym, ◌∙◌, subst, Bool, true, false, Option, Some, None}
use Rattle.std.specs.Prelude.{slice_get, ◌==◌, if◌then◌else◌}
use Rattle.std.specs.List.{Contains}
use Rattle.std.proofs.lemmas.Bool.Decides.{Decides-eqb}
use Rattle.tap_base.specs.Option.{◌>>=◌}
use Rattle.byte_meaning.specs.Messages.{Receives}
use Rattle.tap_exec.specs.Semantics.{Semantics, ActionSemantics, ProcessSemantics, GuardSemantics, local, receive, timeout, action_at}
use Rattle.byte_meaning.specs.Reading.{heard_by, heard_in, heard}
use Rattle.byte_meaning.proofs.Elements.{flat_given, flat_giver, itself, no_element, one_element}

heard_at : (q m : ℕ) (g : GuardSemantics) → Contains (heard_by q g) m → g ≡ receive m q
heard_at q m (receive n r) h = by_test (r == q) refl h where
  by_test : (b : Bool) → (r == q) ≡ b → Contains (if b then n ∷ [] else []) m → receive n r ≡ receive m q
  by_test true e c = let peer : r ≡ q = (Decides-eqb r q).0 e in let number : n ≡ m = one_element n m c in cc
  by_test false e c = absurd (no_element m c)
heard_at q m (local test) h = absurd (no_element m h)
heard_at q m (timeout t) h = absurd (no_element m h)

heard_here : (q m : ℕ) (g : GuardSemantics) → g ≡ receive m q → Contains (heard_by q g) m
heard_here q m g e =
    let same : (q == q) ≡ true = (Decides-eqb q q).1 refl in
    subst (λ xs. Contains xs m) (sym (ap (heard_by q) e ∙ ap (λ b. if b then m ∷ [] else []) same)) (itself m m refl)

-- what the actions receive from q
abbrev heard_from : ℕ → ActionSemantics → List ℕ
heard_from q a = heard_by q a.guard

pub received_when_heard : (semantics : Semantics) (q p m : ℕ) → Contains (heard semantics q p) m → Receives semantics p m q
received_when_heard semantics q p m h = by_process (slice_get semantics.processes p) refl h where
  by_process : (o : Option ProcessSemantics) → slice_get semantics.processes p ≡ o → Contains (heard_in q o) m → Receives semantics p m q
  by_process None is c = absurd (no_element m c)
  by_process (Some process) is c =
      let a = flat_giver (heard_from q) process.actions m c in
      record { number = a.0; action = a.1; there = ap (λ o. o >>= λ (x : ProcessSemantics). slice_get x.actions a.0) is ∙ a.2; guard = heard_at q m a.1.guard a.3 }

pub heard_when_received : (semantics : Semantics) (q p m : ℕ) → Receives semantics p m q → Contains (heard semantics q p) m
heard_when_received semantics q p m r = by_process (slice_get semantics.processes p) refl where
  by_process : (o : Option ProcessSemantics) → slice_get semantics.processes p ≡ o → Contains (heard_in q o) m
  by_process None is = let e : action_at semantics p r.number ≡ None = ap (λ o. o >>= λ (x : ProcessSemantics). slice_get x.actions r.number) is in let there = r.there in absurd (cc)
  by_process (Some process) is =
      let e : action_at semantics p r.number ≡ slice_get process.actions r.number = ap (λ o. o >>= λ (x : ProcessSemantics). slice_get x.actions r.number) is in
      flat_given (heard_from q) process.actions m r.number r.action (sym e ∙ r.there) (heard_here q m r.action.guard r.guard)
