-- What a change of one channel does to the errors that have arrived in each.
use Rattle.std.proofs.Common.{◌≡◌, ◌∙◌, ◌+◌, ◌≤◌, ◌==◌, refl, ap, sym, subst, ℕ, Bool, true, false, if◌then◌else◌, List, [], ◌∷◌, length, Option, Some}
use Rattle.std.specs.Prelude.{unwrap_or}
use Rattle.std.specs.Option.{option_map}
use Rattle.std.proofs.lemmas.Bool.{eqb-true, eqb-false}
use Rattle.tap_base.specs.Lists.{Each}
use Rattle.abstract_run.specs.declared.state.Channel.{Channel}
use Rattle.abstract_run.specs.Channels.{joins}
use Rattle.abstract_run.specs.Fits.{IsFitChannel}
use Rattle.abstract_run.proofs.Found.{channel_of_is, found}
use Rattle.abstract_run.proofs.OnChannel.{Left, changed, here, joined, later, left_by}
use Rattle.exact_choice.specs.Rejects.{arrived_errors, errors_from}

-- how many errors from q have arrived at p, in the channel that is found
abbrev pub bad_of : Option Channel → ℕ
bad_of o = unwrap_or (option_map arrived_errors o) 0

abbrev pub bad : ℕ → ℕ → List Channel → ℕ
bad q p cs = bad_of (found q p cs)

pub bad_is : (q p : ℕ) (cs : List Channel) → errors_from cs q p ≡ bad q p cs
bad_is q p cs = ap bad_of (channel_of_is q p cs)

-- as many errors stand in each
abbrev pub Same : List Channel → List Channel → Type 0
Same cs ds = (q p : ℕ) → bad q p ds ≡ bad q p cs

-- ---- the channel that is changed

abbrev pub KeepsEnds : (Channel → Option Channel) → Type 0
KeepsEnds f = (c d : Channel) → f c ≡ Some d → (d.from ≡ c.from) × (d.to ≡ c.to)

-- all others are found as they were
pub record Turned (q p : ℕ) (f : Channel → Option Channel) (cs ds : List Channel) : Type 0 where
  pub before : Channel
  pub after : Channel
  pub within : before.mark ≤ length before.cells
  pub stood : found q p cs ≡ Some before
  pub change : f before ≡ Some after
  pub now : found q p ds ≡ Some after
  pub others : (a b : ℕ) → ((a ≡ q) × (b ≡ p) → ⊥) → found a b ds ≡ found a b cs

found_here : (q p : ℕ) (c : Channel) (cs : List Channel) → joins q p c ≡ true → found q p (c ∷ cs) ≡ Some c
found_here q p c cs is = rw is refl

found_later : (q p : ℕ) (c : Channel) (cs : List Channel) → joins q p c ≡ false → found q p (c ∷ cs) ≡ found q p cs
found_later q p c cs is = rw is refl

not_joined : (q p a b : ℕ) (c : Channel) → joins q p c ≡ true → ((a ≡ q) × (b ≡ p) → ⊥) → joins a b c ≡ false
not_joined q p a b c is other = by_test (joins a b c) refl where
  by_test : (t : Bool) → joins a b c ≡ t → t ≡ false
  by_test false at = refl
  by_test true at = let x = joined q p c is in let y = joined a b c at in absurd (other (sym y.0 ∙ x.0, sym y.1 ∙ x.1))

joins_same : (a b : ℕ) (c d : Channel) → d.from ≡ c.from → d.to ≡ c.to → joins a b d ≡ joins a b c
joins_same a b c d from to = rw (from, to) refl

pub turned : (q p : ℕ) (f : Channel → Option Channel) → KeepsEnds f → (cs ds : List Channel) → Each IsFitChannel cs → changed q p f cs ≡ Some ds → Turned q p f cs ds
turned q p f keep [] ds fit e = cc
turned q p f keep (c ∷ cs) ds fit e = by_place (left_by q p f c cs ds e) (λ es done. turned q p f keep cs es fit.1 done) where
  by_place : Left q p f c cs ds → ((es : List Channel) → changed q p f cs ≡ Some es → Turned q p f cs es) → Turned q p f (c ∷ cs) ds
  by_place (here d is done same) more =
      let ends = keep c d done in
      subst (Turned q p f (c ∷ cs)) (sym same) (record {
        before = c;
        after = d;
        within = fit.0.1;
        stood = found_here q p c cs is;
        change = done;
        now = found_here q p d cs (joins_same q p c d ends.0 ends.1 ∙ is);
        others = λ a b other.
            let not = not_joined q p a b c is other in
            found_later a b d cs (joins_same a b c d ends.0 ends.1 ∙ not) ∙ sym (found_later a b c cs not);
      })
  by_place (later es is done same) more =
      let x = more es done in
      subst (Turned q p f (c ∷ cs)) (sym same) (record {
        before = x.before;
        after = x.after;
        within = x.within;
        stood = found_later q p c cs is ∙ x.stood;
        change = x.change;
        now = found_later q p c es is ∙ x.now;
        others = λ a b other. ap (λ (o : Option Channel). if joins a b c then Some c else o) (x.others a b other);
      })

-- ---- its errors

-- where a change takes m errors from the channel and puts n there, the other channels to p have the errors that they had
pub counted_to : (q p : ℕ) (f : Channel → Option Channel) (cs ds : List Channel) (m n : ℕ) (x : Turned q p f cs ds) → arrived_errors x.after + m ≡ arrived_errors x.before + n
    → (a : ℕ) → bad a p ds + (if q == a then m else 0) ≡ bad a p cs + (if q == a then n else 0)
counted_to q p f cs ds m n x h a = by_test (q == a) refl where
  by_test : (b : Bool) → (q == a) ≡ b → bad a p ds + (if b then m else 0) ≡ bad a p cs + (if b then n else 0)
  by_test true is =
      let same = eqb-true q a is in
      subst (λ r. bad r p ds + m ≡ bad r p cs + n) same (ap (λ o. bad_of o + m) x.now ∙ h ∙ ap (λ o. bad_of o + n) (sym x.stood))
  by_test false is = ap (λ o. bad_of o + 0) (x.others a p (λ both. eqb-false q a is (sym both.0)))

-- those to another process have the errors that they had
pub counted_elsewhere : (q p : ℕ) (f : Channel → Option Channel) (cs ds : List Channel) → Turned q p f cs ds → (a b : ℕ) → (p ≡ b → ⊥) → bad a b ds ≡ bad a b cs
counted_elsewhere q p f cs ds x a b other = ap bad_of (x.others a b (λ both. other (sym both.1)))

-- a change that leaves the errors of the channel leaves those of all
pub counted_same : (q p : ℕ) (f : Channel → Option Channel) (cs ds : List Channel) (x : Turned q p f cs ds) → arrived_errors x.after ≡ arrived_errors x.before → Same cs ds
counted_same q p f cs ds x h = λ a b. by_tests a b (q == a) (p == b) refl refl where
  by_tests : (a b : ℕ) (t u : Bool) → (q == a) ≡ t → (p == b) ≡ u → bad a b ds ≡ bad a b cs
  by_tests a b true true is at =
      subst (λ r. bad r b ds ≡ bad r b cs) (eqb-true q a is) (subst (λ r. bad q r ds ≡ bad q r cs) (eqb-true p b at) (ap bad_of x.now ∙ h ∙ ap bad_of (sym x.stood)))
  by_tests a b false u is at = ap bad_of (x.others a b (λ both. eqb-false q a is (sym both.0)))
  by_tests a b true false is at = ap bad_of (x.others a b (λ both. eqb-false p b at (sym both.1)))
