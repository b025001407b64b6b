-- The event of words is found again.
use Rattle.std.proofs.Common.{◌≡◌, ◌<◌, ◌≤◌, ◌^◌, ℕ, List, [], ◌∷◌, length, get_or, refl, ap, sym, subst, ◌∙◌, arith, codes}
use Rattle.std.specs.Fmt.{decimal}
use Rattle.abstract_run.specs.declared.label.Event.{Event}
use Rattle.abstract_run.specs.declared.label.Event.TheVariants as event
use Rattle.run_text.specs.Names.{AreNames}
use Rattle.run_text.specs.ScheduleText.{AreWordsOf, HasLine, event_words, most_events}
use Rattle.run_text.proofs.LineLabels.{counted, found, hex_back, number, place, short, unhex}

abbrev tags : List (List ℕ)
tags = codes "turn" ∷ codes "arrive" ∷ codes "lose" ∷ codes "copy" ∷ codes "move" ∷ codes "damage" ∷ codes "forge" ∷ codes "cut" ∷ []

-- how each kind of event is read from its words
abbrev readers : List (List ℕ) → List (List (List ℕ) → Event)
readers names =
    (λ ws. event.Turn (place names (get_or ws 0 [])) (number (get_or ws 1 [])))
    ∷ (λ ws. event.Arrive (place names (get_or ws 0 [])) (place names (get_or ws 1 [])))
    ∷ (λ ws. event.Lose (place names (get_or ws 0 [])) (place names (get_or ws 1 [])) (number (get_or ws 2 [])))
    ∷ (λ ws. event.Copy (place names (get_or ws 0 [])) (place names (get_or ws 1 [])) (number (get_or ws 2 [])))
    ∷ (λ ws. event.Move (place names (get_or ws 0 [])) (place names (get_or ws 1 [])) (number (get_or ws 2 [])) (number (get_or ws 3 [])))
    ∷ (λ ws. event.Damage (place names (get_or ws 0 [])) (place names (get_or ws 1 [])) (number (get_or ws 2 [])) (unhex (get_or ws 3 [])))
    ∷ (λ ws. event.Forge (place names (get_or ws 0 [])) (place names (get_or ws 1 [])) (unhex (get_or ws 2 [])))
    ∷ (λ ws. event.Cut (place names (get_or ws 0 [])) (number (get_or ws 1 [])))
    ∷ []

-- the only event that words can be of
abbrev pub event_from : List (List ℕ) → List (List ℕ) → Event
event_from names [] = event.Cut 0 0
event_from names (k ∷ ws) = get_or (readers names) (place tags k) (λ ws. event.Cut 0 0) ws

few : (n : ℕ) → n ≤ most_events → number (decimal n) ≡ n
few n h = counted n (omega (arith, h))

pub event_back : (names : List (List ℕ)) (e : Event) → AreNames names → HasLine (length names) e → event_from names (event_words names e) ≡ e
event_back names (event.Turn p c) d h = let a = found names p d.1 h.0 in let b = counted c h.1 in rw (a, b) refl
event_back names (event.Arrive q p) d h = let a = found names q d.1 h.0 in let b = found names p d.1 h.1 in rw (a, b) refl
event_back names (event.Lose q p i) d h = let a = found names q d.1 h.0.0 in let b = found names p d.1 h.0.1 in let c = short i h.1 in rw (a, b, c) refl
event_back names (event.Copy q p i) d h = let a = found names q d.1 h.0.0 in let b = found names p d.1 h.0.1 in let c = short i h.1 in rw (a, b, c) refl
event_back names (event.Move q p i j) d h = let a = found names q d.1 h.0.0 in let b = found names p d.1 h.0.1 in let c = short i h.1 in let e = short j h.2 in rw (a, b, c, e) refl
event_back names (event.Damage q p i bytes) d h = let a = found names q d.1 h.0.0 in let b = found names p d.1 h.0.1 in let c = short i h.1 in let e = hex_back bytes h.2.1 in rw (a, b, c, e) refl
event_back names (event.Forge q p bytes) d h = let a = found names q d.1 h.0.0 in let b = found names p d.1 h.0.1 in let e = hex_back bytes h.1.1 in rw (a, b, e) refl
event_back names (event.Cut p n) d h = let a = found names p d.1 h.0 in let b = few n h.1 in rw (a, b) refl

-- what words of some event say, they say of that event
pub of_words : (names words : List (List ℕ)) (e : Event) → AreNames names → AreWordsOf names words e → AreWordsOf names words (event_from names words)
of_words names words e named h = subst (AreWordsOf names words) (sym (ap (event_from names) h.1 ∙ event_back names e named h.0)) h

pub one_event : (names words : List (List ℕ)) (e f : Event) → AreNames names → AreWordsOf names words e → AreWordsOf names words f → e ≡ f
one_event names words e f named h k = sym (event_back names e named h.0) ∙ ap (event_from names) (sym h.1 ∙ k.1) ∙ event_back names f named k.0
