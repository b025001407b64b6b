-- A schedule with a bad line is no schedule of events.
use Rattle.std.proofs.Common.{◌≡◌, ◌≢◌, ◌≤◌, ◌+◌, ◌⊎◌, inl, inr, ℕ, List, [], ◌∷◌, ◌++◌, length, refl, ap, sym, subst, ◌∙◌, arith, append_assoc, append-nil, codes}
use Rattle.std.specs.Fmt.{decimal}
use Rattle.tap_base.specs.Lists.{Each}
use Rattle.tap_base.proofs.ListFacts.{each_append}
use Rattle.tap_base.specs.LineWords.{IsWord}
use Rattle.abstract_run.specs.declared.label.Event.{Event}
use Rattle.abstract_run.specs.declared.label.Event.TheVariants as event
use Rattle.abstract_run.specs.declared.label.Label.TheVariants as label
use Rattle.run_text.specs.Names.{AreNames}
use Rattle.run_text.specs.Reads.{NothingIs}
use Rattle.run_text.specs.ScheduleText.{BeginsBadly, GoesOnAfter, HasLine, IsFirstLine, IsLineOf, IsOfNoEvent, Lacks, NeverBoth, event_line, events_text, most_events}
use Rattle.run_text.specs.TraceText.{line_of, name_at}
use Rattle.run_text.proofs.LineLabels.{decimal_word, free_word, joined_unbroken, line_unbroken, name_word, unbroken}
use Rattle.run_text.proofs.Lines.{one_event_line}
use Rattle.run_text.proofs.LineWords.{behind, lines_split}

-- ---- lines of events

-- the words of a line have no line feed, so the line has none
words_unbroken : (w : List ℕ) (ws : List (List ℕ)) → IsWord w → Each IsWord ws → Lacks 10 (line_of (w ∷ ws))
words_unbroken w ws h k = each_append (λ b. b ≢ 10) w (behind 32 ws) (unbroken w h) (joined_unbroken ws k)

has_unbroken : (names : List (List ℕ)) (e : Event) → AreNames names → HasLine (length names) e → Lacks 10 (event_line names e)
has_unbroken names (event.Turn p c) named h =
    let words = name_at names p ∷ decimal c ∷ [] in
    let free : Each IsWord words = (name_word names p named.0 h.0, (decimal_word c h.1, tt)) in
    words_unbroken (codes "turn") words (free_word (codes "turn") refl) free
has_unbroken names (event.Arrive q p) named h = line_unbroken names (label.Arrive q p) named.0 (h.0, h.1)
has_unbroken names (event.Lose q p i) named h = line_unbroken names (label.Lose q p i) named.0 (h.0.0, h.0.1, h.1)
has_unbroken names (event.Copy q p i) named h = line_unbroken names (label.Copy q p i) named.0 (h.0.0, h.0.1, h.1)
has_unbroken names (event.Move q p i j) named h = line_unbroken names (label.Move q p i j) named.0 (h.0.0, h.0.1, h.1, h.2)
has_unbroken names (event.Damage q p i bytes) named h = line_unbroken names (label.Damage q p i bytes) named.0 (h.0.0, h.0.1, h.1, h.2)
has_unbroken names (event.Forge q p bytes) named h = line_unbroken names (label.Forge q p bytes) named.0 (h.0.0, h.0.1, h.1)
has_unbroken names (event.Cut p n) named h = line_unbroken names (label.Cut p n) named.0 (h.0, omega (arith, h.1))

first_of : (names : List (List ℕ)) (e : Event) (es : List Event) (more : List ℕ) → events_text names (e ∷ es) ++ more ≡ event_line names e ++ 10 ∷ (events_text names es ++ more)
first_of names e es more = ap (λ t. t ++ more) (append_assoc (event_line names e) (10 ∷ []) (events_text names es)) ∙ append_assoc (event_line names e) (10 ∷ events_text names es) more

whole_of : (names : List (List ℕ)) (e : Event) (es : List Event) → events_text names (e ∷ es) ≡ event_line names e ++ 10 ∷ events_text names es
whole_of names e es = append_assoc (event_line names e) (10 ∷ []) (events_text names es)

not_empty : (w r : List ℕ) → [] ≡ w ++ 10 ∷ r → ⊥
not_empty [] r e = cc
not_empty (x ∷ w) r e = cc

-- ---- the events that are left

record Left (names : List (List ℕ)) (events first : List Event) (text : List ℕ) : Type 0 where
  left : List Event
  listed : Each (HasLine (length names)) left
  counted : length events ≡ length first + length left
  is : text ≡ events_text names left

left : (names : List (List ℕ)) (first events : List Event) (text : List ℕ) → AreNames names → Each (HasLine (length names)) first → Each (HasLine (length names)) events
    → events_text names first ++ text ≡ events_text names events → Left names events first text
left names [] events text named h k same = record { left = events; listed = k; counted = omega arith; is = same }
left names (f ∷ fs) [] text named h k same = absurd (not_empty (event_line names f) (events_text names fs ++ text) (sym same ∙ first_of names f fs text))
left names (f ∷ fs) (e ∷ es) text named h k same =
    let both = lines_split (event_line names f) (event_line names e) _ _ (has_unbroken names f named h.0) (has_unbroken names e named k.0) (sym (first_of names f fs text) ∙ same ∙ whole_of names e es) in
    let rest = left names fs es text named h.1 k.1 both.1 in
    record { left = rest.left; listed = rest.listed; counted = omega (arith, rest.counted); is = rest.is }

-- nothing, or one line feed
data IsTail : List ℕ → Type 0 where
  none : IsTail []
  feed : IsTail (10 ∷ [])

empty_front : (xs ys : List ℕ) → xs ++ ys ≡ [] → xs ≡ []
empty_front [] ys e = refl
empty_front (x ∷ xs) ys e = cc

broken : (w r line : List ℕ) → Lacks 10 line → line ≡ w ++ 10 ∷ r → ⊥
broken [] r line lacks e = let h = subst (Lacks 10) e lacks in h.0 refl
broken (x ∷ w) r [] lacks e = cc
broken (x ∷ w) r (y ∷ line) lacks e = broken w r line lacks.1 (tails e) where
  tails : {a b : ℕ} {as_ bs : List ℕ} → a ∷ as_ ≡ b ∷ bs → as_ ≡ bs
  tails e = cc

-- the first line of a text that begins with the line of an event is that line
first_line_is : (names : List (List ℕ)) (e : Event) (es : List Event) (rest line behind tail : List ℕ) → AreNames names → HasLine (length names) e → IsFirstLine rest line behind → Lacks 10 line → IsTail tail
    → rest ++ tail ≡ events_text names (e ∷ es) → line ≡ event_line names e
first_line_is names e es rest line behind tail named listed (inl h) lacks kind same =
    (lines_split line (event_line names e) (behind ++ tail) (events_text names es) lacks (has_unbroken names e named listed)
    (sym (append_assoc line (10 ∷ behind) tail) ∙ ap (λ t. t ++ tail) (sym h) ∙ same ∙ whole_of names e es)).0
first_line_is names e es rest line behind tail named listed (inr h) lacks none same =
    absurd (broken (event_line names e) (events_text names es) line lacks (sym h.0 ∙ sym (append-nil rest) ∙ same ∙ whole_of names e es))
first_line_is names e es rest line behind tail named listed (inr h) lacks feed same =
    (lines_split line (event_line names e) [] (events_text names es) lacks (has_unbroken names e named listed) (ap (λ t. t ++ 10 ∷ []) (sym h.0) ∙ same ∙ whole_of names e es)).0

-- ---- never both

clash : (names : List (List ℕ)) (text : List ℕ) (events others : List Event) (tail : List ℕ) → AreNames names → IsTail tail → Each (HasLine (length names)) events → length events ≤ most_events
    → text ++ tail ≡ events_text names events → GoesOnAfter names text others → ⊥
clash names text events others tail named kind listed few same bad =
    let l = left names others events (bad.rest ++ tail) named bad.listed.each listed (sym (append_assoc (events_text names others) bad.rest tail) ∙ ap (λ t. t ++ tail) (sym bad.split) ∙ same) in
    by l.left l.listed l.counted l.is bad.bad where
      by : (left : List Event) → Each (HasLine (length names)) left → length events ≡ length others + length left → bad.rest ++ tail ≡ events_text names left
          → (length others ≡ most_events) ⊎ BeginsBadly names bad.rest → ⊥
      by [] h counted is end = bad.more (empty_front bad.rest tail is)
      by (e ∷ es) h counted is (inl full) = omega (arith, counted, full, few)
      by (e ∷ es) h counted is (inr badly) =
          badly.none e (h.0, first_line_is names e es bad.rest badly.line badly.behind tail named h.0 badly.first badly.whole kind is)

pub never_both : NeverBoth
never_both names text events others named (listed, inl same) bad = clash names text events others [] named none listed.each listed.few (append-nil text ∙ same) bad
never_both names text events others named (listed, inr same) bad = clash names text events others (10 ∷ []) named feed listed.each listed.few same bad
