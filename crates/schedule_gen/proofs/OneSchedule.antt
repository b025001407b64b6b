-- A text is the schedule of at most one list of events.
use Rattle.std.proofs.Common.{◌≡◌, ◌≢◌, ℕ, List, [], ◌∷◌, ◌++◌, length, inl, inr, refl, ap, sym, subst, ◌∙◌, arith, append_assoc, codes}
use Rattle.std.specs.Fmt.{decimal}
use Rattle.std.proofs.lemmas.List.{length-map}
use Rattle.tap_base.specs.Lists.{Each}
use Rattle.tap_base.specs.LineWords.{IsWord}
use Rattle.tap_base.specs.declared.system.System.{System}
use Rattle.tap_base.proofs.ListFacts.{each_append}
use Rattle.tap_exec.specs.Semantics.{messages_of, process_semantics, semantics_of}
use Rattle.abstract_run.specs.declared.label.Event.{Event}
use Rattle.abstract_run.specs.declared.label.Event.TheVariants as event
use Rattle.abstract_run.specs.declared.label.Label.TheVariants as label
use Rattle.run_text.specs.Names.{AreNames}
use Rattle.run_text.specs.ScheduleText.{AreListed, HasLine, Lacks, SpellsSchedule, event_line, events_text}
use Rattle.run_text.specs.TraceText.{line_of, name_at, names_in}
use Rattle.run_text.proofs.LineLabels.{decimal_word, free_word, joined_unbroken, line_unbroken, name_word, unbroken}
use Rattle.run_text.proofs.Lines.{one_event_line, written_is_read}
use Rattle.run_text.proofs.LineWords.{behind, lines_split}
use Rattle.schedule_gen.specs.Listed.{AreRead, IsTextOf, MadeIsSchedule}
use Rattle.schedule_gen.specs.Schedule.{generated_events}
use Rattle.schedule_gen.proofs.Listed.{all_are_listed}

-- ---- lines

words_unbroken : (w : List ℕ) (ws : List (List ℕ)) → IsWord w → Each IsWord ws → Lacks 10 (line_of (w ∷ ws))
words_unbroken w ws h k = each_append (λ b. b ≢ 10) w (behind 32 ws) (unbroken w h) (joined_unbroken ws k)

whole : (names : List (List ℕ)) (e : Event) → AreNames names → HasLine (length names) e → Lacks 10 (event_line names e)
whole names (event.Turn p c) named h =
    let words = name_at names p ∷ decimal c ∷ [] in
    let free : Each IsWord words = (name_word names p named.0 h.0, (decimal_word c h.1, tt)) in
    words_unbroken (codes "turn") words (free_word (codes "turn") refl) free
whole names (event.Arrive q p) named h = line_unbroken names (label.Arrive q p) named.0 (h.0, h.1)
whole names (event.Lose q p i) named h = line_unbroken names (label.Lose q p i) named.0 (h.0.0, h.0.1, h.1)
whole names (event.Copy q p i) named h = line_unbroken names (label.Copy q p i) named.0 (h.0.0, h.0.1, h.1)
whole names (event.Move q p i j) named h = line_unbroken names (label.Move q p i j) named.0 (h.0.0, h.0.1, h.1, h.2)
whole names (event.Damage q p i bytes) named h = line_unbroken names (label.Damage q p i bytes) named.0 (h.0.0, h.0.1, h.1, h.2)
whole names (event.Forge q p bytes) named h = line_unbroken names (label.Forge q p bytes) named.0 (h.0.0, h.0.1, h.1)
whole names (event.Cut p n) named h = line_unbroken names (label.Cut p n) named.0 (h.0, omega (arith, h.1))

some_line : (names : List (List ℕ)) (e : Event) → event_line names e ≡ [] → ⊥
some_line names (event.Turn p c) h = cc
some_line names (event.Arrive q p) h = cc
some_line names (event.Lose q p i) h = cc
some_line names (event.Copy q p i) h = cc
some_line names (event.Move q p i j) h = cc
some_line names (event.Damage q p i bytes) h = cc
some_line names (event.Forge q p bytes) h = cc
some_line names (event.Cut p n) h = cc

first_of : (names : List (List ℕ)) (e : Event) (es : List Event) → events_text names (e ∷ es) ≡ event_line names e ++ 10 ∷ events_text names es
first_of names e es = append_assoc (event_line names e) (10 ∷ []) (events_text names es)

not_empty : (w r : List ℕ) → [] ≡ w ++ 10 ∷ r → ⊥
not_empty [] r e = cc
not_empty (x ∷ w) r e = cc

-- ---- texts

one_text : (names : List (List ℕ)) (es fs : List Event) → AreNames names → Each (HasLine (length names)) es → Each (HasLine (length names)) fs
    → events_text names es ≡ events_text names fs → fs ≡ es
one_text names [] [] named h k same = refl
one_text names [] (f ∷ fs) named h k same = absurd (not_empty (event_line names f) (events_text names fs) (same ∙ first_of names f fs))
one_text names (e ∷ es) [] named h k same = absurd (not_empty (event_line names e) (events_text names es) (sym same ∙ first_of names e es))
one_text names (e ∷ es) (f ∷ fs) named h k same =
    let both = lines_split (event_line names e) (event_line names f) _ _ (whole names e named h.0) (whole names f named k.0) (sym (first_of names e es) ∙ same ∙ first_of names f fs) in
    let first : f ≡ e = one_event_line names (event_line names e) f e named (k.0, both.0) (h.0, refl) in
    ap (λ x. x ∷ fs) first ∙ ap (λ xs. e ∷ xs) (one_text names es fs named h.1 k.1 both.1)

-- no event has an empty line
one_more_feed : (names : List (List ℕ)) (es fs : List Event) → AreNames names → Each (HasLine (length names)) es → Each (HasLine (length names)) fs
    → events_text names es ++ 10 ∷ [] ≡ events_text names fs → ⊥
one_more_feed names [] [] named h k same = cc
one_more_feed names [] (f ∷ fs) named h k same =
    let both = lines_split [] (event_line names f) [] (events_text names fs) tt (whole names f named k.0) (same ∙ first_of names f fs) in some_line names f (sym both.0)
one_more_feed names (e ∷ es) [] named h k same =
    not_empty (event_line names e) (events_text names es ++ 10 ∷ []) (sym same ∙ ap (λ t. t ++ 10 ∷ []) (first_of names e es) ∙ append_assoc (event_line names e) (10 ∷ events_text names es) (10 ∷ []))
one_more_feed names (e ∷ es) (f ∷ fs) named h k same =
    let cut = sym (append_assoc (event_line names e) (10 ∷ events_text names es) (10 ∷ [])) ∙ ap (λ t. t ++ 10 ∷ []) (sym (first_of names e es)) ∙ same ∙ first_of names f fs in
    let both = lines_split (event_line names e) (event_line names f) (events_text names es ++ 10 ∷ []) (events_text names fs) (whole names e named h.0) (whole names f named k.0) cut in
    one_more_feed names es fs named h.1 k.1 both.1

alone : (names : List (List ℕ)) (es fs : List Event) → AreNames names → Each (HasLine (length names)) es → SpellsSchedule names (events_text names es) fs → fs ≡ es
alone names es fs named h (listed, inl same) = one_text names es fs named h listed.each same
alone names es fs named h (listed, inr same) = absurd (one_more_feed names es fs named h listed.each same)

all_read : (names : List (List ℕ)) (es : List Event) → AreNames names → Each (HasLine (length names)) es → AreRead names (events_text names es) es
all_read names [] named h = refl
all_read names (e ∷ es) named h =
    (event_line names e, events_text names es, inl (first_of names e es), whole names e named h.0, λ result reads. written_is_read names e result named h.0 reads, all_read names es named h.1)

pub is_text_of : (names : List (List ℕ)) (es : List Event) → AreNames names → AreListed (length names) es → IsTextOf names (events_text names es) es
is_text_of names es named listed = record {
  spells = (listed, inl refl);
  alone = λ others h. alone names es others named listed.each h;
  read = all_read names es named listed.each;
}

names_counted : (system : System) → length system.processes ≡ length (names_in (semantics_of system))
names_counted system = sym (length-map (semantics_of system).processes (λ p. p.name) ∙ length-map system.processes (process_semantics (messages_of system)))

pub made_is_schedule : MadeIsSchedule
made_is_schedule system seed n faults ok named few =
    is_text_of (names_in (semantics_of system)) (generated_events system seed n faults) named (subst (λ k. AreListed k (generated_events system seed n faults)) (names_counted system) (all_are_listed system seed n faults ok few))
