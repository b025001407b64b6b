-- An event of the words of a line is an event of the line.
use Rattle.std.proofs.Common.{◌≡◌, ◌≤◌, ℕ, List, length, take, inl, inr, Result, Ok, Err, ap, sym, ◌∙◌, arith, codes, refl, lit≤}
use Rattle.std.proofs.lemmas.List.{take_all}
use Rattle.abstract_run.specs.declared.label.Event.{Event}
use Rattle.abstract_run.specs.declared.label.Event.TheVariants as event
use Rattle.run_text.specs.Names.{AreNames}
use Rattle.run_text.specs.ScheduleText.{AreWordsOf, HasLine, IsLineOf, event_line, event_words}
use Rattle.run_text.specs.BothWays.{OneEvent, ReadIsWritten, WrittenIsRead}
use Rattle.run_text.specs.TraceText.{line_of}
use Rattle.run_text.proofs.LineLabels.{decimal_word, free_word, hex_is_word, name_word, short_word}
use Rattle.run_text.specs.declared.fault.LineFault.{LineFault}
use Rattle.run_text.specs.declared.fault.LineFault.TheVariants as fault
use Rattle.run_text.specs.Operands.{words_of}
use Rattle.run_text.specs.Reads.{Reads}
use Rattle.run_text.proofs.Back.{one_event}
use Rattle.run_text.proofs.Cuts.{cut_back, joined, whole_front}
use Rattle.run_text.proofs.Refusals.{reads_both}

words_back : (names : List (List ℕ)) (e : Event) → AreNames names → HasLine (length names) e → words_of (line_of (event_words names e)) ≡ event_words names e
words_back names (event.Turn p c) d h = cut_back _ _ (free_word (codes "turn") refl, (name_word names p d.0 h.0, (decimal_word c h.1, tt)))
words_back names (event.Arrive q p) d h = cut_back _ _ (free_word (codes "arrive") refl, (name_word names q d.0 h.0, (name_word names p d.0 h.1, tt)))
words_back names (event.Lose q p i) d h = cut_back _ _ (free_word (codes "lose") refl, (name_word names q d.0 h.0.0, (name_word names p d.0 h.0.1, (short_word i h.1, tt))))
words_back names (event.Copy q p i) d h = cut_back _ _ (free_word (codes "copy") refl, (name_word names q d.0 h.0.0, (name_word names p d.0 h.0.1, (short_word i h.1, tt))))
words_back names (event.Move q p i j) d h = cut_back _ _ (free_word (codes "move") refl, (name_word names q d.0 h.0.0, (name_word names p d.0 h.0.1, (short_word i h.1, (short_word j h.2, tt)))))
words_back names (event.Damage q p i bytes) d h = cut_back _ _ (free_word (codes "damage") refl, (name_word names q d.0 h.0.0, (name_word names p d.0 h.0.1, (short_word i h.1, (hex_is_word bytes h.2.1, tt)))))
words_back names (event.Forge q p bytes) d h = cut_back _ _ (free_word (codes "forge") refl, (name_word names q d.0 h.0.0, (name_word names p d.0 h.0.1, (hex_is_word bytes h.1.1, tt))))
words_back names (event.Cut p n) d h = cut_back _ _ (free_word (codes "cut") refl, (name_word names p d.0 h.0, (decimal_word n (omega (arith, h.1)), tt)))

pub to_line : (names : List (List ℕ)) (line : List ℕ) (e : Event) → AreWordsOf names (words_of line) e → IsLineOf names line e
to_line names line e h = (h.0, sym (joined line) ∙ ap line_of h.1)

pub to_words : (names : List (List ℕ)) (line : List ℕ) (e : Event) → AreNames names → IsLineOf names line e → AreWordsOf names (words_of line) e
to_words names line e d h = (h.0, ap words_of h.1 ∙ words_back names e d h.0)

-- the line of an event has at most five words
at_most_five : (names : List (List ℕ)) (e : Event) → length (event_words names e) ≤ 5
at_most_five names (event.Turn p c) = lit≤ tt
at_most_five names (event.Arrive q p) = lit≤ tt
at_most_five names (event.Lose q p i) = lit≤ tt
at_most_five names (event.Copy q p i) = lit≤ tt
at_most_five names (event.Move q p i j) = lit≤ tt
at_most_five names (event.Damage q p i bytes) = lit≤ tt
at_most_five names (event.Forge q p bytes) = lit≤ tt
at_most_five names (event.Cut p n) = lit≤ tt

-- so its first six words are all
from_front : (names : List (List ℕ)) (line : List ℕ) (e : Event) → AreWordsOf names (take 6 (words_of line)) e → AreWordsOf names (words_of line) e
from_front names line e h =
    let few = at_most_five names e in
    (h.0, whole_front 6 (words_of line) (event_words names e) h.1 (omega (arith, few)))

to_front : (names : List (List ℕ)) (line : List ℕ) (e : Event) → AreWordsOf names (words_of line) e → AreWordsOf names (take 6 (words_of line)) e
to_front names line e h =
    let few = at_most_five names e in
    (h.0, ap (take 6) h.1 ∙ take_all 6 (event_words names e) (omega (arith, few)))

pub line_read : (names : List (List ℕ)) (line : List ℕ) (r : Result Event LineFault) → AreNames names → Reads (AreWordsOf names (take 6 (words_of line))) r → Reads (IsLineOf names line) r
line_read names line r d h =
    reads_both (AreWordsOf names (take 6 (words_of line))) (IsLineOf names line) r
    (λ e w. to_line names line e (from_front names line e w)) (λ e w. to_front names line e (to_words names line e d w)) h

pub one_event_line : OneEvent
one_event_line names line e f d h k = one_event names (words_of line) e f d (to_words names line e d h) (to_words names line f d k)

pub written_is_read : WrittenIsRead
written_is_read names e (Ok f) d has h = inl (ap Ok (one_event_line names (event_line names e) f e d h (has, refl)))
written_is_read names e (Err fault.BadLine) d has h = absurd (h refl e (has, refl))
written_is_read names e (Err fault.NoMemory) d has h = inr refl

pub read_is_written : ReadIsWritten
read_is_written names line e h = sym h.1
