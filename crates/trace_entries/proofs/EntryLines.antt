-- An entry of the words of a line is an entry of the line.
use Rattle.std.proofs.Common.{◌≡◌, ◌<◌, ◌≤◌, ℕ, List, [], ◌∷◌, length, take, get_or, inl, inr, Result, Ok, Err, ap, sym, subst, ◌∙◌, arith, codes, refl, lit≤}
use Rattle.std.proofs.lemmas.List.{take_all}
use Rattle.tap_base.specs.LineWords.{IsWord}
use Rattle.tap_base.specs.Lists.{Each}
use Rattle.abstract_run.specs.declared.label.Label.TheVariants as label
use Rattle.run_text.specs.Operands.{words_of}
use Rattle.run_text.specs.Reads.{Reads}
use Rattle.run_text.specs.TraceText.{line_of}
use Rattle.run_text.specs.declared.fault.LineFault.{LineFault}
use Rattle.run_text.specs.declared.fault.LineFault.TheVariants as fault
use Rattle.run_text.specs.declared.names.Names.{Names}
use Rattle.run_text.proofs.Cuts.{cut_back, joined, whole_front}
use Rattle.run_text.proofs.LineLabels.{decimal_word, free_word, hex_is_word, name_word, name_words, short_word, signed_words}
use Rattle.run_text.proofs.Refusals.{reads_both}
use Rattle.trace_entries.specs.BothWays.{OneEntry, ReadIsWritten, WrittenIsRead}
use Rattle.trace_entries.specs.Entries.{AreEntryWords, HasEntryLine, IsLineOfEntry, entry_line, entry_words}
use Rattle.trace_entries.specs.LineNames.{AreLineNames, var_names, vars_at}
use Rattle.trace_entries.specs.inner.Closed.{AreClosedWords, IsClosed, IsClosedLine}
use Rattle.trace_entries.specs.declared.entry.Entry.{Entry}
use Rattle.trace_entries.specs.declared.entry.Entry.TheVariants as entry
use Rattle.trace_entries.proofs.EntryBack.{few_vars, inside, one_entry}

words_free : (names : Names) (x : Entry) → AreLineNames names → HasEntryLine names x → Each IsWord (entry_words names x)
words_free names (entry.Label (label.Tick p c)) d h = (free_word (codes "tick") refl, (name_word names.processes p d.processes.named.0 h.0, (decimal_word c h.1, tt)))
words_free names (entry.Label (label.Reject q p i)) d h = (free_word (codes "reject") refl, (name_word names.processes q d.processes.named.0 h.0, (name_word names.processes p d.processes.named.0 h.1, (short_word i h.2, tt))))
words_free names (entry.Label (label.Act p i zs)) d h = (free_word (codes "act") refl, (name_word names.processes p d.processes.named.0 h.0, (short_word i h.1, signed_words zs h.2)))
words_free names (entry.Label (label.Idle p)) d h = (free_word (codes "idle") refl, (name_word names.processes p d.processes.named.0 h, tt))
words_free names (entry.Label (label.Flood p)) d h = (free_word (codes "flood") refl, (name_word names.processes p d.processes.named.0 h, tt))
words_free names (entry.Label (label.Arrive q p)) d h = (free_word (codes "arrive") refl, (name_word names.processes q d.processes.named.0 h.0, (name_word names.processes p d.processes.named.0 h.1, tt)))
words_free names (entry.Label (label.Lose q p i)) d h = (free_word (codes "lose") refl, (name_word names.processes q d.processes.named.0 h.0.0, (name_word names.processes p d.processes.named.0 h.0.1, (short_word i h.1, tt))))
words_free names (entry.Label (label.Copy q p i)) d h = (free_word (codes "copy") refl, (name_word names.processes q d.processes.named.0 h.0.0, (name_word names.processes p d.processes.named.0 h.0.1, (short_word i h.1, tt))))
words_free names (entry.Label (label.Move q p i j)) d h = (free_word (codes "move") refl, (name_word names.processes q d.processes.named.0 h.0.0, (name_word names.processes p d.processes.named.0 h.0.1, (short_word i h.1, (short_word j h.2, tt)))))
words_free names (entry.Label (label.Damage q p i bs)) d h = (free_word (codes "damage") refl, (name_word names.processes q d.processes.named.0 h.0.0, (name_word names.processes p d.processes.named.0 h.0.1, (short_word i h.1, (hex_is_word bs h.2.1, tt)))))
words_free names (entry.Label (label.Forge q p bs)) d h = (free_word (codes "forge") refl, (name_word names.processes q d.processes.named.0 h.0.0, (name_word names.processes p d.processes.named.0 h.0.1, (hex_is_word bs h.1.1, tt))))
words_free names (entry.Label (label.Cut p n)) d h = (free_word (codes "cut") refl, (name_word names.processes p d.processes.named.0 h.0, (short_word n h.1, tt)))
words_free names (entry.Label (label.Stop p qs)) d h = (free_word (codes "stop") refl, (name_word names.processes p d.processes.named.0 h.0, name_words names.processes qs d.processes.named.0 h.1))
words_free names (entry.Label (label.Down p)) d h = (free_word (codes "down") refl, (name_word names.processes p d.processes.named.0 h, tt))
words_free names (entry.Label label.Void) d h = (free_word (codes "void") refl, tt)
words_free names (entry.Sent p bs) d h = (free_word (codes "sent") refl, (name_word names.processes p d.processes.named.0 h.0, (hex_is_word bs h.1, tt)))
words_free names (entry.Got q p bs) d h = (free_word (codes "got") refl, (name_word names.processes q d.processes.named.0 h.0, (name_word names.processes p d.processes.named.0 h.1, (hex_is_word bs h.2.1, tt))))
words_free names (entry.Strangers n) d h = (free_word (codes "strangers") refl, (decimal_word n h, tt))
words_free names (entry.Var p x zs) d h = (free_word (codes "var") refl, (name_word names.processes p d.processes.named.0 h.0, (name_word (var_names (vars_at names p)) x (few_vars names p d).named.0 (inside _ (vars_at names p) x h.1), signed_words zs h.2)))
words_free names entry.End d h = (free_word (codes "end") refl, tt)

words_back : (names : Names) (x : Entry) → AreLineNames names → HasEntryLine names x → words_of (entry_line names x) ≡ entry_words names x
words_back names (entry.Label (label.Tick p c)) d h = cut_back _ _ (words_free names (entry.Label (label.Tick p c)) d h)
words_back names (entry.Label (label.Reject q p i)) d h = cut_back _ _ (words_free names (entry.Label (label.Reject q p i)) d h)
words_back names (entry.Label (label.Act p i zs)) d h = cut_back _ _ (words_free names (entry.Label (label.Act p i zs)) d h)
words_back names (entry.Label (label.Idle p)) d h = cut_back _ _ (words_free names (entry.Label (label.Idle p)) d h)
words_back names (entry.Label (label.Flood p)) d h = cut_back _ _ (words_free names (entry.Label (label.Flood p)) d h)
words_back names (entry.Label (label.Arrive q p)) d h = cut_back _ _ (words_free names (entry.Label (label.Arrive q p)) d h)
words_back names (entry.Label (label.Lose q p i)) d h = cut_back _ _ (words_free names (entry.Label (label.Lose q p i)) d h)
words_back names (entry.Label (label.Copy q p i)) d h = cut_back _ _ (words_free names (entry.Label (label.Copy q p i)) d h)
words_back names (entry.Label (label.Move q p i j)) d h = cut_back _ _ (words_free names (entry.Label (label.Move q p i j)) d h)
words_back names (entry.Label (label.Damage q p i bs)) d h = cut_back _ _ (words_free names (entry.Label (label.Damage q p i bs)) d h)
words_back names (entry.Label (label.Forge q p bs)) d h = cut_back _ _ (words_free names (entry.Label (label.Forge q p bs)) d h)
words_back names (entry.Label (label.Cut p n)) d h = cut_back _ _ (words_free names (entry.Label (label.Cut p n)) d h)
words_back names (entry.Label (label.Stop p qs)) d h = cut_back _ _ (words_free names (entry.Label (label.Stop p qs)) d h)
words_back names (entry.Label (label.Down p)) d h = cut_back _ _ (words_free names (entry.Label (label.Down p)) d h)
words_back names (entry.Label label.Void) d h = cut_back _ _ (words_free names (entry.Label label.Void) d h)
words_back names (entry.Sent p bs) d h = cut_back _ _ (words_free names (entry.Sent p bs) d h)
words_back names (entry.Got q p bs) d h = cut_back _ _ (words_free names (entry.Got q p bs) d h)
words_back names (entry.Strangers n) d h = cut_back _ _ (words_free names (entry.Strangers n) d h)
words_back names (entry.Var p x zs) d h = cut_back _ _ (words_free names (entry.Var p x zs) d h)
words_back names entry.End d h = cut_back _ _ (words_free names entry.End d h)

pub to_line : (names : Names) (line : List ℕ) (x : Entry) → AreEntryWords names (words_of line) x → IsLineOfEntry names line x
to_line names line x h = (h.0, sym (joined line) ∙ ap line_of h.1)

pub to_words : (names : Names) (line : List ℕ) (x : Entry) → AreLineNames names → IsLineOfEntry names line x → AreEntryWords names (words_of line) x
to_words names line x d h = (h.0, ap words_of h.1 ∙ words_back names x d h.0)

-- words that are those of the line
pub line_read : (names : Names) (line : List ℕ) (words : List (List ℕ)) (r : Result Entry LineFault) → AreLineNames names → words_of line ≡ words → Reads (AreEntryWords names words) r → Reads (IsLineOfEntry names line) r
line_read names line words r d e h =
    reads_both (AreEntryWords names (words_of line)) (IsLineOfEntry names line) r (λ x w. to_line names line x w) (λ x w. to_words names line x d w) (subst (λ ws. Reads (AreEntryWords names ws) r) (sym e) h)

-- ---- as many words as the keyword says

-- these are at most five
at_most_five : (names : Names) (x : Entry) → IsClosed x → length (entry_words names x) ≤ 5
at_most_five names (entry.Label (label.Tick p c)) h = lit≤ tt
at_most_five names (entry.Label (label.Reject q p i)) h = lit≤ tt
at_most_five names (entry.Label (label.Act p i zs)) h = absurd h
at_most_five names (entry.Label (label.Idle p)) h = lit≤ tt
at_most_five names (entry.Label (label.Flood p)) h = lit≤ tt
at_most_five names (entry.Label (label.Arrive q p)) h = lit≤ tt
at_most_five names (entry.Label (label.Lose q p i)) h = lit≤ tt
at_most_five names (entry.Label (label.Copy q p i)) h = lit≤ tt
at_most_five names (entry.Label (label.Move q p i j)) h = lit≤ tt
at_most_five names (entry.Label (label.Damage q p i bs)) h = lit≤ tt
at_most_five names (entry.Label (label.Forge q p bs)) h = lit≤ tt
at_most_five names (entry.Label (label.Cut p n)) h = lit≤ tt
at_most_five names (entry.Label (label.Stop p qs)) h = absurd h
at_most_five names (entry.Label (label.Down p)) h = lit≤ tt
at_most_five names (entry.Label label.Void) h = lit≤ tt
at_most_five names (entry.Sent p bs) h = lit≤ tt
at_most_five names (entry.Got q p bs) h = lit≤ tt
at_most_five names (entry.Strangers n) h = lit≤ tt
at_most_five names (entry.Var p x zs) h = absurd h
at_most_five names entry.End h = lit≤ tt

-- so the first six words of their line are all
from_front : (names : Names) (line : List ℕ) (x : Entry) → AreClosedWords names (take 6 (words_of line)) x → IsClosedLine names line x
from_front names line x h =
    let few = at_most_five names x h.0 in
    (h.0, to_line names line x (h.1.0, whole_front 6 (words_of line) (entry_words names x) h.1.1 (omega (arith, few))))

to_front : (names : Names) (line : List ℕ) (x : Entry) → AreLineNames names → IsClosedLine names line x → AreClosedWords names (take 6 (words_of line)) x
to_front names line x d h =
    let few = at_most_five names x h.0 in
    let words = to_words names line x d h.1 in
    (h.0, (words.0, ap (take 6) words.1 ∙ take_all 6 (entry_words names x) (omega (arith, few))))

pub closed_read : (names : Names) (line : List ℕ) (r : Result Entry LineFault) → AreLineNames names → Reads (AreClosedWords names (take 6 (words_of line))) r → Reads (IsClosedLine names line) r
closed_read names line r d h =
    reads_both (AreClosedWords names (take 6 (words_of line))) (IsClosedLine names line) r (λ x w. from_front names line x w) (λ x w. to_front names line x d w) h

-- where the keyword is none of the three others
closed_by : (names : Names) (k : List ℕ) (ws : List (List ℕ)) (x : Entry) → AreEntryWords names (k ∷ ws) x → (k ≡ codes "act" → ⊥) → (k ≡ codes "stop" → ⊥) → (k ≡ codes "var" → ⊥) → IsClosed x
closed_by names k ws (entry.Label (label.Tick p c)) h na ns nv = tt
closed_by names k ws (entry.Label (label.Reject q p i)) h na ns nv = tt
closed_by names k ws (entry.Label (label.Act p i zs)) h na ns nv = absurd (na (ap (λ w. get_or w 0 []) h.1))
closed_by names k ws (entry.Label (label.Idle p)) h na ns nv = tt
closed_by names k ws (entry.Label (label.Flood p)) h na ns nv = tt
closed_by names k ws (entry.Label (label.Arrive q p)) h na ns nv = tt
closed_by names k ws (entry.Label (label.Lose q p i)) h na ns nv = tt
closed_by names k ws (entry.Label (label.Copy q p i)) h na ns nv = tt
closed_by names k ws (entry.Label (label.Move q p i j)) h na ns nv = tt
closed_by names k ws (entry.Label (label.Damage q p i bs)) h na ns nv = tt
closed_by names k ws (entry.Label (label.Forge q p bs)) h na ns nv = tt
closed_by names k ws (entry.Label (label.Cut p n)) h na ns nv = tt
closed_by names k ws (entry.Label (label.Stop p qs)) h na ns nv = absurd (ns (ap (λ w. get_or w 0 []) h.1))
closed_by names k ws (entry.Label (label.Down p)) h na ns nv = tt
closed_by names k ws (entry.Label label.Void) h na ns nv = tt
closed_by names k ws (entry.Sent p bs) h na ns nv = tt
closed_by names k ws (entry.Got q p bs) h na ns nv = tt
closed_by names k ws (entry.Strangers n) h na ns nv = tt
closed_by names k ws (entry.Var p x zs) h na ns nv = absurd (nv (ap (λ w. get_or w 0 []) h.1))
closed_by names k ws entry.End h na ns nv = tt

pub rest_read : (names : Names) (line k : List ℕ) (ws : List (List ℕ)) (r : Result Entry LineFault) → AreLineNames names → words_of line ≡ k ∷ ws → (k ≡ codes "act" → ⊥) → (k ≡ codes "stop" → ⊥) → (k ≡ codes "var" → ⊥)
    → Reads (IsClosedLine names line) r → Reads (IsLineOfEntry names line) r
rest_read names line k ws r d e na ns nv h =
    reads_both (IsClosedLine names line) (IsLineOfEntry names line) r (λ x w. w.1)
    (λ x w. (closed_by names k ws x (subst (λ words. AreEntryWords names words x) e (to_words names line x d w)) na ns nv, w)) h

-- ---- laws

pub one_line : OneEntry
one_line names line x y d h k = one_entry names (words_of line) x y d (to_words names line x d h) (to_words names line y d k)

pub written_is_read : WrittenIsRead
written_is_read names x (Ok y) d has h = inl (ap Ok (one_line names (entry_line names x) y x d h (has, refl)))
written_is_read names x (Err fault.BadLine) d has h = absurd (h refl x (has, refl))
written_is_read names x (Err fault.NoMemory) d has h = inr refl

pub read_is_written : ReadIsWritten
read_is_written names line x h = sym h.1
