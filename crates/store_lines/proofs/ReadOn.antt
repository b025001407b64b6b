-- How a line is read on, from what is held and from what is left of a store.
use Rattle.std.proofs.Common.{◌≡◌, ◌≢◌, ◌≤◌, ◌<◌, ℕ, false, inl, inr, List, [], ◌∷◌, ◌++◌, length, ap, sym, subst, ◌∙◌, arith, Option, Some, None, IfSome, Ok, Err, append_assoc, length-append}
use Rattle.std.specs.Io.KnownBytes.{Consumes}
use Rattle.tap_base.proofs.ListFacts.{each_append}
use Rattle.run_text.specs.ScheduleText.{IsFirstLine, Lacks}
use Rattle.store_lines.specs.Lines.{BeginsTooLong, Tells, coming, most_bytes}
use Rattle.store_lines.specs.declared.answer.NextLine.TheVariants as next
use Rattle.store_lines.specs.declared.answer.Stop.{Stop}
use Rattle.store_lines.specs.declared.answer.Stop.TheVariants as stop
use Rattle.store_lines.proofs.FirstLines.{first_of}
use Rattle.store_lines.specs.inner.Moving.{Fills, Moves, answer_of}

-- A line is read so far: these bytes of it were taken of those that were to come, and some more are held.
pub record IsReading (before : Option (List ℕ)) (held : List ℕ) (left : Option (List ℕ)) (line : List ℕ) : Type 0 where
  pub some : held ≢ []
  pub taken : Consumes before (coming held left) line
  pub whole : Lacks 10 line
  pub short : length line ≤ most_bytes

-- ---- stops

behind_front : (bytes front text line behind : List ℕ) → bytes ≡ front ++ text → IsFirstLine text line behind → IsFirstLine bytes (front ++ line) behind
behind_front bytes front text line behind e (inl split) = inl (e ∙ ap (λ z. front ++ z) split ∙ sym (append_assoc front line (10 ∷ behind)))
behind_front bytes front text line behind e (inr none) = inr (e ∙ ap (λ z. front ++ z) none.0, none.1)

begins_too_long : (bytes front text : List ℕ) → bytes ≡ front ++ text → Lacks 10 front → most_bytes < length front → BeginsTooLong bytes
begins_too_long bytes front text e whole long =
    let f = first_of text in
    record {
      line = front ++ f.line;
      behind = f.behind;
      first = behind_front bytes front text f.line f.behind e f.first;
      whole = each_append (λ b. b ≢ 10) front f.line whole f.whole;
      long = omega (arith, long, length-append front f.line);
    }

too_long : (before : Option (List ℕ)) (held : List ℕ) (left : Option (List ℕ)) (line front behind : List ℕ) → Consumes before (coming held left) line → Lacks 10 line
    → held ≡ front ++ behind → Lacks 10 front → most_bytes < length (line ++ front) → IfSome before BeginsTooLong
too_long None held left line front behind c w e v long = tt
too_long (Some bytes) held None line front behind c w e v long = absurd c
too_long (Some bytes) held (Some xs) line front behind c w e v long =
    let parts : bytes ≡ (line ++ front) ++ (behind ++ xs) = c ∙ ap (λ z. line ++ (z ++ xs)) e ∙ ap (λ z. line ++ z) (append_assoc front behind xs) ∙ sym (append_assoc line front (behind ++ xs)) in
    begins_too_long bytes (line ++ front) (behind ++ xs) parts (each_append (λ b. b ≢ 10) line front w v) long

free : (before : Option (List ℕ)) → IfSome before (λ bytes. Unit {0})
free None = tt
free (Some bytes) = tt

pub stop_told : (why : Stop) (before : Option (List ℕ)) (held : List ℕ) (left : Option (List ℕ)) (line rest new : List ℕ) (after : Option (List ℕ)) → IsReading before held left line
    → Moves held line (Err why) rest new → IfSome before (λ bytes. Tells bytes (answer_of (Err why)) new after)
stop_told stop.TooLong before held left line rest new after r m = too_long before held left line m.0 m.1 r.taken r.whole m.2 m.3 m.4
stop_told stop.ReadFault before held left line rest new after r m = absurd m
stop_told stop.NoMemory before held left line rest new after r m = free before

-- all that was held went to the line, and is a line so far
all_moved : (before : Option (List ℕ)) (held : List ℕ) (left : Option (List ℕ)) (line rest new : List ℕ) → Consumes before (coming held left) line → rest ≡ [] → new ≡ line ++ held
    → Consumes before (coming rest left) new
all_moved None held left line rest new c none n = tt
all_moved (Some bytes) held None line rest new c none n = absurd c
all_moved (Some bytes) held (Some xs) line rest new c none n =
    c ∙ sym (append_assoc line held xs) ∙ ap (λ z. z ++ xs) (sym n) ∙ ap (λ z. new ++ (z ++ xs)) (sym none)

whole_moved : (line held new : List ℕ) → Lacks 10 line → Lacks 10 held → new ≡ line ++ held → Lacks 10 new
whole_moved line held new w v n = subst (Lacks 10) (sym n) (each_append (λ b. b ≢ 10) line held w v)

fault_left : (before left : Option (List ℕ)) (held new : List ℕ) (after : Option (List ℕ)) → Consumes before (coming held left) new → held ≡ [] → after ≡ coming held left → Lacks 10 new
    → IfSome before (λ bytes. Tells bytes next.ReadFault new after)
fault_left None left held new after c none e w = tt
fault_left (Some bytes) None held new after c none e w = absurd c
fault_left (Some bytes) (Some xs) held new after c none e w = (new, held ++ xs, c, w, e)

pub fault_told : {E : Type 0} (e : E) (before : Option (List ℕ)) (held : List ℕ) (left : Option (List ℕ)) (line rest new last : List ℕ) (after : Option (List ℕ)) → IsReading before held left line
    → Moves held line (Ok false) rest new → Fills rest left (Err e) last after → IfSome before (λ bytes. Tells bytes next.ReadFault new (coming last after))
fault_told e before held left line rest new last after r m f =
    fault_left before left rest new (coming last after) (all_moved before held left line rest new r.taken m.1 m.2) f.0
    (ap (λ z. coming z after) (f.1 ∙ sym f.0) ∙ ap (coming rest) f.2) (whole_moved line held new r.whole m.0 m.2)
