-- How a text is judged, one line after another.
use Rattle.std.proofs.Common.{◌≡◌, ◌≢◌, ◌==◌, ◌≤◌, ◌<◌, ◌+◌, ◌⊎◌, inl, inr, ℕ, Bool, true, false, List, [], ◌∷◌, ◌++◌, length, refl, ap, sym, subst, ◌∙◌, arith, Ok, Err, append_assoc, append-nil, length-append, if◌then◌else◌}
use Rattle.std.proofs.lemmas.Bool.Decides.{Decides-eqb}
use Rattle.tap_base.specs.Lists.{Each}
use Rattle.tap_base.proofs.ListFacts.{each_append}
use Rattle.abstract_run.specs.declared.label.Label.{Label}
use Rattle.abstract_run.specs.declared.state.State.{State}
use Rattle.tap_exec.specs.Semantics.{Semantics}
use Rattle.run_text.specs.Names.{AreNames}
use Rattle.run_text.specs.OneTrace.{most_lines}
use Rattle.run_text.specs.ScheduleText.{Lacks}
use Rattle.run_text.specs.Sized.{IsSized}
use Rattle.run_text.specs.TraceText.{lines_text, names_in}
use Rattle.replay.specs.Grammar.{IsInGrammar, IsInNoGrammar}
use Rattle.replay.specs.Stages.{Goes, HasEnded, Stage, Takes, first_stage}
use Rattle.replay.specs.declared.passed.Passed.{Passed}
use Rattle.replay.specs.declared.passed.Passed.TheVariants as passed
use Rattle.replay.specs.declared.passed.Refusal.{Refusal}
use Rattle.replay.specs.declared.passed.Refusal.TheVariants as refusal
use Rattle.replay.specs.Traces.{BeginsTrace, HasFront, HasNext, IsBadAt, IsGoodSoFar, IsNoRunAt, IsTrace, IsUnended, IsWhole, behind_end, in_none, one_too_many, wanting}
use Rattle.replay.specs.inner.Progress.{Advances, EndsLine, IsText, IsUnderWay, Progress, Walks}
use Rattle.replay.proofs.Ahead.{leads, leads_to_end}
use Rattle.replay.proofs.OneWay.{one_walk}
use Rattle.replay.proofs.Texts.{lines_first, lines_last}
use Rattle.replay.proofs.Walked.{Told, begins, closing, each_more, running, walked, walks_cut, walks_one}

-- ---- how many lines a text has

abbrev one_if : Bool → ℕ
one_if b = if b then 1 else 0

abbrev feeds : List ℕ → ℕ
feeds [] = 0
feeds (x ∷ xs) = one_if (x == 10) + feeds xs

feeds_append : (a b : List ℕ) → feeds (a ++ b) ≡ feeds a + feeds b
feeds_append [] b = omega arith
feeds_append (x ∷ xs) b = let rest = feeds_append xs b in omega (arith, rest)

other : (b : Bool) (x : ℕ) → (x == 10) ≡ b → x ≢ 10 → one_if b ≡ 0
other true x e h = absurd (h ((Decides-eqb x 10).0 e))
other false x e h = refl

no_feeds : (l : List ℕ) → Lacks 10 l → feeds l ≡ 0
no_feeds [] h = refl
no_feeds (x ∷ xs) h = let here = other (x == 10) x refl h.0 in let rest = no_feeds xs h.1 in omega (arith, here, rest)

feeds_first : (l : List ℕ) (ls : List (List ℕ)) → feeds (lines_text (l ∷ ls)) ≡ feeds l + (1 + feeds (lines_text ls))
feeds_first l ls = ap feeds (lines_first l ls) ∙ feeds_append l (10 ∷ lines_text ls)

at_least : (ls : List (List ℕ)) → length ls ≤ feeds (lines_text ls)
at_least [] = omega arith
at_least (l ∷ ls) = let first = feeds_first l ls in let rest = at_least ls in omega (arith, first, rest)

exactly : (ls : List (List ℕ)) → Each (Lacks 10) ls → feeds (lines_text ls) ≡ length ls
exactly [] h = refl
exactly (l ∷ ls) h = let first = feeds_first l ls in let here = no_feeds l h.0 in let rest = exactly ls h.1 in omega (arith, first, here, rest)

no_more : (ls ms : List (List ℕ)) → Each (Lacks 10) ms → lines_text ls ≡ lines_text ms → length ls ≤ length ms
no_more ls ms h e = let few = at_least ls in let all = exactly ms h in let same = ap feeds e in omega (arith, few, all, same)

-- ---- whole traces

whole_by : (semantics : Semantics) (start : State) (lines whole : List (List ℕ)) (labels : List Label) (stage : Stage) → Each (Lacks 10) lines → length lines ≤ most_lines
    → Each (IsSized (length semantics.processes)) labels → lines_text whole ≡ lines_text lines → stage.closing ≡ true → Told semantics start labels whole stage → IsWhole semantics start (lines_text lines)
whole_by semantics start lines whole labels stage unbroken few sized text e (running h k) = cc
whole_by semantics start lines whole labels stage unbroken few sized text e (closing h) =
    let fewer = no_more whole lines unbroken text in
    (labels, record { lines = whole; told = h; sized = sized; few = omega (arith, fewer, few); text = sym text })

-- lines that lead to an end are those of a trace
pub whole_of : (semantics : Semantics) (start : State) (lines : List (List ℕ)) (stage : Stage) → Each (Lacks 10) lines → length lines ≤ most_lines → Walks semantics (first_stage start) lines stage
    → HasEnded stage → IsWhole semantics start (lines_text lines)
whole_of semantics start lines stage unbroken few w h =
    let s = walked semantics start lines stage w in
    whole_by semantics start lines s.whole s.labels stage unbroken few s.sized (s.text ∙ ap (λ z. lines_text lines ++ z) h.nothing_due ∙ append-nil (lines_text lines)) h.closing s.told

-- lines of a trace lead to its end, and to no other stage
pub ended_of : (semantics : Semantics) (start : State) (lines : List (List ℕ)) (stage : Stage) → AreNames (names_in semantics) → Each (Lacks 10) lines → Walks semantics (first_stage start) lines stage
    → IsWhole semantics start (lines_text lines) → HasEnded stage
ended_of semantics start lines stage named unbroken w whole =
    let k = leads_to_end semantics start lines named unbroken whole in
    subst HasEnded (one_walk semantics (first_stage start) k.0 stage lines named k.1 w) k.2

-- ---- good lines

pub more_of_line : (semantics : Semantics) (start : State) (text front more : List ℕ) (number : ℕ) (stage : Stage) → Lacks 10 more → Progress semantics start text front number stage
    → Progress semantics start (text ++ more) (front ++ more) number stage
more_of_line semantics start text front more number stage whole p = record {
  lines = p.lines;
  unbroken = p.unbroken;
  count = p.count;
  few = p.few;
  walks = p.walks;
  split = ap (λ z. z ++ more) p.split ∙ append_assoc (lines_text p.lines) front more;
  whole = each_append _ front more p.whole whole;
}

line_ends : (lines : List (List ℕ)) (text front : List ℕ) → text ≡ lines_text lines ++ front → text ++ 10 ∷ [] ≡ lines_text (lines ++ front ∷ [])
line_ends lines text front e = ap (λ z. z ++ 10 ∷ []) e ∙ append_assoc (lines_text lines) front (10 ∷ []) ∙ sym (lines_last lines front)

pub line_passed : (semantics : Semantics) (start : State) (text front : List ℕ) (number : ℕ) (old new : Stage) → number ≤ most_lines → Goes semantics old front new
    → Progress semantics start text front number old → Progress semantics start (text ++ 10 ∷ []) [] (number + 1) new
line_passed semantics start text front number old new few goes p =
    let count = p.count in
    let more = length-append p.lines (front ∷ []) in
    record {
      lines = p.lines ++ front ∷ [];
      unbroken = each_more _ p.lines front p.unbroken p.whole;
      count = omega (arith, count, more);
      few = omega (arith, count, few, more);
      walks = walks_one semantics (first_stage start) old new p.lines front p.walks goes;
      split = line_ends p.lines text front p.split ∙ sym (append-nil (lines_text (p.lines ++ front ∷ [])));
      whole = tt;
    }

-- ---- the line behind the good ones

some_feed : (line behind : List ℕ) → line ++ 10 ∷ behind ≡ [] → ⊥
some_feed [] behind e = cc
some_feed (x ∷ xs) behind e = cc

-- what stands behind the good lines
record Stands (semantics : Semantics) (start : State) (text line : List ℕ) (lines : List (List ℕ)) : Type 0 where
  rest : List ℕ
  good : IsGoodSoFar semantics start text lines rest
  next : HasNext rest line

good_by : (semantics : Semantics) (start : State) (taken front text rest : List ℕ) (number : ℕ) (stage : Stage) → (p : Progress semantics start taken front number stage) → HasFront text p.lines rest
    → IsGoodSoFar semantics start text p.lines rest
good_by semantics start taken front text rest number stage p has = record { front = has; unbroken = p.unbroken; few = p.few; begins = begins semantics start p.lines stage p.walks }

stands : (semantics : Semantics) (start : State) (taken front text : List ℕ) (number : ℕ) (stage : Stage) → (p : Progress semantics start taken front number stage) → EndsLine taken front text
    → Stands semantics start text front p.lines
stands semantics start taken front text number stage p (inl e) = record {
  rest = front ++ 10 ∷ e.0;
  good = good_by semantics start taken front text (front ++ 10 ∷ e.0) number stage p (inl (e.1 ∙ ap (λ z. z ++ 10 ∷ e.0) p.split ∙ append_assoc (lines_text p.lines) front (10 ∷ e.0)));
  next = record { some = some_feed front e.0; behind = e.0; first = inl refl; unbroken = p.whole };
}
stands semantics start taken front text number stage p (inr e) = record {
  rest = front;
  good = good_by semantics start taken front text front number stage p (inl (e.0 ∙ p.split));
  next = record { some = e.1; behind = []; first = inr (refl, refl); unbroken = p.whole };
}

stays_behind : (semantics : Semantics) (start : State) (taken front : List ℕ) (number : ℕ) (stage : Stage) → AreNames (names_in semantics)
    → ((next : Stage) → Goes semantics stage front next → ⊥) → (p : Progress semantics start taken front number stage) → BeginsTrace semantics start (lines_text (p.lines ++ front ∷ [])) → ⊥
stays_behind semantics start taken front number stage named stuck p b =
    let k = leads semantics start (p.lines ++ front ∷ []) named (each_more _ p.lines front p.unbroken p.whole) b in
    let c = walks_cut semantics (first_stage start) k.0 p.lines (front ∷ []) k.1 in
    let same = one_walk semantics (first_stage start) c.0 stage p.lines named c.1 p.walks in
    stuck c.2.0 (subst (λ x. Goes semantics x front c.2.0) same c.2.1)

pub bad_line : (semantics : Semantics) (start : State) (taken front text : List ℕ) (number : ℕ) (stage : Stage) → AreNames (names_in semantics) → HasEnded stage ⊎ IsInNoGrammar semantics front
    → ((next : Stage) → Goes semantics stage front next → ⊥) → Progress semantics start taken front number stage → EndsLine taken front text → IsBadAt semantics start text number
bad_line semantics start taken front text number stage named (inl h) stuck p e =
    let s = stands semantics start taken front text number stage p e in
    record { lines = p.lines; rest = s.rest; good = s.good; count = p.count; bad = behind_end s.next.some (whole_of semantics start p.lines stage p.unbroken p.few p.walks h) }
bad_line semantics start taken front text number stage named (inr h) stuck p e =
    let s = stands semantics start taken front text number stage p e in
    record { lines = p.lines; rest = s.rest; good = s.good; count = p.count; bad = in_none s.next h (stays_behind semantics start taken front number stage named stuck p) }

pub too_many : (semantics : Semantics) (start : State) (taken front text : List ℕ) (number : ℕ) (stage : Stage) → most_lines < number
    → Progress semantics start taken front number stage → EndsLine taken front text → IsBadAt semantics start text number
too_many semantics start taken front text number stage many p e =
    let s = stands semantics start taken front text number stage p e in
    let count = p.count in
    let few = p.few in
    record { lines = p.lines; rest = s.rest; good = s.good; count = p.count; bad = one_too_many s.next.some (omega (arith, many, count, few)) }

pub no_run : (semantics : Semantics) (start : State) (taken front text : List ℕ) (number : ℕ) (stage : Stage) → AreNames (names_in semantics) → number ≤ most_lines → IsInGrammar semantics front
    → (HasEnded stage → ⊥) → ((next : Stage) → Goes semantics stage front next → ⊥) → Progress semantics start taken front number stage → EndsLine taken front text
    → IsNoRunAt semantics start text number
no_run semantics start taken front text number stage named few spelled going stuck p e =
    let s = stands semantics start taken front text number stage p e in
    let count = p.count in
    record {
      lines = p.lines;
      rest = s.rest;
      good = s.good;
      count = p.count;
      line = front;
      next = s.next;
      spelled = spelled;
      room = omega (arith, count, few);
      goes_on = λ w. going (ended_of semantics start p.lines stage named p.unbroken p.walks w);
      impossible = stays_behind semantics start taken front number stage named stuck p;
    }

-- ---- the end of a text

all_taken : (lines : List (List ℕ)) (text taken : List ℕ) → taken ≡ lines_text lines ++ [] → IsText text taken → HasFront text lines []
all_taken lines text taken e (inl h) = inl (h ∙ e)
all_taken lines text taken e (inr h) = inr (refl, h.0, h.1 ∙ e ∙ append-nil (lines_text lines))

trace_by : (semantics : Semantics) (start : State) (lines : List (List ℕ)) (text taken : List ℕ) → taken ≡ lines_text lines ++ [] → IsWhole semantics start (lines_text lines) → IsText text taken
    → IsTrace semantics start text
trace_by semantics start lines text taken e w (inl h) = inl (subst (IsWhole semantics start) (sym (h ∙ e ∙ append-nil (lines_text lines))) w)
trace_by semantics start lines text taken e w (inr h) = inr (subst (IsWhole semantics start) (sym (h.1 ∙ e ∙ append-nil (lines_text lines))) w)

pub ended : (semantics : Semantics) (start : State) (text taken : List ℕ) (number : ℕ) (stage : Stage) → HasEnded stage → Progress semantics start taken [] number stage → IsText text taken
    → IsTrace semantics start text
ended semantics start text taken number stage h p t = trace_by semantics start p.lines text taken p.split (whole_of semantics start p.lines stage p.unbroken p.few p.walks h) t

pub end_wanting : (semantics : Semantics) (start : State) (text taken : List ℕ) (number : ℕ) (stage : Stage) → AreNames (names_in semantics) → (HasEnded stage → ⊥)
    → Progress semantics start taken [] number stage → IsText text taken → IsBadAt semantics start text number
end_wanting semantics start text taken number stage named going p t = record {
  lines = p.lines;
  rest = [];
  good = good_by semantics start taken [] text [] number stage p (all_taken p.lines text taken p.split t);
  count = p.count;
  bad = wanting refl (λ w. going (ended_of semantics start p.lines stage named p.unbroken p.walks w));
}

-- ---- what judging a line answered

pub goes_of : (semantics : Semantics) (old : Stage) (line : List ℕ) (p : Passed) (new : Stage) → Takes semantics old line (Ok p) new → Goes semantics old line new
goes_of semantics old line passed.Label new h = inr (inl h)
goes_of semantics old line passed.Due new (inl h) = inl h
goes_of semantics old line passed.Due new (inr h) = inr (inr h)

pub bad_of : (semantics : Semantics) (old : Stage) (line : List ℕ) (r : Refusal) (new : Stage) → r ≡ refusal.BadLine → Takes semantics old line (Err r) new
    → Takes semantics old line (Err refusal.BadLine) new
bad_of semantics old line r new e h = subst (λ x. Takes semantics old line (Err x) new) e h

pub no_run_of : (semantics : Semantics) (old : Stage) (line : List ℕ) (r : Refusal) (new : Stage) → r ≡ refusal.NotARun → Takes semantics old line (Err r) new
    → Takes semantics old line (Err refusal.NotARun) new
no_run_of semantics old line r new e h = subst (λ x. Takes semantics old line (Err x) new) e h

-- ---- pieces

-- So much of a piece was taken, up to the end of a line.
pub record Gone (semantics : Semantics) (old_line : List ℕ) (old_number : ℕ) (old : Stage) (piece rest line : List ℕ) (number : ℕ) (stage : Stage) : Type 0 where
  pub gone : List ℕ
  pub split : piece ≡ gone ++ rest
  pub goes_on : (start : State) (taken : List ℕ) → Progress semantics start taken old_line old_number old → Progress semantics start (taken ++ gone) line number stage
  pub going : IsUnderWay semantics number stage
  pub ahead : (old_number < number) ⊎ ((number ≡ old_number) × (line ≡ old_line) × (gone ≡ []))

pub gone_first : (semantics : Semantics) (line : List ℕ) (number : ℕ) (stage : Stage) (piece : List ℕ) → IsUnderWay semantics number stage → Gone semantics line number stage piece piece line number stage
gone_first semantics line number stage piece going = record {
  gone = [];
  split = refl;
  goes_on = λ start taken p. subst (λ t. Progress semantics start t line number stage) (sym (append-nil taken)) p;
  going = going;
  ahead = inr (refl, refl, refl);
}

further : (old_number number : ℕ) (line old_line gone : List ℕ) → (old_number < number) ⊎ ((number ≡ old_number) × (line ≡ old_line) × (gone ≡ [])) → old_number < number + 1
further old_number number line old_line gone (inl h) = omega (arith, h)
further old_number number line old_line gone (inr h) = let e = h.0 in omega (arith, e)

pub gone_on : {semantics : Semantics} {old_line : List ℕ} {old_number : ℕ} {old : Stage} {piece rest line : List ℕ} {number : ℕ} {stage : Stage} (end tail new_line : List ℕ) (new_number : ℕ) (new : Stage)
    → Gone semantics old_line old_number old piece rest line number stage → rest ≡ end ++ 10 ∷ tail → new_number ≡ number + 1 → IsUnderWay semantics new_number new
    → ((start : State) (taken : List ℕ) → Progress semantics start taken line number stage → Progress semantics start (taken ++ (end ++ 10 ∷ [])) new_line new_number new)
    → Gone semantics old_line old_number old piece tail new_line new_number new
gone_on {semantics = semantics} {old_line = old_line} {old_number = old_number} {line = line} {number = number} end tail new_line new_number new g e next going goes =
    let more = further old_number number line old_line g.gone g.ahead in
    record {
      gone = g.gone ++ (end ++ 10 ∷ []);
      split = g.split ∙ ap (λ z. g.gone ++ z) (e ∙ sym (append_assoc end (10 ∷ []) tail)) ∙ sym (append_assoc g.gone (end ++ 10 ∷ []) tail);
      goes_on = λ start taken p. subst (λ t. Progress semantics start t new_line new_number new) (append_assoc taken g.gone (end ++ 10 ∷ [])) (goes start (taken ++ g.gone) (g.goes_on start taken p));
      going = going;
      ahead = inl (omega (arith, more, next));
    }

-- a text whose line ends in a piece
pub in_piece : (taken gone end tail behind piece rest : List ℕ) → piece ≡ gone ++ rest → rest ≡ end ++ 10 ∷ tail
    → (taken ++ gone) ++ (end ++ 10 ∷ (tail ++ behind)) ≡ taken ++ (piece ++ behind)
in_piece taken gone end tail behind piece rest e f =
    let inner : end ++ 10 ∷ (tail ++ behind) ≡ rest ++ behind = sym (append_assoc end (10 ∷ tail) behind) ∙ ap (λ z. z ++ behind) (sym f) in
    let outer : gone ++ (rest ++ behind) ≡ piece ++ behind = sym (append_assoc gone rest behind) ∙ ap (λ z. z ++ behind) (sym e) in
    append_assoc taken gone (end ++ 10 ∷ (tail ++ behind)) ∙ ap (λ z. taken ++ (gone ++ z)) inner ∙ ap (λ z. taken ++ z) outer

advanced_by : (old_line : List ℕ) (old_number : ℕ) (piece rest line gone : List ℕ) (number : ℕ) → piece ≡ gone ++ rest → (old_number < number) ⊎ ((number ≡ old_number) × (line ≡ old_line) × (gone ≡ []))
    → Advances old_number old_line (length piece) number (line ++ rest)
advanced_by old_line old_number piece rest line gone number split (inl h) = inl h
advanced_by old_line old_number piece rest line gone number split (inr h) =
    let same : piece ≡ rest = split ∙ ap (λ z. z ++ rest) h.2 in
    inr (h.0, length-append line rest ∙ ap (λ (z : List ℕ). length z + length rest) h.1 ∙ ap (λ (z : List ℕ). length old_line + length z) (sym same))

-- ---- the last line, where its line feed is wanting

unended_by : (a line : List ℕ) → (line ≡ [] → ⊥) → Lacks 10 line → IsUnended (a ++ line)
unended_by a [] some h = absurd (some refl)
unended_by a (x ∷ []) some h = record { front = a; last = x; split = refl; other = h.0 }
unended_by a (x ∷ y ∷ l) some h =
    let none : y ∷ l ≡ [] → ⊥ = λ e. cc in
    subst IsUnended (append_assoc a (x ∷ []) (y ∷ l)) (unended_by (a ++ x ∷ []) (y ∷ l) none h.1)

pub unended : (semantics : Semantics) (start : State) (taken front : List ℕ) (number : ℕ) (stage : Stage) → (front ≡ [] → ⊥) → Progress semantics start taken front number stage → IsUnended taken
unended semantics start taken front number stage some p = subst IsUnended (sym p.split) (unended_by (lines_text p.lines) front some p.whole)
