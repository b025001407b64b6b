-- Stages behind a line that came next.
use Rattle.std.proofs.Common.{◌≡◌, ◌+◌, ℕ, Bool, true, false, List, [], ◌∷◌, ◌++◌, map, length, drop, refl, ap, sym, subst, ◌∙◌, Option, Some, None, Err}
use Rattle.std.specs.Borrow.{Bor}
use Rattle.std.specs.Bool.{OnFalse}
use Rattle.std.specs.Prelude.{MatchOption, is_some}
use Rattle.tap_base.specs.Option.{each}
use Rattle.tap_exec.specs.declared.running.Outgoing.{Outgoing}
use Rattle.tap_exec.specs.Semantics.{Semantics}
use Rattle.abstract_run.specs.Step.{After, Steps, step}
use Rattle.abstract_run.specs.declared.label.Label.{Label}
use Rattle.abstract_run.specs.declared.state.State.{State}
use Rattle.abstract_run.specs.declared.state.StepFault.{StepFault}
use Rattle.abstract_run.specs.declared.state.StepFault.TheVariants as fault
use Rattle.run_text.specs.TraceText.{Datagram, datagram, label_line, last_lines, lines_text, names_in, sent_line, went_out}
use Rattle.run_text.proofs.Options.{mapped}
use Rattle.trace_entries.specs.Entries.{HasLabelLine}
use Rattle.replay.specs.Stages.{BeginsLast, IsReady, Stage, TakesLabel}
use Rattle.replay.specs.inner.Judging.{Wrote, sends_text}
use Rattle.replay.specs.inner.Passing.{Begins, IsNotDue, IsNotLast, Passes}
use Rattle.replay.proofs.Fronts.{behind_first}
use Rattle.replay.proofs.Refusals.{sized_here}

-- a step that is not possible
pub refused : (expected : Option After) (old new : State) (e : StepFault) → e ≡ fault.NotEnabled → Steps expected old (Err e) new → (expected ≡ None) × (new ≡ old)
refused expected old new e is h = let there : Steps expected old (Err fault.NotEnabled) new = subst (λ x. Steps expected old (Err x) new) is h in there

-- a label was done, and the lines of what went out were written
pub label_taken : (semantics : Semantics) (old new : Stage) (l : Label) (sends out : List Outgoing) (before after : List ℕ) → IsReady old → HasLabelLine (length (names_in semantics)) l
    → step semantics old.state l ≡ Some (new.state, sends) → out ≡ went_out (new.state, sends) → before ≡ [] → Wrote (sends_text semantics out) before after → new.due ≡ after → new.closing ≡ old.closing
    → TakesLabel semantics old (label_line (names_in semantics) l) new
label_taken semantics old new l sends out before after ready has_line steps is none wrote due closing =
    let text = λ (ds : List Datagram). lines_text (map (sent_line (names_in semantics)) ds) in
    let m = mapped (each (datagram semantics) out) text wrote.lines wrote.shown in
    record {
      ready = ready;
      label = l;
      sized = sized_here semantics l has_line;
      spelled = refl;
      sends = sends;
      steps = steps;
      out = m.x;
      went = ap (each (datagram semantics)) (sym is) ∙ m.from;
      due = due ∙ wrote.told ∙ ap (λ z. z ++ wrote.lines) none ∙ sym m.is;
      closing = closing ∙ ready.not_closing;
    }

-- the first of the last lines, which were written
pub last_taken : (semantics : Semantics) (old : Stage) (s : State) (line text rest : List ℕ) → IsReady old → old.state ≡ s → s.falling ≡ None → text ≡ lines_text (last_lines semantics s)
    → text ≡ line ++ 10 ∷ rest → BeginsLast semantics old line (record { state = s; due = drop (length line + 1) text; closing = true })
last_taken semantics old s line text rest ready same settled wrote front = record {
  ready = ready;
  settled = ap (λ (x : State). x.falling) same ∙ settled;
  due = ap (λ x. lines_text (last_lines semantics x)) same ∙ sym wrote ∙ front ∙ ap (λ z. line ++ 10 ∷ z) (sym (behind_first text line rest front));
  state = sym same;
  closing = refl;
}

-- a stage whose state stays
pub same_stage : (new old : State) (due : List ℕ) (closing : Bool) (now : Stage) → new ≡ old → record { state = old; due = due; closing = closing } ≡ now → record { state = new; due = due; closing = closing } ≡ now
same_stage new old due closing now e view = ap (λ (s : State). let whole : Stage = record { state = s; due = due; closing = closing } in whole) e ∙ view

-- what stands behind a line, where it is there
pub some_behind : (found : Option (Bor (List ℕ))) (P : Type 0) (Q : Bor (List ℕ) → Type 0) → is_some found ≡ true → MatchOption found P Q → (x : Bor (List ℕ)) × Q x
some_behind None P Q e h = cc
some_behind (Some x) P Q e h = (x, h)

-- what holds of a test that failed
pub on_false : (b : Bool) (P : Type 0) → b ≡ false → OnFalse b P → P
on_false b P e h = let there : OnFalse false P = subst (λ x. OnFalse x P) e h in there

-- the line was not the one that is due, and not the first of the last lines
pub passed_by : (semantics : Semantics) (old middle new : Stage) (line : List ℕ) (due last : Bool) → due ≡ false → Passes old line due middle → last ≡ false → Begins semantics middle line last new
    → IsNotDue old line × IsNotLast semantics old line × (new ≡ old)
passed_by semantics old middle new line due last e p f b =
    let first : Passes old line false middle = subst (λ x. Passes old line x middle) e p in
    let then_ : Begins semantics middle line false new = subst (λ x. Begins semantics middle line x new) f b in
    (first.0, subst (λ s. IsNotLast semantics s line) first.1 then_.0, then_.1 ∙ first.1)
