-- A line leads from a stage to at most one other.
use Rattle.std.proofs.Common.{◌≡◌, inl, inr, ℕ, List, [], ◌∷◌, ◌++◌, map, length, ap, sym, subst, ◌∙◌, Some}
use Rattle.std.proofs.lemmas.List.{append_cancel_left, length-map}
use Rattle.tap_base.specs.Option.{each}
use Rattle.abstract_run.specs.Step.{After, step}
use Rattle.abstract_run.specs.declared.label.Label.{Label}
use Rattle.tap_exec.specs.Semantics.{Semantics}
use Rattle.run_text.specs.Names.{AreNames}
use Rattle.run_text.specs.Sized.{IsSized}
use Rattle.run_text.specs.TraceText.{Datagram, datagram, last_lines, lines_text, names_in, sent_line, went_out}
use Rattle.run_text.proofs.LineLabels.{one_line}
use Rattle.run_text.proofs.Options.{some_same}
use Rattle.replay.specs.Stages.{BeginsLast, Goes, Stage, TakesLabel}
use Rattle.replay.specs.inner.Progress.{Walks}
use Rattle.replay.proofs.Keywords.{last_is_other, no_label_there}

pub sized_names : (semantics : Semantics) (l : Label) → IsSized (length semantics.processes) l → IsSized (length (names_in semantics)) l
sized_names semantics l h = subst (λ n. IsSized n l) (sym (length-map semantics.processes (λ p. p.name))) h

stage_same : (a b : Stage) → a.state ≡ b.state → a.due ≡ b.due → a.closing ≡ b.closing → a ≡ b
stage_same a b e f g = let whole : record { state = a.state; due = a.due; closing = a.closing } ≡ record { state = b.state; due = b.due; closing = b.closing } = cc in whole

behind_same : (line r t : List ℕ) → line ++ 10 ∷ r ≡ line ++ 10 ∷ t → r ≡ t
behind_same line r t e = let k = append_cancel_left line (10 ∷ r) (10 ∷ t) e in cc

due_apart : (P : Type 0) (due line rest : List ℕ) → due ≡ [] → due ≡ line ++ 10 ∷ rest → P
due_apart P due [] rest e f = cc
due_apart P due (x ∷ xs) rest e f = cc

-- two labels of one line
labels_same : (semantics : Semantics) (old a b : Stage) (line : List ℕ) → AreNames (names_in semantics) → TakesLabel semantics old line a → TakesLabel semantics old line b → a ≡ b
labels_same semantics old a b line named h k =
    let same = one_line (names_in semantics) h.label k.label named (sized_names semantics h.label h.sized) (sized_names semantics k.label k.sized) (sym h.spelled ∙ k.spelled) in
    let after = some_same (step semantics old.state k.label) (a.state, h.sends) (b.state, k.sends) (subst (λ l. step semantics old.state l ≡ Some (a.state, h.sends)) same h.steps) k.steps in
    let out = some_same (each (datagram semantics) (went_out (b.state, k.sends))) h.out k.out (subst (λ (x : After). each (datagram semantics) (went_out x) ≡ Some h.out) after h.went) k.went in
    stage_same a b (ap (λ (x : After). x.0) after) (h.due ∙ ap (λ (ds : List Datagram). lines_text (map (sent_line (names_in semantics)) ds)) out ∙ sym k.due) (h.closing ∙ sym k.closing)

label_or_last : (P : Type 0) (semantics : Semantics) (old a b : Stage) (line : List ℕ) → TakesLabel semantics old line a → BeginsLast semantics old line b → P
label_or_last P semantics old a b line h k =
    absurd (no_label_there (names_in semantics) h.label (10 ∷ b.due) (lines_text (last_lines semantics old.state)) (last_is_other semantics old.state) (k.due ∙ ap (λ l. l ++ 10 ∷ b.due) h.spelled))

pub one_next : (semantics : Semantics) (old a b : Stage) (line : List ℕ) → AreNames (names_in semantics) → Goes semantics old line a → Goes semantics old line b → a ≡ b
one_next semantics old a b line named (inl h) (inl k) = stage_same a b (h.state ∙ sym k.state) (behind_same line a.due b.due (sym h.due ∙ k.due)) (h.closing ∙ sym k.closing)
one_next semantics old a b line named (inl h) (inr (inl k)) = due_apart (a ≡ b) old.due line a.due k.ready.nothing_due h.due
one_next semantics old a b line named (inl h) (inr (inr k)) = due_apart (a ≡ b) old.due line a.due k.ready.nothing_due h.due
one_next semantics old a b line named (inr (inl h)) (inl k) = due_apart (a ≡ b) old.due line b.due h.ready.nothing_due k.due
one_next semantics old a b line named (inr (inr h)) (inl k) = due_apart (a ≡ b) old.due line b.due h.ready.nothing_due k.due
one_next semantics old a b line named (inr (inl h)) (inr (inl k)) = labels_same semantics old a b line named h k
one_next semantics old a b line named (inr (inl h)) (inr (inr k)) = label_or_last (a ≡ b) semantics old a b line h k
one_next semantics old a b line named (inr (inr h)) (inr (inl k)) = label_or_last (a ≡ b) semantics old b a line k h
one_next semantics old a b line named (inr (inr h)) (inr (inr k)) = stage_same a b (h.state ∙ sym k.state) (behind_same line a.due b.due (sym h.due ∙ k.due)) (h.closing ∙ sym k.closing)

pub one_walk : (semantics : Semantics) (old a b : Stage) (lines : List (List ℕ)) → AreNames (names_in semantics) → Walks semantics old lines a → Walks semantics old lines b → a ≡ b
one_walk semantics old a b [] named w v = sym w ∙ v
one_walk semantics old a b (l ∷ ls) named w v =
    let same = one_next semantics old w.0 v.0 l named w.1 v.1 in
    one_walk semantics v.0 a b ls named (subst (λ s. Walks semantics s ls a) same w.2) v.2
