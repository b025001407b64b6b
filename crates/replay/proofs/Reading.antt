-- A store that is read piece by piece.
use Rattle.std.proofs.Common.{◌≡◌, ◌+◌, ◌-◌, ◌*◌, ◌^◌, ℕ, List, [], ◌++◌, refl, ap, sym, subst, ◌∙◌, Option, Some, None, IfSome, append_assoc}
use Rattle.std.specs.Io.KnownBytes.{Consumes}
use Rattle.abstract_run.specs.declared.state.State.{State}
use Rattle.tap_exec.specs.Semantics.{Semantics}
use Rattle.run_text.specs.OneTrace.{most_lines}
use Rattle.replay.specs.Stages.{Stage}
use Rattle.replay.specs.inner.Progress.{IsUnderWay, Parts, Progress}

-- What was taken of a store so far was judged.
pub record HasRead (semantics : Semantics) (told left : Option (List ℕ)) (old_line : List ℕ) (old_number : ℕ) (old : Stage) (line : List ℕ) (number : ℕ) (stage : Stage) : Type 0 where
  pub taken : List ℕ
  pub parts : Parts told taken left
  pub goes_on : (start : State) → Progress semantics start [] old_line old_number old → Progress semantics start taken line number stage
  pub going : IsUnderWay semantics number stage

parts_more : (told old new : Option (List ℕ)) (taken piece : List ℕ) → Consumes old new piece → Parts told taken old → Parts told (taken ++ piece) new
parts_more None old new taken piece h p = tt
parts_more (Some text) None new taken piece h p = let e = p.1 in cc
parts_more (Some text) (Some xs) None taken piece h p = absurd h
parts_more (Some text) (Some xs) (Some ys) taken piece h p =
    let same : xs ≡ p.0 = let e = p.1 in cc in
    (ys, refl, p.2 ∙ ap (λ z. taken ++ z) (sym same ∙ h) ∙ sym (append_assoc taken piece ys))

pub read_more : {semantics : Semantics} {told old_left left : Option (List ℕ)} {old_line : List ℕ} {old_number : ℕ} {old : Stage} {line : List ℕ} {number : ℕ} {stage : Stage} (piece new_line : List ℕ)
    (new_number : ℕ) (new : Stage) → HasRead semantics told old_left old_line old_number old line number stage → Consumes old_left left piece → IsUnderWay semantics new_number new
    → ((start : State) (taken : List ℕ) → Progress semantics start taken line number stage → Progress semantics start (taken ++ piece) new_line new_number new)
    → HasRead semantics told left old_line old_number old new_line new_number new
read_more {told = told} {old_left = old_left} {left = left} piece new_line new_number new h gives going goes = record {
  taken = h.taken ++ piece;
  parts = parts_more told old_left left h.taken piece gives h.parts;
  goes_on = λ start p. goes start h.taken (h.goes_on start p);
  going = going;
}

-- what holds of a text that goes on in any way behind a piece, holds of contents that are told
pub fault_told : (told old new : Option (List ℕ)) (taken piece : List ℕ) (P : List ℕ → Type 0) → Parts told taken old → Consumes old new piece → ((behind : List ℕ) → P (taken ++ (piece ++ behind))) → IfSome told P
fault_told None old new taken piece P p h f = tt
fault_told (Some text) None new taken piece P p h f = let e = p.1 in cc
fault_told (Some text) (Some xs) None taken piece P p h f = absurd h
fault_told (Some text) (Some xs) (Some ys) taken piece P p h f =
    let same : xs ≡ p.0 = let e = p.1 in cc in
    subst P (sym (p.2 ∙ ap (λ z. taken ++ z) (sym same ∙ h))) (f ys)

-- ---- the measure

-- how far the reading may still go: by so many lines, and by so many bytes of one
abbrev pub ahead : ℕ → ℕ → ℕ
ahead number held = (most_lines + 2 - number) * 2 ^ 64 + (2 ^ 64 - held)
