-- What a reader of a line, or of a word of one, answers.
use Rattle.std.specs.Prelude.{◌≡◌, ℕ, List, map, Result, MatchResult}
use Rattle.std.specs.Borrow.{Bor}
use Rattle.run_text.specs.declared.fault.LineFault.{LineFault}
use Rattle.run_text.specs.declared.fault.LineFault.TheVariants as fault

-- nothing is this
abbrev pub NothingIs : {A : Type 0} → (A → Type 0) → Type 0
NothingIs {A} Is = (x : A) → Is x → ⊥

-- A reader answers a value that is this; or `BadLine`, and then nothing is this; or it finds no memory.
abbrev pub Reads : {A : Type 0} → (A → Type 0) → Result A LineFault → Type 0
Reads Is result = MatchResult result Is (λ e. e ≡ fault.BadLine → NothingIs Is)

-- The same of a reader of two values.
abbrev pub ReadsTwo : {A B : Type 0} → (A → B → Type 0) → Result (A × B) LineFault → Type 0
ReadsTwo {A} {B} Are result = MatchResult result (λ x. Are x.0 x.1) (λ e. e ≡ fault.BadLine → (x : A) (y : B) → Are x y → ⊥)

-- the bytes of words
abbrev pub texts : List (Bor (List ℕ)) → List (List ℕ)
texts words = map (λ w. w.now) words
