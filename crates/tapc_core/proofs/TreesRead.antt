-- Texts that were read: whole ones, and those that are too long.
use Rattle.std.proofs.Common.{◌≡◌, ◌<◌, length, List, ℕ, Option, Some, None, IfSome, subst}
use Rattle.tap_base.specs.declared.refusal.RefusalCode.TheVariants as code
use Rattle.tap_lexer.specs.Bytes.{start}
use Rattle.tap_expr.specs.ExprText.{refusal}
use Rattle.tap_front.specs.Accepting.{longest_text}
use Rattle.tap_front.specs.declared.offence.Offence.{Offence}
use Rattle.tap_front.specs.declared.offence.Offence.TheVariants.{Coded}
use Rattle.tapc_core.specs.Reading.{ReadsText}
use Rattle.tapc_core.specs.declared.reading.Reading.{Reading}
use Rattle.tapc_core.specs.declared.reading.Reading.TheVariants.{TooLong, Whole}

told_whole : (P : List ℕ → Type 0) (told left : Option (List ℕ)) (bytes : List ℕ) → ReadsText told (Whole bytes) left → P bytes → IfSome told P
told_whole P None left bytes h holds = tt
told_whole P (Some text) left bytes h holds = subst P h.1.0 holds

-- what is so of a text that was read whole is so of what is told
pub read_all : (P : List ℕ → Type 0) (told left : Option (List ℕ)) (reading : Reading) (bytes : List ℕ) → reading ≡ Whole bytes → ReadsText told reading left → P bytes → IfSome told P
read_all P told left reading bytes e h = told_whole P told left bytes (subst (λ r. ReadsText told r left) e h)

-- what is so of each text that is too long is so of what is told of one
module _ (First : List ℕ → Offence → Type 0) (long : (text : List ℕ) → longest_text < length text → First text (Coded (refusal code.L0 start))) where
  told_long : (told left : Option (List ℕ)) → ReadsText told TooLong left → IfSome told (λ text. First text (Coded (refusal code.L0 start)))
  told_long None left h = tt
  told_long (Some text) left h = long text h.0

  -- of a text that is too long one byte past the limit was read
  pub read_long : (told left : Option (List ℕ)) (reading : Reading) (o : Offence) → reading ≡ TooLong → Coded (refusal code.L0 start) ≡ o → ReadsText told reading left → IfSome told (λ text. First text o)
  read_long told left reading o e same h =
      subst (λ p. IfSome told (λ text. First text p)) same (told_long told left (subst (λ r. ReadsText told r left) e h))
