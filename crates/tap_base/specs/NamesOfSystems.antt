-- The names in a system: short, and each with one meaning.
use Rattle.std.specs.Prelude.{◌≤◌, ℕ, List, ◌++◌, length, map}
use Rattle.tap_base.specs.declared.system.Message.{Message}
use Rattle.tap_base.specs.declared.system.Process.{Process}
use Rattle.tap_base.specs.declared.system.System.{System}
use Rattle.tap_base.specs.declared.system.Var.{Var}
use Rattle.tap_base.specs.Lists.{Each, AreDistinct}

-- ---- short

abbrev pub IsShort : List ℕ → Type 0
IsShort name = length name ≤ 64

abbrev pub VarsAreShort : List Var → Type 0
VarsAreShort vars = Each (λ v. IsShort v.name) vars

abbrev pub MessageIsShort : Message → Type 0
MessageIsShort m = IsShort m.name × Each (λ f. IsShort f.name) m.fields

abbrev pub ProcessIsShort : Process → Type 0
ProcessIsShort p = IsShort p.name × VarsAreShort p.inputs × VarsAreShort p.vars

-- A name has at most 64 bytes.
pub record NamesAreShort (s : System) : Type 0 where
  pub messages : Each MessageIsShort s.messages
  pub processes : Each ProcessIsShort s.processes

-- ---- distinct

abbrev pub FieldsAreDistinct : Message → Type 0
FieldsAreDistinct m = AreDistinct (map (λ f. f.name) m.fields)

abbrev pub VarsAreDistinct : Process → Type 0
VarsAreDistinct p = AreDistinct (map (λ v. v.name) p.inputs ++ map (λ v. v.name) p.vars)

-- Messages and processes have names of their own, and so have the fields of each message, and the inputs and variables of
-- each process.
pub record NamesAreDistinct (s : System) : Type 0 where
  pub together : AreDistinct (map (λ m. m.name) s.messages ++ map (λ p. p.name) s.processes)
  pub messages : Each FieldsAreDistinct s.messages
  pub processes : Each VarsAreDistinct s.processes
