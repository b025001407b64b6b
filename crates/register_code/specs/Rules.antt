-- The rules that an instruction breaks.
use Rattle.std.specs.Prelude.{ℕ, Bool, not, if◌then◌else◌, List, [], ◌∷◌, ◌++◌}
use Rattle.register_code.specs.declared.instr.Instr.{Instr}
use Rattle.register_code.specs.Jumping.{jumps_well, loops_well}
use Rattle.register_code.specs.Naming.{names_exist}
use Rattle.register_code.specs.Results.{delay_fits, has_options, index_fits, result_fits}
use Rattle.register_code.specs.Sending.{can_send}
use Rattle.register_code.specs.Sites.{Site}

-- a rule's number where it is not kept
abbrev pub unless : Bool → ℕ → List ℕ
unless kept rule = if kept then [] else rule ∷ []

-- the numbers of the rules that are not kept, in order; where something that is named is not there, that alone
abbrev pub broken_rules : Bool → Bool → Bool → Bool → Bool → Bool → Bool → Bool → List ℕ
broken_rules names result index options sends jumps loops delay =
    if not names then 4 ∷ [] else unless result 5 ++ unless index 6 ++ unless options 7 ++ unless sends 8 ++ unless jumps 9 ++ unless loops 10 ++ unless delay 13

-- the rules that an instruction breaks
abbrev pub broken : Site → ℕ → Instr → List ℕ
broken s at i =
    broken_rules (names_exist s i) (result_fits s i) (index_fits s i) (has_options s i) (can_send s i) (jumps_well s.instrs at i) (loops_well s.instrs at i) (delay_fits s i)
