-- The order in which broken rules stand.
use Rattle.std.specs.Prelude.{ℕ, ◌==◌, Bool, ◌||◌, if◌then◌else◌, List, [], ◌∷◌}
use Rattle.std.specs.Cmp.Lexicographic.{slice_cmp}
use Rattle.std.specs.List.Sorted.{IsSortedByKey}
use Rattle.std.specs.Ordering.{nat_cmp}
use Rattle.register_code.specs.declared.bad.BadCode.{BadCode}
use Rattle.register_code.specs.declared.bad.Part.{Part}
use Rattle.register_code.specs.declared.bad.Part.TheVariants as part
use Rattle.register_code.specs.declared.code.Code.{Code}
use Rattle.register_code.specs.Verified.{breaks}

-- A guard comes before its body.
abbrev pub part_number : Part → ℕ
part_number part.Guard = 0
part_number part.Body = 1

-- the rules on a whole part: its cost and its sends
abbrev pub is_of_whole : ℕ → Bool
is_of_whole rule = rule == 11 || rule == 12

-- The rules on a whole part come after all others of that part.
abbrev pub whole_number : ℕ → ℕ
whole_number rule = if is_of_whole rule then 1 else 0

-- process, action, part, whether the rule is of the whole part, instruction, rule
abbrev pub place_of_break : BadCode → List ℕ
place_of_break bad = bad.process ∷ bad.action ∷ part_number bad.part ∷ whole_number bad.rule ∷ bad.instr ∷ bad.rule ∷ []

-- All broken rules stand by these numbers, where the first that differs decides.
abbrev pub BreaksAreInOrder : Type 0
BreaksAreInOrder = (code : Code) → IsSortedByKey place_of_break (slice_cmp nat_cmp) (breaks code)
