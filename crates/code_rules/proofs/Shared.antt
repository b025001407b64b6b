-- The registers that the actions of a process share.
use Rattle.std.proofs.Common.{◌≡◌, ◌+◌, ◌≤◌, ℕ, List, ◌++◌, map, length, take, ap, ◌∙◌, arith}
use Rattle.std.proofs.lemmas.List.{length-take-le, take-append-le, take_all}
use Rattle.register_code.specs.declared.bad.Part.{Part}
use Rattle.register_code.specs.declared.code.CodeAction.{CodeAction}
use Rattle.register_code.specs.declared.code.CodeProcess.{CodeProcess}
use Rattle.register_code.specs.Registers.{cell_ranges, input_ranges, temporary_range}
use Rattle.code_rules.specs.declared.place.PartPlace.{PartPlace}
use Rattle.code_rules.specs.Places.{IsInProcess, IsPlace}

front_all : {A : Type 0} (xs ys : List A) → take (length xs) (xs ++ ys) ≡ xs
front_all xs ys = take-append-le (length xs) xs ys (omega arith) ∙ take_all (length xs) xs (omega arith)

-- A part's place is a place of its process.
pub still : (p : ℕ) (process : CodeProcess) (action : CodeAction) (which : Part) (s : PartPlace) → IsPlace p process action which s → IsInProcess p process s
still p process action which s h = record {
  process_is = h.process_is;
  cells_are = h.cells_are;
  inputs_are = h.inputs_are;
  shared_are = h.shared_are;
  timers_are = h.timers_are;
  ranges_are =
      let shared = cell_ranges process ++ input_ranges process in
      ap (λ n. take n s.ranges) h.shared_are ∙ ap (take (length shared)) h.ranges_are ∙ front_all shared (map temporary_range action.temporaries);
  others = h.tables.others;
}

-- the first of a list, in front of others
pub front_left : {A : Type 0} (xs ys : List A) (n : ℕ) → n ≤ length xs → take n (take n xs ++ ys) ≡ take n xs
front_left xs ys n l = let long = length-take-le n xs l in take-append-le n (take n xs) ys (omega (arith, long)) ∙ take_all n (take n xs) (omega (arith, long))
