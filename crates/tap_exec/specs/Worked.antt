-- What statements do, worked on small cases.
use Rattle.std.specs.Prelude.{◌≡◌, ℕ, ℤ, pos, List, [], ◌∷◌, Some, None}
use Rattle.tap_base.specs.declared.place.Place.{Place}
use Rattle.tap_base.specs.declared.place.Range.{Range}
use Rattle.tap_base.specs.declared.tree.Branch.{Branch}
use Rattle.tap_base.specs.declared.tree.Expr.{Expr}
use Rattle.tap_base.specs.declared.tree.ExprKind.TheVariants as kind
use Rattle.tap_base.specs.declared.tree.Target.{Target}
use Rattle.tap_base.specs.declared.wire.WireField.{WireField}
use Rattle.tap_base.specs.declared.tree.Stmt.{Stmt}
use Rattle.tap_base.specs.declared.tree.Stmt.TheVariants as stmt
use Rattle.tap_exec.specs.Running.{Running}
use Rattle.tap_exec.specs.Execution.{execution}

-- ---- writing shorter

abbrev pub here : Place
here = record { line = 1; column = 1 }

abbrev pub number : ℕ → Expr
number n = record { kind = kind.Number (pos n); place = here }

abbrev pub cell_of : ℕ → Expr
cell_of k = record { kind = kind.Cell k; place = here }

abbrev pub digit : Range
digit = record { lo = pos 0; hi = pos 9 }

-- the cell k, of the range 0..9
abbrev pub to_cell : ℕ → Target
to_cell k = record { first = k; length = 1; index = None; range = digit; place = here }

abbrev pub running : List ℤ → List ℤ → Running
running cells choices = record { cells = cells; timers = []; sends = []; choices = choices }

-- ---- statements

-- `x, y := y, x` takes 1 and 2 to 2 and 1.
abbrev pub SwapSwaps : Type 0
SwapSwaps =
    execution [] [] [] (stmt.Assign (to_cell 0 ∷ to_cell 1 ∷ []) (cell_of 1 ∷ cell_of 0 ∷ []) ∷ []) (running (pos 1 ∷ pos 2 ∷ []) [])
    ≡ Some (running (pos 2 ∷ pos 1 ∷ []) [])

-- the element of an array of two cells
abbrev pub to_element : ℕ → Target
to_element i = record { first = 0; length = 2; index = Some (number i); range = digit; place = here }

-- `xs[1] := 7` writes the second cell.
abbrev pub ElementIsWritten : Type 0
ElementIsWritten = execution [] [] [] (stmt.Assign (to_element 1 ∷ []) (number 7 ∷ []) ∷ []) (running (pos 1 ∷ pos 2 ∷ pos 3 ∷ []) []) ≡ Some (running (pos 1 ∷ pos 7 ∷ pos 3 ∷ []) [])

-- `xs[2] := 7` is outside the array, and does not write the cell next door.
abbrev pub OutsideIsNone : Type 0
OutsideIsNone = execution [] [] [] (stmt.Assign (to_element 2 ∷ []) (number 7 ∷ []) ∷ []) (running (pos 1 ∷ pos 2 ∷ pos 3 ∷ []) []) ≡ None

abbrev pub choose_twice : List Stmt
choose_twice = stmt.Loop 2 (record { guard = number 1; body = stmt.Choose (to_cell 0) ∷ [] } ∷ []) ∷ []

-- `do 2 times true -> choose x od` takes two choices, and the last one stays.
abbrev pub ChoicesAreTaken : Type 0
ChoicesAreTaken = execution [] [] [] choose_twice (running (pos 0 ∷ []) (pos 7 ∷ pos 3 ∷ [])) ≡ Some (running (pos 3 ∷ []) [])

-- It is not possible with a choice outside the range.
abbrev pub ChoicesAreInRange : Type 0
ChoicesAreInRange = execution [] [] [] choose_twice (running (pos 0 ∷ []) (pos 7 ∷ pos 10 ∷ [])) ≡ None

-- `true -> x := n`
abbrev pub setting : ℕ → Branch
setting n = record { guard = number 1; body = stmt.Assign (to_cell 0 ∷ []) (number n ∷ []) ∷ [] }

abbrev pub set_either : List Stmt
set_either = stmt.If (setting 1 ∷ setting 2 ∷ []) ∷ []

-- `if true -> x := 1 [] true -> x := 2 fi` takes the number of its branch.
abbrev pub BranchesAreChosen : Type 0
BranchesAreChosen = execution [] [] [] set_either (running (pos 0 ∷ []) (pos 1 ∷ [])) ≡ Some (running (pos 2 ∷ []) [])

-- ---- sends

-- a message of a free field, one that is fixed at 5, and a free one
abbrev pub three_fields : List WireField
three_fields = record { width = 8; fixed = None } ∷ record { width = 4; fixed = Some (pos 5) } ∷ record { width = 8; fixed = None } ∷ []

-- `send m(1, 2) to b` sends 1, 5 and 2.
abbrev pub FixedIsFilledIn : Type 0
FixedIsFilledIn =
    execution (three_fields ∷ []) [] [] (stmt.Send 0 (number 1 ∷ number 2 ∷ []) 1 ∷ []) (running [] [])
    ≡ Some (record { cells = []; timers = []; sends = record { to = 1; message = 0; values = pos 1 ∷ pos 5 ∷ pos 2 ∷ [] } ∷ []; choices = [] })

-- With a value for the fixed field too there is one too many.
abbrev pub FixedIsNotGiven : Type 0
FixedIsNotGiven = execution (three_fields ∷ []) [] [] (stmt.Send 0 (number 1 ∷ number 5 ∷ number 2 ∷ []) 1 ∷ []) (running [] []) ≡ None
