-- What statements do to the cells and timers of a process, and what they send, whatever gives the choices.
use Rattle.std.specs.Prelude.{ℕ, zero, suc, ◌+◌, ◌^◌, ℤ, pos, Bool, true, false, ◌&&◌, if◌then◌else◌, int_le, int_lt, unsigned_abs, List, [], ◌∷◌, ◌++◌, map, slice_get, slice_set, Option, Some, None}
use Rattle.std.specs.Ordering.{int_eq}
use Rattle.tap_base.specs.declared.tree.Expr.{Expr}
use Rattle.tap_base.specs.declared.tree.Target.{Target}
use Rattle.tap_base.specs.declared.tree.Stmt.{Stmt}
use Rattle.tap_base.specs.declared.tree.Stmt.TheFolds.{fold-Stmt, fold-Branch}
use Rattle.tap_base.specs.declared.tree.Stmt.TheOpen.{Stmt-F, Branch-F}
use Rattle.tap_base.specs.declared.tree.Branch.{Branch}
use Rattle.tap_base.specs.declared.wire.WireField.{WireField}
use Rattle.tap_base.specs.Option.{◌>>=◌, provided, each}
use Rattle.tap_base.specs.Ranges.{values_of}
use Rattle.tap_exec.specs.declared.running.Running.{Running}
use Rattle.tap_exec.specs.declared.running.TimerState.{TimerState}
use Rattle.tap_exec.specs.declared.running.TimerState.TheVariants.{Off, Armed}
use Rattle.tap_exec.specs.Filling.{filled}

-- What gives choices: asked with a list of options it gives one of them, and is what is left of it; or none.
abbrev pub Source : Type 0 → Type 0
Source C = List ℤ → C → Option (ℤ × C)

-- what a statement does; none where it can't be done with these choices
abbrev pub Doing : Type 0 → Type 0
Doing C = Running C → Option (Running C)

-- one after the other
abbrev pub do_all : {C : Type 0} → List (Doing C) → Doing C
do_all [] r = Some r
do_all (d ∷ ds) r = d r >>= do_all ds

-- ---- cells and timers

-- the cells with the values written at the places, from left to right
abbrev pub writes : List ℕ → List ℤ → List ℤ → List ℤ
writes (k ∷ ks) (x ∷ xs) cells = writes ks xs (slice_set cells k x)
writes _ _ cells = cells

abbrev pub with_timer : {C : Type 0} → ℕ → TimerState → Running C → Running C
with_timer t state r = record r { timers = slice_set r.timers t state }

-- ---- selections and loops

-- an alternative of a selection or a loop: whether its guard holds, and what its body does
abbrev pub Alternative : Type 0 → Type 0
Alternative C = (Running C → Option Bool) × Doing C

-- the numbers of the alternatives whose guards hold, counted from i
abbrev pub open_from : {C : Type 0} → ℕ → List (Alternative C) → Running C → Option (List ℕ)
open_from i [] r = Some []
open_from i (b ∷ bs) r = do
  here ← b.0 r
  later ← open_from (i + 1) bs r
  Some (if here then i ∷ later else later)

-- the alternative numbered k runs
abbrev pub one_runs : {C : Type 0} → List (Alternative C) → ℕ → Running C → Option (Bool × Running C)
one_runs bs k r = do
  b ← slice_get bs k
  after ← b.1 r
  Some (true, after)

-- One round, by the numbers of the alternatives that are open: none runs, the only one runs, or the next choice says which.
abbrev pub round : {C : Type 0} → Source C → List (Alternative C) → List ℕ → Running C → Option (Bool × Running C)
round source bs [] r = Some (false, r)
round source bs (k ∷ []) r = one_runs bs k r
round source bs (k ∷ l ∷ more) r = do
  choice ← source (map pos (k ∷ l ∷ more)) r.choices
  one_runs bs (unsigned_abs choice.0) (record r { choices = choice.1 })

-- so many rounds, or fewer where no alternative is open before
abbrev pub rounds : {C : Type 0} → Source C → ℕ → List (Alternative C) → Doing C
rounds source zero bs r = Some r
rounds source (suc n) bs r = do
  ready ← open_from 0 bs r
  done ← round source bs ready r
  if done.0 then rounds source n bs done.1 else Some done.1

-- Statements, by what each expression is in the cells, the inputs and the received values, and by the declared messages.
module _ (value : Expr → List ℤ → List ℤ → List ℤ → Option ℤ) (messages : List (List WireField)) (inputs received : List ℤ) where
  abbrev pub value_in : {C : Type 0} → Running C → Expr → Option ℤ
  value_in r e = value e r.cells inputs received

  -- the cell that a target names: its first, or the one that its index says, which is none outside its array
  abbrev pub place_by : {C : Type 0} → Running C → Target → Option Expr → Option ℕ
  place_by r t None = Some t.first
  place_by r t (Some e) = do
    i ← value_in r e
    provided (int_le (pos 0) i && int_lt i (pos t.length)) (t.first + unsigned_abs i)

  abbrev pub place_in : {C : Type 0} → Running C → Target → Option ℕ
  place_in r t = place_by r t t.index

  -- All places and values are found in the old cells, and then written from left to right.
  abbrev pub assigned : {C : Type 0} → List Target → List Expr → Doing C
  assigned targets values r = do
    places ← each (place_in r) targets
    numbers ← each (value_in r) values
    Some (record r { cells = writes places numbers r.cells })

  -- The next choice is written, where it is a value of the target's range.
  abbrev pub chosen : {C : Type 0} → Source C → Target → Doing C
  chosen source target r = do
    place ← place_in r target
    choice ← source (values_of target.range) r.choices
    Some (record r { cells = slice_set r.cells place choice.0; choices = choice.1 })

  -- A send has the values of all fields of its message, and comes after those before it.
  abbrev pub sent : {C : Type 0} → ℕ → List Expr → ℕ → Doing C
  sent message given to r = do
    fields ← slice_get messages message
    numbers ← each (value_in r) given
    values ← filled fields numbers
    Some (record r { sends = r.sends ++ record { to = to; message = message; values = values } ∷ [] })

  -- The timer is armed, whatever it was; none where the delay has no place in 32 bits.
  abbrev pub started : {C : Type 0} → ℕ → Expr → Doing C
  started timer delay r = do
    d ← value_in r delay
    wait ← provided (int_le (pos 0) d && int_lt d (pos (2 ^ 32))) (unsigned_abs d)
    Some (with_timer timer (Armed wait) r)

  abbrev pub holds_in : {C : Type 0} → Running C → Expr → Option Bool
  holds_in r e = value_in r e >>= λ x. Some (int_eq x (pos 1))

  -- with choices from a source
  module _ {C : Type 0} (source : Source C) where
    -- one statement, with what each alternative does in its place
    abbrev pub doing : Stmt-F (Doing C) (Alternative C) → Doing C
    doing Stmt-F.Skip r = Some r
    doing (Stmt-F.Assign targets values) r = assigned targets values r
    doing (Stmt-F.Choose target) r = chosen source target r
    doing (Stmt-F.Send message values to) r = sent message values to r
    doing (Stmt-F.Start timer delay) r = started timer delay r
    doing (Stmt-F.Stop timer) r = Some (with_timer timer Off r)
    doing (Stmt-F.If branches) r = rounds source 1 branches r
    doing (Stmt-F.Loop count branches) r = rounds source count branches r

    -- one alternative, with what each statement of its body does in its place
    abbrev pub alternative_step : Branch-F (Doing C) (Alternative C) → Alternative C
    alternative_step b = ((λ r. holds_in r b.guard), do_all b.body)

    abbrev pub alternative : Branch → Alternative C
    alternative = fold-Branch (Doing C) (Alternative C) doing alternative_step

    -- what a statement does
    abbrev pub exec : Stmt → Doing C
    exec = fold-Stmt (Doing C) (Alternative C) doing alternative_step

    -- what a list of statements does, from left to right
    abbrev pub exec_all : List Stmt → Doing C
    exec_all stmts = do_all (map exec stmts)
