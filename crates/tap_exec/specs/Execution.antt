-- What statements do with a list of choices, of which each choice point takes the first.
use Rattle.std.specs.Prelude.{ℕ, ℤ, Bool, true, false, List, [], ◌∷◌, Option, Some, None}
use Rattle.std.specs.Ordering.{int_eq}
use Rattle.std.specs.List.{list_any}
use Rattle.tap_base.specs.declared.tree.Expr.{Expr}
use Rattle.tap_base.specs.declared.tree.Target.{Target}
use Rattle.tap_base.specs.declared.tree.Stmt.{Stmt}
use Rattle.tap_base.specs.declared.tree.Branch.{Branch}
use Rattle.tap_base.specs.declared.wire.WireField.{WireField}
use Rattle.tap_base.specs.Option.{provided}
use Rattle.tap_exec.specs.declared.running.TimerState.{TimerState}
use Rattle.tap_exec.specs.Running.{Running}
use Rattle.tap_exec.specs.Sourced as sourced
use Rattle.tap_exec.specs.Value.{value_of}

-- what a statement does; none where it can't be done with these choices
abbrev pub Doing : Type 0
Doing = sourced.Doing (List ℤ)

-- one after the other
abbrev pub do_all : List Doing → Doing
do_all = sourced.do_all

-- the cells with the values written at the places, from left to right
abbrev pub writes : List ℕ → List ℤ → List ℤ → List ℤ
writes = sourced.writes

abbrev pub with_timer : ℕ → TimerState → Running → Running
with_timer = sourced.with_timer

-- A choice point has a list of options: the next choice, where it is one of them, and the choices after it.
abbrev pub takes : sourced.Source (List ℤ)
takes options [] = None
takes options (x ∷ rest) = provided (list_any (int_eq x) options) (x, rest)

-- they are all taken
abbrev pub is_empty : {A : Type 0} → List A → Bool
is_empty [] = true
is_empty (x ∷ xs) = false

-- an alternative of a selection or a loop
abbrev pub Alternative : Type 0
Alternative = sourced.Alternative (List ℤ)

abbrev pub open_from : ℕ → List Alternative → Running → Option (List ℕ)
open_from = sourced.open_from

abbrev pub one_runs : List Alternative → ℕ → Running → Option (Bool × Running)
one_runs = sourced.one_runs

abbrev pub round : List Alternative → List ℕ → Running → Option (Bool × Running)
round = sourced.round takes

abbrev pub rounds : ℕ → List Alternative → Doing
rounds = sourced.rounds takes

module _ (value : Expr → List ℤ → List ℤ → List ℤ → Option ℤ) (messages : List (List WireField)) (inputs received : List ℤ) where
  abbrev pub value_in : Running → Expr → Option ℤ
  value_in = sourced.value_in value messages inputs received

  abbrev pub place_by : Running → Target → Option Expr → Option ℕ
  place_by = sourced.place_by value messages inputs received

  abbrev pub place_in : Running → Target → Option ℕ
  place_in = sourced.place_in value messages inputs received

  abbrev pub assigned : List Target → List Expr → Doing
  assigned = sourced.assigned value messages inputs received

  abbrev pub chosen : Target → Doing
  chosen = sourced.chosen value messages inputs received takes

  abbrev pub sent : ℕ → List Expr → ℕ → Doing
  sent = sourced.sent value messages inputs received

  abbrev pub started : ℕ → Expr → Doing
  started = sourced.started value messages inputs received

  abbrev pub holds_in : Running → Expr → Option Bool
  holds_in = sourced.holds_in value messages inputs received

  abbrev pub alternative : Branch → Alternative
  alternative = sourced.alternative value messages inputs received takes

  -- what a statement does
  abbrev pub exec : Stmt → Doing
  exec = sourced.exec value messages inputs received takes

  -- what a list of statements does, from left to right
  abbrev pub exec_all : List Stmt → Doing
  exec_all = sourced.exec_all value messages inputs received takes

-- What statements do with these inputs and received values: cells, timers, sends and the choices that are left.
abbrev pub execution : List (List WireField) → List ℤ → List ℤ → List Stmt → Doing
execution messages inputs received stmts = exec_all (λ e cells i r. Some (value_of e cells i r)) messages inputs received stmts
