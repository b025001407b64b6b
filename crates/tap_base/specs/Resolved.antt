-- The systems whose names are all resolved: whatever is named by number is there, ranges are in order, names are short and
-- distinct, truths stand where truths are due, and the limits are kept. Whether values fit is no part of it.
use Rattle.std.specs.Prelude.{◌≡◌, ◌≢◌, ℕ, ◌+◌, ◌<◌, ◌≤◌, ◌^◌, ◌≤ℤ◌, ◌<ℤ◌, ◌-ℤ◌, pos, true, IfSome, length, List, Some, None, slice_get}
use Rattle.tap_base.specs.declared.place.Range.{Range}
use Rattle.tap_base.specs.declared.system.Action.{Action}
use Rattle.tap_base.specs.declared.system.Field.{Field}
use Rattle.tap_base.specs.declared.system.Guard.{Guard}
use Rattle.tap_base.specs.declared.system.Guard.TheVariants as guard
use Rattle.tap_base.specs.declared.system.Message.{Message}
use Rattle.tap_base.specs.declared.system.Process.{Process}
use Rattle.tap_base.specs.declared.system.System.{System}
use Rattle.tap_base.specs.declared.system.Var.{Var}
use Rattle.tap_base.specs.declared.tree.Expr.{Expr}
use Rattle.tap_base.specs.declared.tree.Target.{Target}
use Rattle.tap_base.specs.Interval.{IsIn, fits}
use Rattle.tap_base.specs.Lists.{Each, EachFrom}
use Rattle.tap_base.specs.Ranges.{ranges_of}
use Rattle.tap_base.specs.NamesOfSystems.{NamesAreDistinct, NamesAreShort}
use Rattle.tap_base.specs.Parts.{Leaf, leaves, Deed, all_deeds, number, cell, array, input, part, assign, choose, send, start, stop, test, turns}
use Rattle.tap_base.specs.Receivers.{HasReceiver}
use Rattle.tap_base.specs.Scope.{Scope, free_fields, scope_of}
use Rattle.tap_base.specs.Truths.{DeedHasTruths, GuardIsTest}

-- ---- expressions

-- so many cells from the first on, at least one, have this range
pub record IsArray (cells : List Range) (first count : ℕ) (range : Range) : Type 0 where
  pub some : 1 ≤ count
  pub each : (i : ℕ) → i < count → slice_get cells (first + i) ≡ Some range

-- what is named is there, and a number is one of 64 bits
abbrev pub IsThere : Scope → Leaf → Type 0
IsThere s (number n) = fits n ≡ true
IsThere s (cell k) = k < length s.cells
IsThere s (array first count) = (range : Range) × IsArray s.cells first count range
IsThere s (input k) = k < length s.inputs
IsThere s (part k) = k < length s.fields

abbrev pub IsResolvedExpr : Scope → Expr → Type 0
IsResolvedExpr s e = Each (IsThere s) (leaves e)

-- ---- statements

-- the target is a variable, or an element of an array, with its range
pub record IsResolvedTarget (s : Scope) (t : Target) : Type 0 where
  pub cells : IsArray s.cells t.first t.length t.range
  pub index : IfSome t.index (IsResolvedExpr s)
  pub whole : t.index ≡ None → t.length ≡ 1

-- one value for each free field of a message that there is, to another process, which receives it
pub record IsResolvedSend (system : System) (p : ℕ) (s : Scope) (m : ℕ) (values : List Expr) (q : ℕ) : Type 0 where
  pub message : Message
  pub named : slice_get system.messages m ≡ Some message
  pub counted : length values ≡ length (free_fields message.fields)
  pub resolved : Each (IsResolvedExpr s) values
  pub peer : q < length system.processes
  pub other : q ≢ p
  pub received : HasReceiver system q m p

-- what a deed of p names is there
abbrev pub IsMet : System → ℕ → Process → Scope → Deed → Type 0
IsMet system p process s (assign targets values) = (length targets ≡ length values) × Each (IsResolvedTarget s) targets × Each (IsResolvedExpr s) values
IsMet system p process s (choose target) = IsResolvedTarget s target
IsMet system p process s (send m values q) = IsResolvedSend system p s m values q
IsMet system p process s (start t delay) = (t < process.timers) × IsResolvedExpr s delay
IsMet system p process s (stop t) = t < process.timers
IsMet system p process s (test guard) = IsResolvedExpr s guard
IsMet system p process s (turns n) = (1 ≤ n) × (n ≤ 65536)

-- a choice is one of at most 2^32 values
abbrev pub IsNarrow : Deed → Type 0
IsNarrow (choose target) = (target.range.hi -ℤ target.range.lo) <ℤ pos (2 ^ 32)
IsNarrow _ = Unit {0}

-- ---- declarations

abbrev pub IsOrdered : Range → Type 0
IsOrdered range = range.lo ≤ℤ range.hi

abbrev pub IsInput : Var → Type 0
IsInput v = (v.cells ≡ 1) × IsOrdered v.range

-- at least one cell, and an initial value within the range
abbrev pub IsVar : Var → Type 0
IsVar v = (1 ≤ v.cells) × IsOrdered v.range × IsIn v.initial v.range

-- a width of 1 to 63 bits, in which a fixed value has its place
abbrev pub IsField : Field → Type 0
IsField f = (1 ≤ f.width) × (f.width ≤ 63) × IfSome f.fixed (λ x. (pos 0 ≤ℤ x) × (x <ℤ pos (2 ^ f.width)))

abbrev pub IsMessage : Message → Type 0
IsMessage m = (length m.fields ≤ 256) × Each IsField m.fields

-- a test of the cells and inputs, a message of another process, or a timer that there is
abbrev pub IsResolvedGuard : System → ℕ → Process → Guard → Type 0
IsResolvedGuard system p process (guard.Local e) = IsResolvedExpr (scope_of system.messages process (guard.Local e)) e
IsResolvedGuard system p process (guard.Receive m q) = (m < length system.messages) × (q < length system.processes) × (q ≢ p)
IsResolvedGuard system p process (guard.Timeout t) = t < process.timers

pub record IsResolvedAction (system : System) (p : ℕ) (process : Process) (a : Action) : Type 0 where
  pub guard : IsResolvedGuard system p process a.guard
  pub tested : GuardIsTest (scope_of system.messages process a.guard) a.guard
  pub body : Each (IsMet system p process (scope_of system.messages process a.guard)) (all_deeds a.body)
  pub truths : Each (DeedHasTruths (scope_of system.messages process a.guard)) (all_deeds a.body)
  pub narrow : Each IsNarrow (all_deeds a.body)

pub record IsResolvedProcess (system : System) (p : ℕ) (process : Process) : Type 0 where
  pub inputs : Each IsInput process.inputs
  pub vars : Each IsVar process.vars
  pub few_inputs : length process.inputs ≤ 256
  pub few_cells : length (ranges_of process.vars) ≤ 4096
  pub few_timers : process.timers ≤ 32
  pub few_actions : length process.actions ≤ 256
  pub actions : Each (IsResolvedAction system p process) process.actions

-- All that is named in the system is there.
pub record IsResolved (system : System) : Type 0 where
  pub some_process : 1 ≤ length system.processes
  pub few_processes : length system.processes ≤ 64
  pub few_messages : length system.messages ≤ 256
  pub messages : Each IsMessage system.messages
  pub processes : EachFrom 0 (IsResolvedProcess system) system.processes
  pub short : NamesAreShort system
  pub distinct : NamesAreDistinct system
