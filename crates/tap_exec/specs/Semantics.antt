-- What a run asks of a system: its messages, and of each process its name, inputs, variables, timers, guards and
-- bodies. A system gives it by values and execution. Register code can give it as well.
use Rattle.std.specs.Prelude.{ℕ, ℤ, pos, Bool, List, [], map, Option, slice_get}
use Rattle.std.specs.Ordering.{int_eq}
use Rattle.tap_base.specs.declared.place.Range.{Range}
use Rattle.tap_base.specs.declared.system.System.{System}
use Rattle.tap_base.specs.declared.system.Process.{Process}
use Rattle.tap_base.specs.declared.system.Var.{Var}
use Rattle.tap_base.specs.declared.system.Action.{Action}
use Rattle.tap_base.specs.declared.system.Guard.{Guard}
use Rattle.tap_base.specs.declared.system.Guard.TheVariants as guard
use Rattle.tap_base.specs.declared.wire.WireField.{WireField}
use Rattle.tap_base.specs.Option.{◌>>=◌}
use Rattle.tap_exec.specs.Running.{Running}
use Rattle.tap_exec.specs.Execution.{execution}
use Rattle.tap_exec.specs.Filling.{wire_fields}
use Rattle.tap_exec.specs.Value.{value_of}

-- when an action may run: where a test of the cells and inputs holds, where a message of a peer waits, or where a
-- timer is due
pub data GuardSemantics : Type 0 where
  local : (List ℤ → List ℤ → Bool) → GuardSemantics
  receive : ℕ → ℕ → GuardSemantics
  timeout : ℕ → GuardSemantics

-- a guard, and what the body does with these inputs and these received values
pub record ActionSemantics : Type 0 where
  pub guard : GuardSemantics
  pub body : List ℤ → List ℤ → Running → Option Running

-- an input, by its name and its range
pub record InputSemantics : Type 0 where
  pub name : List ℕ
  pub range : Range

pub record ProcessSemantics : Type 0 where
  pub name : List ℕ
  pub inputs : List InputSemantics
  pub vars : List Var
  pub timers : ℕ
  pub actions : List ActionSemantics

pub record Semantics : Type 0 where
  pub messages : List (List WireField)
  pub processes : List ProcessSemantics

-- the action of p numbered a
abbrev pub action_at : Semantics → ℕ → ℕ → Option ActionSemantics
action_at semantics p a = slice_get semantics.processes p >>= λ process. slice_get process.actions a

-- the ranges of the inputs of a process
abbrev pub input_ranges : ProcessSemantics → List Range
input_ranges process = map (λ i. i.range) process.inputs

-- ---- what a system says

abbrev pub messages_of : System → List (List WireField)
messages_of system = map wire_fields system.messages

-- A local guard holds where its value is 1.
abbrev pub guard_semantics : Guard → GuardSemantics
guard_semantics (guard.Local e) = local (λ cells inputs. int_eq (value_of e cells inputs []) (pos 1))
guard_semantics (guard.Receive m q) = receive m q
guard_semantics (guard.Timeout t) = timeout t

abbrev pub action_semantics : List (List WireField) → Action → ActionSemantics
action_semantics messages a = record { guard = guard_semantics a.guard; body = λ inputs received. execution messages inputs received a.body }

abbrev pub input_semantics : Var → InputSemantics
input_semantics v = record { name = v.name; range = v.range }

abbrev pub process_semantics : List (List WireField) → Process → ProcessSemantics
process_semantics messages p = record { name = p.name; inputs = map input_semantics p.inputs; vars = p.vars; timers = p.timers; actions = map (action_semantics messages) p.actions }

abbrev pub semantics_of : System → Semantics
semantics_of system = record { messages = messages_of system; processes = map (process_semantics (messages_of system)) system.processes }
