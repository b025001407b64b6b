-- What a system says of each action, by the values that 64-bit numbers compute.
use Rattle.std.specs.Prelude.{ℤ, pos, Bool, List, [], map}
use Rattle.std.specs.Option.{option_map}
use Rattle.std.specs.Ordering.{int_eq}
use Rattle.tap_base.specs.declared.system.System.{System}
use Rattle.tap_base.specs.declared.system.Process.{Process}
use Rattle.tap_base.specs.declared.system.Action.{Action}
use Rattle.tap_base.specs.declared.system.Guard.{Guard}
use Rattle.tap_base.specs.declared.system.Guard.TheVariants as guard
use Rattle.tap_base.specs.declared.tree.Expr.{Expr}
use Rattle.tap_base.specs.declared.wire.WireField.{WireField}
use Rattle.tap_base.specs.Option.{is_yes}
use Rattle.tap_exec.specs.Computed.{computed}
use Rattle.tap_exec.specs.Execution.{exec_all}
use Rattle.tap_exec.specs.Semantics.{Semantics, ProcessSemantics, ActionSemantics, GuardSemantics, local, receive, timeout, input_semantics, messages_of}

-- the value can be computed, and is 1
abbrev pub test_holds : Expr → List ℤ → List ℤ → Bool
test_holds e cells inputs = is_yes (option_map (λ x. int_eq x (pos 1)) (computed e cells inputs []))

abbrev pub computed_guard : Guard → GuardSemantics
computed_guard (guard.Local e) = local (test_holds e)
computed_guard (guard.Receive m q) = receive m q
computed_guard (guard.Timeout t) = timeout t

abbrev pub computed_action : List (List WireField) → Action → ActionSemantics
computed_action messages a = record { guard = computed_guard a.guard; body = λ inputs received. exec_all computed messages inputs received a.body }

abbrev pub computed_process : List (List WireField) → Process → ProcessSemantics
computed_process messages p = record { name = p.name; inputs = map input_semantics p.inputs; vars = p.vars; timers = p.timers; actions = map (computed_action messages) p.actions }

abbrev pub computed_semantics : System → Semantics
computed_semantics system = record { messages = messages_of system; processes = map (computed_process (messages_of system)) system.processes }
