-- What code says to a run: its messages, and of each process its name, inputs, variables, timers, guards and bodies.
use Rattle.std.specs.Prelude.{ℕ, map}
use Rattle.std.specs.Option.{option_map}
use Rattle.tap_exec.specs.Running.{Running}
use Rattle.tap_exec.specs.Semantics.{ActionSemantics, GuardSemantics, InputSemantics, ProcessSemantics, Semantics, local, receive, timeout}
use Rattle.tap_base.specs.Interval.{from_to}
use Rattle.register_code.specs.declared.code.Code.{Code}
use Rattle.register_code.specs.declared.code.CodeAction.{CodeAction}
use Rattle.register_code.specs.declared.code.CodeInput.{CodeInput}
use Rattle.register_code.specs.declared.code.CodeKind.{CodeKind}
use Rattle.register_code.specs.declared.code.CodeKind.TheVariants as kind
use Rattle.register_code.specs.declared.code.CodeProcess.{CodeProcess}
use Rattle.register_code.specs.Fields.{code_message}
use Rattle.register_code.specs.Registers.{variable_of}
use Rattle.register_code.specs.Running.{code_run, guard_holds}

abbrev pub code_guard : Code → CodeProcess → CodeAction → GuardSemantics
code_guard code p a = by_kind a.kind where
  by_kind : CodeKind → GuardSemantics
  by_kind kind.Local = local (guard_holds code.messages p.timers a)
  by_kind kind.Receive = receive a.a a.b
  by_kind kind.Timeout = timeout a.a

-- A body does what its code does; how many instructions it runs is left out.
abbrev pub code_action : Code → CodeProcess → CodeAction → ActionSemantics
code_action code p a = record { guard = code_guard code p a; body = λ inputs received r. option_map (λ (ran : Running × ℕ). ran.0) (code_run code.messages a inputs received r) }

abbrev pub code_input : CodeInput → InputSemantics
code_input i = record { name = i.name; range = from_to i.lo i.hi }

abbrev pub code_process : Code → CodeProcess → ProcessSemantics
code_process code p = record { name = p.name; inputs = map code_input p.inputs; vars = map variable_of p.variables; timers = p.timers; actions = map (code_action code p) p.actions }

abbrev pub code_semantics : Code → Semantics
code_semantics code = record { messages = map code_message code.messages; processes = map (code_process code) code.processes }
