-- The offences of all declarations, in text order: each is judged by those that stand before it.
use Rattle.std.specs.Prelude.{ℕ, List, [], ◌++◌, map, Option, Some, None, slice_get}
use Rattle.tap_base.specs.declared.ast.Ast.{Ast}
use Rattle.tap_base.specs.declared.ast.AstAction.{AstAction}
use Rattle.tap_base.specs.declared.ast.AstConst.{AstConst}
use Rattle.tap_base.specs.declared.ast.AstMessage.{AstMessage}
use Rattle.tap_base.specs.declared.ast.AstProcess.{AstProcess}
use Rattle.tap_base.specs.declared.refusal.Refusal.{Refusal}
use Rattle.tap_base.specs.declared.refusal.RefusalCode.TheVariants.{X1}
use Rattle.tap_names.specs.Limits.{most_actions, most_processes}
use Rattle.tap_base.specs.ListWords.{behind}
use Rattle.tap_names.specs.MessageOffences.{message_names, messages_offences}
use Rattle.tap_names.specs.NameOffences.{count_offences, name_offences}
use Rattle.tap_names.specs.Names.{constants}
use Rattle.tap_base.specs.Offences.{offence}
use Rattle.tap_names.specs.VariableOffences.{cells_among, const_names, const_offences, idents, input_offences, timer_offences, var_names, variable_offences}

-- ---- what a process declares: its constants, inputs, variables and timers are a space of names

abbrev pub consts_offences : List AstConst → List Refusal
consts_offences consts = behind (λ before c. const_offences (const_names before) c) [] consts

abbrev pub inputs_offences : AstProcess → List Refusal
inputs_offences p = behind (λ before v. input_offences (constants p.consts) (var_names before) v) [] p.inputs

abbrev pub variables_offences : AstProcess → List Refusal
variables_offences p = behind (λ before v. variable_offences (constants p.consts) (var_names p.inputs ++ var_names before) (cells_among before) v) [] p.vars

abbrev pub timers_offences : AstProcess → List Refusal
timers_offences p = behind (λ before t. timer_offences (constants p.consts) (var_names p.inputs ++ var_names p.vars) (idents before) t) [] p.timers

-- the first action behind as many as there may be
abbrev pub too_many_actions : Option AstAction → List Refusal
too_many_actions None = []
too_many_actions (Some a) = offence X1 a.place

abbrev pub inner_offences : AstProcess → List Refusal
inner_offences p =
    consts_offences p.consts
    ++ inputs_offences p
    ++ variables_offences p
    ++ timers_offences p
    ++ too_many_actions (slice_get p.actions most_actions)

-- ---- processes: they and the messages are a space of names

abbrev pub process_names : List AstProcess → List (List ℕ)
process_names processes = map (λ p. p.name.text) processes

-- a process behind messages of these names, and processes of these names
abbrev pub process_offences : List (List ℕ) → List (List ℕ) → AstProcess → List Refusal
process_offences messages before p =
    name_offences (messages ++ before) p.name
    ++ count_offences most_processes before p.name
    ++ inner_offences p

abbrev pub processes_offences : List AstMessage → List AstProcess → List Refusal
processes_offences messages processes = behind (λ before p. process_offences (message_names messages) (process_names before) p) [] processes

-- ---- the whole tree

abbrev pub declaration_offences : Ast → List Refusal
declaration_offences tree = messages_offences tree.messages ++ processes_offences tree.messages tree.processes
