use Rattle.std.proofs.Common.{◌≡◌, ◌++◌, map, take}
use Rattle.register_code.specs.declared.code.CodeInput.{CodeInput}
use Rattle.register_code.specs.declared.code.CodeVariable.{CodeVariable}
use Rattle.action_code.proofs.limits.names_of.Given as goal

abbrev pub invariant-loop-input : goal.invariant-loop-input
invariant-loop-input l = l.names ≡ map (λ (i : CodeInput). i.name) (take l.input-index l.process.inputs)

abbrev pub invariant-loop-variable : goal.invariant-loop-variable
invariant-loop-variable l = l.names ≡ map (λ (i : CodeInput). i.name) l.process.inputs ++ map (λ (v : CodeVariable). v.name) (take l.variable-index l.process.variables)
