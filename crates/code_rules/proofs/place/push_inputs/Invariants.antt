use Rattle.std.proofs.Common.{◌≡◌, ◌++◌, take}
use Rattle.register_code.specs.Registers.{inputs_ranges}
use Rattle.code_rules.proofs.place.push_inputs.Given as goal

abbrev pub invariant-loop-input : goal.invariant-loop-input
invariant-loop-input l = l.all ≡ l.fn.all ++ inputs_ranges (take l.input-index l.inputs)
