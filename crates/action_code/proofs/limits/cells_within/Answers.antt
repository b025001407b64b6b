use Rattle.std.proofs.Common.{◌≡◌, ◌+◌, map, take, sym, arith}
use Rattle.std.specs.Prelude.{sum}
use Rattle.std.proofs.lemmas.Grind.{common_steps}
use Rattle.register_code.specs.declared.code.CodeVariable.{CodeVariable}
use Rattle.action_code.proofs.Naming.{too_many_cells}
use Rattle.action_code.proofs.limits.cells_within.Goals as goal

pub returns-then-cells-gt4096 : goal.returns-then-cells-gt4096
returns-then-cells-gt4096 c =
    let step : c.loop-variable.cells + c.variable-item.result.cells ≡ sum (map (λ (v : CodeVariable). v.cells) (take (c.loop-variable.variable-index + 1) c.args.variables.now)) = grind (arith, common_steps) in
    sym (too_many_cells c.args.variables.now (c.loop-variable.variable-index + 1) (omega (arith, step)))
