use Rattle.std.proofs.Common.{◌≡◌, map, take}
use Rattle.run_text.specs.TraceText.{var_name}
use Rattle.run_text.proofs.names.var_names.Given as goal

-- the names of the variables so far
abbrev pub invariant-loop-var : goal.invariant-loop-var
invariant-loop-var l = l.names ≡ map var_name (take l.var-index l.vars)
