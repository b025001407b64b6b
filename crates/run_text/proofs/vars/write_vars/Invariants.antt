use Rattle.std.proofs.Common.{◌≡◌, ◌++◌, drop, string_bytes}
use Rattle.run_text.specs.TraceText.{lines_text, vars_of}
use Rattle.run_text.proofs.vars.write_vars.Given as goal

-- what is written, and then the lines of the variables that are left, are the whole
abbrev pub invariant-loop-var : goal.invariant-loop-var
invariant-loop-var l =
    string_bytes l.text ++ lines_text (vars_of l.process (drop l.var-index l.vars) l.rest)
    ≡ string_bytes l.fn.text ++ lines_text (vars_of l.process l.vars l.cells)
