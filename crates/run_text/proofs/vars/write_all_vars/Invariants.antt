use Rattle.std.proofs.Common.{◌≡◌, ◌++◌, drop, length, string_bytes}
use Rattle.run_text.specs.TraceText.{lines_text, var_lines}
use Rattle.run_text.proofs.vars.write_all_vars.Given as goal

-- what is written, and then the lines of the processes that are left, are the whole
abbrev pub invariant-loop-process : goal.invariant-loop-process
invariant-loop-process l =
    string_bytes l.text ++ lines_text (var_lines (drop (length l.yielded) l.names.processes) (drop (length l.yielded) l.names.vars) (drop (length l.yielded) l.stores))
    ≡ string_bytes l.fn.text ++ lines_text (var_lines l.names.processes l.names.vars l.stores)
