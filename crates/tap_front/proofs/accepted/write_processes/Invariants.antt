use Rattle.std.proofs.Common.{◌≡◌, ◌++◌, drop, flat_map, string_bytes}
use Rattle.tap_front.specs.Acceptance.{process_line}
use Rattle.tap_front.proofs.accepted.write_processes.Given as goal

-- what is written, and then the lines of the processes that are left, are the whole
abbrev pub invariant-loop-at : goal.invariant-loop-at
invariant-loop-at l =
    string_bytes l.text ++ flat_map process_line (drop l.at l.checked.processes) ≡ string_bytes l.fn.text ++ flat_map process_line l.checked.processes
