use Rattle.std.proofs.Common.{◌≡◌, ◌∷◌, ◌++◌, map, drop, string_bytes}
use Rattle.std.specs.Prelude.{flat_map}
use Rattle.run_text.specs.TraceText.{name_at}
use Rattle.run_text.proofs.labels.write_names.Given as goal

-- what is written, and then the names that are left, are the whole
abbrev pub invariant-loop-process : goal.invariant-loop-process
invariant-loop-process l =
    string_bytes l.text ++ flat_map (λ w. 32 ∷ w) (map (name_at l.names.processes) (drop l.process-index l.processes))
    ≡ string_bytes l.fn.text ++ flat_map (λ w. 32 ∷ w) (map (name_at l.names.processes) l.processes)
