use Rattle.std.proofs.Common.{◌≡◌, ◌∷◌, ◌++◌, map, drop, string_bytes}
use Rattle.std.specs.Prelude.{flat_map}
use Rattle.std.specs.Fmt.{signed_decimal}
use Rattle.run_text.proofs.labels.write_values.Given as goal

-- what is written, and then the values that are left, are the whole
abbrev pub invariant-loop-value : goal.invariant-loop-value
invariant-loop-value l =
    string_bytes l.text ++ flat_map (λ w. 32 ∷ w) (map signed_decimal (drop l.value-index l.values))
    ≡ string_bytes l.fn.text ++ flat_map (λ w. 32 ∷ w) (map signed_decimal l.values)
