use Rattle.std.proofs.Common.{◌≡◌, ◌++◌, drop, string_bytes}
use Rattle.std.specs.Prelude.{flat_map}
use Rattle.run_text.specs.TraceText.{hex_digits}
use Rattle.run_text.proofs.labels.write_hex.Given as goal

-- what is written, and then the bytes that are left, are the whole
abbrev pub invariant-loop-byte : goal.invariant-loop-byte
invariant-loop-byte l =
    string_bytes l.text ++ flat_map hex_digits (drop l.byte-index l.bytes) ≡ string_bytes l.fn.text ++ flat_map hex_digits l.bytes
