use Rattle.std.proofs.Common.{◌≡◌, drop}
use Rattle.std.specs.List.{list_all}
use Rattle.tap_settings.specs.SettingText.{in_name}
use Rattle.tap_settings.proofs.names.are_in_name.Given as goal

-- what is left has the answer of the whole
abbrev pub invariant-loop-byte : goal.invariant-loop-byte
invariant-loop-byte l = list_all in_name (drop l.byte-index l.bytes) ≡ list_all in_name l.bytes
