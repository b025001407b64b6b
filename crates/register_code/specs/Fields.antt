-- The fields of messages, as the wire has them.
use Rattle.std.specs.Prelude.{pos, List, map}
use Rattle.std.specs.Option.{option_map}
use Rattle.tap_base.specs.declared.wire.WireField.{WireField}
use Rattle.register_code.specs.declared.code.CodeField.{CodeField}
use Rattle.register_code.specs.declared.code.CodeMessage.{CodeMessage}

abbrev pub code_field : CodeField → WireField
code_field f = record { width = f.width; fixed = option_map pos f.fixed }

abbrev pub code_message : CodeMessage → List WireField
code_message m = map code_field m.fields
