use Rattle.std.proofs.Common.{◌∙◌}
use Rattle.std.specs.Prelude.{string_bytes}
use Rattle.tap_names.proofs.Tables.{known}
use Rattle.tap_names.proofs.table.Table.has.Goals as goal

pub returns : goal.returns
returns g c = c.contains_key.ensures ∙ known string_bytes c.args.name.now c.args.self.now.items.entries
