use Rattle.std.proofs.Common.{◌∙◌}
use Rattle.std.specs.Prelude.{string_bytes}
use Rattle.tap_names.proofs.Tables.{found}
use Rattle.tap_names.proofs.table.Table.find.Goals as goal

pub returns : goal.returns
returns g c = c.copied.ensures ∙ c.get.ensures.value ∙ found string_bytes c.args.name.now c.args.self.now.items.entries
