use Rattle.std.proofs.Common.{◌∙◌}
use Rattle.std.specs.Prelude.{string_bytes}
use Rattle.tap_names.proofs.Tables.{placed}
use Rattle.tap_names.proofs.table.Table.number.Goals as goal

pub returns-clause-value : goal.returns-clause-value
returns-clause-value g c = c.get_index_of.ensures.index ∙ placed string_bytes c.args.name.now c.args.self.now.items.entries
