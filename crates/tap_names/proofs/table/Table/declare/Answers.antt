use Rattle.std.proofs.Common.{◌∙◌, ap, refl, map}
use Rattle.std.specs.Prelude.{string_bytes}
use Rattle.std.specs.String.{string_eq}
use Rattle.tap_names.proofs.Tables.{added}
use Rattle.tap_names.proofs.table.Table.declare.Goals as goal

pub returns : goal.returns
returns g c =
    ap (map (λ e. (string_bytes e.0, e.1))) c.in_ok-insert.ensures.entries ∙ added string_bytes c.args.name.now string_eq c.in_ok-name.name c.args.value c.in_ok-name.ensures.ok (λ x. refl) c.args.self.now.items.entries c.requires
