use Rattle.std.proofs.Common.{sym}
use Rattle.tap_expr.proofs.signs.relator.Goals as goal

pub sign-requires : goal.sign-requires
sign-requires c = c.requires c.args.at c.in_ok-token.token (sym c.in_ok-token.ensures.value)
