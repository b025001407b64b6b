use Rattle.tap_lexer.proofs.TokenPlaces.{seen}
use Rattle.tap_lexer.proofs.source.Source.token.Goals as goal

pub returns-clause-seen : goal.returns-clause-seen
returns-clause-seen c = seen c.args.self.now.text.now c.args.self.now.tokens.now c.args.at _ c.token_at.ensures
