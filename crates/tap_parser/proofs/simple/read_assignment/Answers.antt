use Rattle.std.proofs.Common.{◌∙◌, Ok, Err}
use Rattle.tap_base.specs.declared.token.Sign.TheVariants as sign
use Rattle.tap_lexer.specs.Lexeme.{lexemes}
use Rattle.tap_parser.proofs.TextBodies.{comma_stops}
use Rattle.tap_parser.proofs.TextParts.{after_answers, after_lacks, both_answers, both_stuck, joined, passed, valued}
use Rattle.tap_parser.proofs.TextStatements.{Stmts, TargetList, TargetsStop, ToValues, ValueList, assign_answers, assign_value, becomes_stops}
use Rattle.tap_parser.specs.inner.Forms.{StmtStops}
use Rattle.tap_parser.proofs.simple.read_assignment.Goals as goal

pub returns-in_err-targets : goal.returns-in_err-targets
returns-in_err-targets c = let xs = lexemes c.args.source.now.text.now c.args.source.now.tokens.now in passed Stmts StmtStops xs c.args.at _ _ c.from_residual.ensures.1 (assign_answers xs c.args.at (Err _) c.requires.shows (both_stuck TargetList ToValues TargetsStop StmtStops becomes_stops xs c.args.at _ c.in_err-targets.ensures))

pub returns-in_err-behind : goal.returns-in_err-behind
returns-in_err-behind c = let xs = lexemes c.args.source.now.text.now c.args.source.now.tokens.now in passed Stmts StmtStops xs c.args.at _ _ c.from_residual-in_err-behind.ensures.1 (assign_answers xs c.args.at (Err _) c.requires.shows (both_answers TargetList ToValues TargetsStop StmtStops becomes_stops xs c.args.at c.in_ok-targets.targets (Err _) c.in_ok-targets.ensures (after_lacks sign.Becomes ValueList StmtStops xs c.in_ok-targets.targets.next _ c.in_err-behind.ensures)))

pub returns-in_err-values : goal.returns-in_err-values
returns-in_err-values c = let xs = lexemes c.args.source.now.text.now c.args.source.now.tokens.now in passed Stmts StmtStops xs c.args.at _ _ c.from_residual-in_err-values.ensures.1 (assign_answers xs c.args.at (Err _) c.requires.shows (both_answers TargetList ToValues TargetsStop StmtStops becomes_stops xs c.args.at c.in_ok-targets.targets (Err _) c.in_ok-targets.ensures (after_answers sign.Becomes ValueList StmtStops xs c.in_ok-targets.targets.next c.in_ok-behind.behind (Err _) c.in_ok-behind.ensures c.in_err-values.ensures)))

pub returns : goal.returns
returns c = let xs = lexemes c.args.source.now.text.now c.args.source.now.tokens.now in valued Stmts StmtStops xs c.args.at c.in_ok-values.values.next _ _ (c.assignment.ensures ∙ assign_value c.in_ok-targets.targets.value c.in_ok-values.values.value) (assign_answers xs c.args.at (joined (λ a b. (a, b)) c.in_ok-targets.targets.value (Ok c.in_ok-values.values)) c.requires.shows (both_answers TargetList ToValues TargetsStop StmtStops becomes_stops xs c.args.at c.in_ok-targets.targets (Ok c.in_ok-values.values) c.in_ok-targets.ensures (after_answers sign.Becomes ValueList StmtStops xs c.in_ok-targets.targets.next c.in_ok-behind.behind (Ok c.in_ok-values.values) c.in_ok-behind.ensures c.in_ok-values.ensures)))

pub read_separated-requires-2-clause-parted : goal.read_separated-requires-2-clause-parted
read_separated-requires-2-clause-parted c = comma_stops
