use Rattle.std.proofs.Common.{◌+◌, ◌-◌, ◌*◌, length}
use Rattle.tap_base.specs.declared.token.Sign.TheVariants as sign
use Rattle.tap_lexer.specs.Lexeme.{lexemes}
use Rattle.tap_parser.specs.inner.Forms.{StmtStops, BodyStops}
use Rattle.tap_parser.proofs.TextBodies.{Steps, Bodies, BranchSteps, BranchLists}
use Rattle.tap_parser.proofs.TextLists.{Leads}
use Rattle.tap_parser.proofs.stmts.+stmts.Given as goal

abbrev pub decreases-read_branch : goal.decreases-read_branch
decreases-read_branch l = (length l.source.now.tokens.now - l.at) * 8 + 4

abbrev pub decreases-read_branches : goal.decreases-read_branches
decreases-read_branches l = (length l.source.now.tokens.now - l.at) * 8 + 5

abbrev pub decreases-read_loop : goal.decreases-read_loop
decreases-read_loop l = (length l.source.now.tokens.now - l.at) * 8

abbrev pub decreases-read_selection : goal.decreases-read_selection
decreases-read_selection l = (length l.source.now.tokens.now - l.at) * 8

abbrev pub decreases-read_stmt : goal.decreases-read_stmt
decreases-read_stmt l = (length l.source.now.tokens.now - l.at) * 8 + 1

abbrev pub decreases-read_stmts : goal.decreases-read_stmts
decreases-read_stmts l = (length l.source.now.tokens.now - l.at) * 8 + 2

abbrev pub invariant-read_branches-branches : goal.invariant-read_branches-branches
invariant-read_branches-branches l = Leads BranchSteps BranchLists BodyStops sign.Box (lexemes l.source.text.now l.source.tokens.now) l.at l.next l.value

abbrev pub decreases-read_branches-branches : goal.decreases-read_branches-branches
decreases-read_branches-branches l = length l.source.tokens.now - l.next

abbrev pub invariant-read_stmts-stmts : goal.invariant-read_stmts-stmts
invariant-read_stmts-stmts l = Leads Steps Bodies StmtStops sign.Semicolon (lexemes l.source.text.now l.source.tokens.now) l.at l.next l.value

abbrev pub decreases-read_stmts-stmts : goal.decreases-read_stmts-stmts
decreases-read_stmts-stmts l = length l.source.tokens.now - l.next
