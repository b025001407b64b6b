use Rattle.std.proofs.Common.{◌≡◌, map, drop}
use Rattle.tap_base.specs.declared.token.Sign.TheVariants as sign
use Rattle.tap_printer.specs.Canonical.{branch_tokens, separated, stmt_tokens, further}
use Rattle.tap_printer.specs.inner.Pages.{after}
use Rattle.tap_printer.proofs.stmts.+stmts.Given as goal

-- what is written, and then the branches that are left, are the whole
abbrev pub invariant-write_branches-loop-branch : goal.invariant-write_branches-loop-branch
invariant-write_branches-loop-branch l = after l.pen (further sign.Box (map branch_tokens (drop l.branch-index l.rest))) ≡ after l.fn.pen (separated sign.Box (map branch_tokens l.branches))

abbrev pub invariant-write_stmts-loop-stmt : goal.invariant-write_stmts-loop-stmt
invariant-write_stmts-loop-stmt l = after l.pen (further sign.Semicolon (map stmt_tokens (drop l.stmt-index l.rest))) ≡ after l.fn.pen (separated sign.Semicolon (map stmt_tokens l.stmts))
