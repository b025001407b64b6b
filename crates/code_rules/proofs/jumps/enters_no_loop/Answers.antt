use Rattle.std.proofs.Common.{get_or, None, ap, ◌∙◌}
use Rattle.code_rules.specs.inner.Bounds.{begins_before}
use Rattle.code_rules.proofs.JumpFacts.{jump_entry}
use Rattle.code_rules.proofs.jumps.enters_no_loop.Goals as goal

pub returns : goal.returns
returns c =
    c.begins_before.ensures ∙ ap (λ begins. begins_before (get_or begins c.args.target None) c.args.at) c.as_slice.ensures
    ∙ jump_entry c.args.instrs.now c.args.nests.now.begins c.args.at c.args.target c.requires.nests.begins c.requires.nests.all_begins c.requires.ahead c.requires.inside
