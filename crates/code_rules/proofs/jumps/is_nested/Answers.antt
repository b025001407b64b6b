use Rattle.std.proofs.Common.{◌+◌, get_or, None, ap, ◌∙◌}
use Rattle.code_rules.specs.inner.Bounds.{begins_before, ends_from}
use Rattle.code_rules.proofs.JumpFacts.{nested_entries}
use Rattle.code_rules.proofs.jumps.is_nested.Goals as goal

pub returns : goal.returns
returns c =
    let later = c.begins_before.ensures ∙ ap (λ begins. begins_before (get_or begins (c.args.found.last + 1) None) (c.args.begin + 1)) c.as_slice.ensures in
    let sooner = c.ends_from.ensures ∙ ap (λ ends. ends_from (get_or ends c.args.begin None) c.args.found.last) c.as_slice-2.ensures in
    rw (later, sooner) (nested_entries c.args.instrs.now c.args.nests.now c.args.begin c.args.found c.requires.nests c.requires.there)
