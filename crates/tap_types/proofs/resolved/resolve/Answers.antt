use Rattle.tap_types.proofs.Wholes.{parts_whole}
use Rattle.tap_types.proofs.resolved.resolve.Goals as goal

pub returns-clause-whole : goal.returns-clause-whole
returns-clause-whole c = parts_whole c.args.tree.now _ _ _ c.as_slice.ensures c.as_slice-2.ensures c.resolve_parts.ensures.judged
