use Rattle.std.proofs.Common.{◌∙◌, ap, get_or}
use Rattle.message_layout.specs.Lengths.{longest, longest_of}
use Rattle.message_layout.proofs.Received.{longest_kept}
use Rattle.message_layout.proofs.layout.Layout.longest.Goals as goal

pub returns : goal.returns
returns c =
    c.longest_among.ensures
    ∙ ap (λ ls. longest_of (λ m. get_or ls m 0) c.args.to c.as_slice-2.result.now) c.as_slice.ensures
    ∙ ap (longest_of (λ m. get_or c.self.inside.lengths m 0) c.args.to) c.as_slice-2.ensures
    ∙ longest_kept c.self.inside.wire c.self.inside.lengths c.args.to c.self.invariant.lengths_are
    ∙ ap (λ w. longest w c.args.to) c.self.view_is
