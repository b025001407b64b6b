use Rattle.std.proofs.Common.{◌≡◌, ◌<◌, List, Some, ap, length, slice_get, subst, arith}
use Rattle.register_code.specs.declared.code.CodeProcess.{CodeProcess}
use Rattle.drawn_steps.proofs.Roomy.{bodies_are, most_is, read_at}
use Rattle.drawn_steps.proofs.rooms.most_of_process.Goals as goal

pub most_of-requires : goal.most_of-requires
most_of-requires c =
    let inside : c.args.process < length c.as_slice.result.now = omega (arith, c.requires.there, ap length c.as_slice.ensures) in
    let at : slice_get c.args.code.now.processes c.args.process ≡ Some c.index-as_slice-process.result = subst (λ (ps : List CodeProcess). slice_get ps c.args.process ≡ Some c.index-as_slice-process.result) c.as_slice.ensures (read_at c.as_slice.result.now c.args.process c.index-as_slice-process.result inside c.index-as_slice-process.is) in
    bodies_are c.args.code.now c.args.process c.index-as_slice-process.result c.as_slice-2.result.now c.as_slice-3.result.now c.requires.verified at c.as_slice-2.ensures c.as_slice-3.ensures

pub returns : goal.returns
returns c =
    let inside : c.args.process < length c.as_slice.result.now = omega (arith, c.requires.there, ap length c.as_slice.ensures) in
    let at : slice_get c.args.code.now.processes c.args.process ≡ Some c.index-as_slice-process.result = subst (λ (ps : List CodeProcess). slice_get ps c.args.process ≡ Some c.index-as_slice-process.result) c.as_slice.ensures (read_at c.as_slice.result.now c.args.process c.index-as_slice-process.result inside c.index-as_slice-process.is) in
    most_is c.args.code.now c.args.process c.index-as_slice-process.result c.as_slice-2.result.now c.as_slice-3.result.now c.most_of.result at c.as_slice-2.ensures c.as_slice-3.ensures (record { sends = c.most_of.ensures.sends; values = c.most_of.ensures.values; choices = c.most_of.ensures.choices })
