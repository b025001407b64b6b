use Rattle.std.proofs.Common.{refl}
use Rattle.store_lines.proofs.Moved.{moved}
use Rattle.store_lines.proofs.line.move_front.Goals as goal

pub returns : goal.returns
returns c =
    let grown = c.in_ok-append.ensures in
    moved _ c.as_slice-bytes.result.now c.args.held.now c.args.line.now.items c.first_line.result.0.now c.first_line.result.1.now c.keep_last.new.self c.append.new.line.items
    c.as_slice-bytes.ensures refl c.first_line.ensures.first c.first_line.ensures.line c.keep_last.ensures grown.0 grown.1
