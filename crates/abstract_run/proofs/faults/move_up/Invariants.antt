use Rattle.std.proofs.Common.{◌≡◌, Some, length, slice_get}
use Rattle.std.specs.List.{insert, remove}
use Rattle.byte_meaning.specs.declared.cell.Cell.{Cell}
use Rattle.abstract_run.proofs.faults.move_up.Given as goal

abbrev pub invariant-loop-at : goal.invariant-loop-at
invariant-loop-at l =
    (length l.cells-inside.items.items ≡ length l.fn.cells)
    × ((x : Cell) → slice_get l.fn.cells l.fn.from ≡ Some x → l.cells-inside.items.items ≡ insert (remove l.fn.cells l.fn.from) l.at x)
