-- The loop over the cells: those so far are the entries'.
use Rattle.std.proofs.Common.{◌≡◌, map, take}
use Rattle.image.specs.Entry.{entry_of_bytes, entry_cell}
use Rattle.loading.proofs.load.copy_cells.Given as goal

abbrev pub invariant-loop-i : goal.invariant-loop-i
invariant-loop-i l = take l.i l.cells ≡ map (λ e. entry_cell (entry_of_bytes e)) (take l.i l.entries)
