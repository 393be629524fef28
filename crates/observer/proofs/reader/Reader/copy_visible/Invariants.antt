-- The loop that writes: writing those that are left leaves the whole, and those written and those left are all.
use Rattle.std.proofs.Common.{◌≡◌, ◌+◌, length, drop}
use Rattle.observer.specs.Observer.{observer_of, seen_cells}
use Rattle.observer.specs.Visible.{written_over}
use Rattle.observer.proofs.SeenLists.{Writes}
use Rattle.observer.proofs.reader.Reader.copy_visible.Given as goal

abbrev pub invariant-loop-cell : goal.invariant-loop-cell
invariant-loop-cell g l =
    let sees = observer_of g.O.Order.meaning l.self in
    let left = seen_cells sees (drop l.cell-index l.cells) in
    Writes l.page l.place left (written_over (seen_cells sees l.cells) l.initial.page) × (l.place + length left ≡ length (seen_cells sees l.cells))
