-- A list that is as long as the cells has room for those of them that are seen.
use Rattle.std.proofs.Common.{rules}
use Rattle.std.proofs.lemmas.List.Sums.{length-filter, count_by-le-length}
use Rattle.observer.specs.Observer.{observer_of, sees_cell}
use Rattle.observer.proofs.reader.Reader.has_room.Goals as goal

pub returns-then-cells-page : goal.returns-then-cells-page
returns-then-cells-page g c =
    let sees = sees_cell (observer_of g.O.Order.meaning c.args.self.now) in
    let counted = length-filter sees c.args.cells.now in
    let few = count_by-le-length sees c.args.cells.now in
    search rules
