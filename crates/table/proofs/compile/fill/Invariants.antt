-- The rows of the classes below the one at hand are filled.
use Rattle.std.proofs.Common.{◌≡◌, take}
use Rattle.table.specs.Numbering.{class_start}
use Rattle.table.specs.Compiled.{rows_below}
use Rattle.table.proofs.compile.fill.Given as goal

abbrev pub invariant-loop-class : goal.invariant-loop-class
invariant-loop-class g l = take (class_start l.layout.labels l.class-index) l.rows ≡ rows_below l.layout.labels (g.O.Order.meaning l.order) l.class-index
