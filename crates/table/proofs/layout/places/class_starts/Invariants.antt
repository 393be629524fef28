-- The starts of the classes up to the one at hand are right.
use Rattle.std.proofs.Common.{◌≡◌, ℕ, ◌+◌, ◌<◌, length, get_or}
use Rattle.table.specs.Numbering.{class_start}
use Rattle.table.proofs.layout.places.class_starts.Given as goal

abbrev pub invariant-loop-class : goal.invariant-loop-class
invariant-loop-class l = (length l.starts ≡ 15) × ((k : ℕ) → k < l.class-index + 1 → get_or l.starts k 0 ≡ class_start l.labels k)
