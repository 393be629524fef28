-- The rows up to the one at hand are the verdicts of their queries.
use Rattle.std.proofs.Common.{◌≡◌, ℕ, ◌<◌, get_or}
use Rattle.rules.specs.Class.{class_number}
use Rattle.rules.specs.Flow.{flow}
use Rattle.table.specs.Packing.{pack}
use Rattle.table.specs.Numbering.{query_of}
use Rattle.table.proofs.compile.fill_class.Given as goal

abbrev pub invariant-loop-i : goal.invariant-loop-i
invariant-loop-i g l = (k : ℕ) → k < l.i → get_or l.rows k 0 ≡ pack (flow (g.O.Order.meaning l.order) (query_of l.layout.labels (class_number l.class) k))
