-- The closure says whether a tag is below the number of labels.
use Rattle.std.proofs.Common.{rules, of_calls}
use Rattle.table.specs.Table.{below}
use Rattle.table.proofs.layout.Layout.covers.Goals as goal

pub returns : goal.returns
returns c = c.each_used.ensures (below c.args.self.now.labels) (λ t r e. search (rules, of_calls))
