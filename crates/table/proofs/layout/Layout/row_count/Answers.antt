-- The last number that the layout keeps is that of all rows.
use Rattle.table.proofs.RowCounts.{count_known}
use Rattle.table.proofs.layout.Layout.row_count.Goals as goal

pub returns : goal.returns
returns c = count_known c.args.self.now
