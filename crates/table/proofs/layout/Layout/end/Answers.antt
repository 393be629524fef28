-- The start of the next class is one that the layout keeps.
use Rattle.std.proofs.Common.{◌+◌, arith, rules}
use Rattle.rules.proofs.Classes.{number_low}
use Rattle.table.proofs.RowCounts.{start_known}
use Rattle.table.proofs.layout.Layout.end.Goals as goal

pub returns : goal.returns
returns c =
    let low = number_low c.args.class in
    let known = start_known c.args.self.now (c.number.result + 1) (omega arith) in
    search rules
