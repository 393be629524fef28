-- The start is the one that the layout keeps.
use Rattle.std.proofs.Common.{arith, rules}
use Rattle.rules.proofs.Classes.{number_low}
use Rattle.table.proofs.RowCounts.{start_known}
use Rattle.table.proofs.layout.Layout.start.Goals as goal

pub returns-clause-value : goal.returns-clause-value
returns-clause-value c =
    let low = number_low c.args.class in
    let known = start_known c.args.self.now c.number.result (omega arith) in
    search rules
