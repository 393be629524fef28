-- The checks of the code and of the cells are those of all tags.
use Rattle.std.proofs.Common.{arith}
use Rattle.std.proofs.lemmas.Grind.{common_steps}
use Rattle.writing.proofs.Checks.{code_refused, cells_refused, all_passed}
use Rattle.writing.proofs.write.check.Goals as goal

pub returns-in_err-check_entries : goal.returns-in_err-check_entries
returns-in_err-check_entries g c =
    let refused = code_refused (g.O.Order.meaning c.args.order.now) c.args.code.now c.args.cells.now _ c.in_err-check_entries.ensures in
    grind (arith, common_steps)

pub returns-in_err-check_entries-2 : goal.returns-in_err-check_entries-2
returns-in_err-check_entries-2 g c =
    let refused = cells_refused (g.O.Order.meaning c.args.order.now) c.args.code.now c.args.cells.now _ c.in_ok-check_entries.ensures c.in_err-check_entries-2.ensures in
    grind (arith, common_steps)

pub returns : goal.returns
returns g c =
    let passed = all_passed (g.O.Order.meaning c.args.order.now) c.args.code.now c.args.cells.now c.in_ok-check_entries.ensures c.in_ok-check_entries-2.ensures in
    grind (arith, common_steps)
