-- Where the open is granted, the run is the sitting's, and the page comes last.
use Rattle.std.proofs.Common.{rules, Ok}
use Rattle.sitting.specs.Sitting.{standing}
use Rattle.sitting.specs.Run.{run_done}
use Rattle.examiner.specs.Examined.{memory_of}
use Rattle.examiner.proofs.ExaminedSides.{open_granted}
use Rattle.examiner.proofs.side.open_run_page.Goals as goal

pub returns-clause-examined : goal.returns-clause-examined
returns-clause-examined g c =
    let m = g.O.Order.meaning c.args.order.now in
    let lent = c.args.lent.now in
    let done = run_done (Ok c.in_ok-run.field-0) (standing c.run.new.self) c.run.new.cells c.run.new.outputs in
    open_granted m (standing c.args.sitting.now) (memory_of lent) lent.page.now c.args.budget (standing c.open.new.self) c.open.new.cells done _ (search rules) c.in_ok-open.ensures.opened g.E.Engine.answers c.args.engine.now c.run.new.engine c.in_ok-run.ensures.runs
