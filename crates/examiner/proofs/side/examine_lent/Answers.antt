-- A new sitting is blank, and what was done on it is a history.
use Rattle.std.proofs.Common.{◌≡◌, subst}
use Rattle.sitting.specs.Sitting.{Standing, standing}
use Rattle.examiner.specs.Examined.{memory_of, side_with, examined_by, ExaminedFrom}
use Rattle.examiner.proofs.ExaminedSides.{examined_is_history}
use Rattle.examiner.proofs.side.examine_lent.Goals as goal

pub returns-clause-examined : goal.returns-clause-examined
returns-clause-examined g c =
    let m = g.O.Order.meaning c.args.order.now in
    let given = memory_of c.args.lent.now in
    let page = c.args.lent.now.page.now in
    let e = c.args.engine.now in
    let done = c.open_run_page-page in
    let side = side_with done.result (standing done.new.sitting) done.new.lent in
    let new = c.new-sitting.ensures in
    let examined = subst (λ (s : Standing). ExaminedFrom g.E.Engine.answers m s given page c.args.budget e side done.new.engine) new done.ensures.examined in
    record {
      examined = examined;
      by_book = λ book means.
          let by = done.ensures.by_book book means in
          (subst (λ (s : Standing). side ≡ examined_by book m s given page c.args.budget) new by.0, by.1);
      history = λ means. examined_is_history m g.E.Engine.answers g.E.Engine.means given page c.args.budget e done.new.engine means side examined;
    }
