-- The pages are never different, by the guarantee about both histories.
use Rattle.std.proofs.Common.{sym, ◌∙◌}
use Rattle.examiner.specs.Examined.{memory_of}
use Rattle.examiner.proofs.ExaminedPairs.{sides_not_different}
use Rattle.examiner.proofs.examine.examine_both.Goals as goal

pub returns-clause-never_different : goal.returns-clause-never_different
returns-clause-never_different g c = λ left_means right_means alike e.
    sides_not_different (g.O.Order.meaning c.args.order.now) g.L.Engine.answers g.L.Engine.means g.R.Engine.answers g.R.Engine.means (c.noninterference.ensures c.args.order.now)
    (memory_of c.args.left_lent.now) (memory_of c.args.right_lent.now) _ _
    (c.examine_lent-left.ensures.examined.history left_means) (c.examine_lent-right.ensures.examined.history right_means)
    alike (sym c.compare_answers-comparison.ensures ∙ e)
