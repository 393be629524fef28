-- Lists compare by whether each is the first part of the other.
use Rattle.std.proofs.Common.{true, false}
use Rattle.examiner.proofs.Comparisons.{compares}
use Rattle.examiner.proofs.compare.compare_pages.Goals as goal

pub returns-in-true-true : goal.returns-in-true-true
returns-in-true-true c = compares c.args.left.now c.args.right.now true true c.in-true-true.ensures.value c.in-true-true.ensures'.value

pub returns-in-true-false : goal.returns-in-true-false
returns-in-true-false c = compares c.args.left.now c.args.right.now true false c.in-true-false.ensures.value c.in-true-false.ensures'.value

pub returns-in-false-true : goal.returns-in-false-true
returns-in-false-true c = compares c.args.left.now c.args.right.now false true c.in-false-true.ensures.value c.in-false-true.ensures'.value

pub returns-in-false-false : goal.returns-in-false-false
returns-in-false-false c = compares c.args.left.now c.args.right.now false false c.in-false-false.ensures.value c.in-false-false.ensures'.value
