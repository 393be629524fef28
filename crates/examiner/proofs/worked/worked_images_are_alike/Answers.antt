-- The worked images, by the guarantee and by their runs.
use Rattle.examiner.proofs.WorkedImages.{alike_worked, left_marked, right_marked}
use Rattle.examiner.proofs.worked.worked_images_are_alike.Goals as goal

pub returns : goal.returns
returns c = record {
  guarantee = c.noninterference.ensures (record {});
  alike = alike_worked;
  left_marked = left_marked;
  right_marked = right_marked;
}
