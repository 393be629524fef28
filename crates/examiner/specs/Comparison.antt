-- How two pages compare.
use Rattle.std.specs.Prelude.{ℕ, Bool, cond, ◌&&◌, List, [], ◌∷◌, ◌==◌}
use Rattle.labels.specs.declared.cell.Cell.{Cell}
use Rattle.examiner.specs.declared.compare.Comparison.{Comparison}
use Rattle.examiner.specs.declared.compare.Comparison.TheVariants.{Equal, LeftFirst, RightFirst, Different}

-- the number of each case
abbrev pub comparison_number : Comparison → ℕ
comparison_number Equal = 0
comparison_number LeftFirst = 1
comparison_number RightFirst = 2
comparison_number Different = 3

abbrev pub same_cell : Cell → Cell → Bool
same_cell a b = a.word.0 == b.word.0 && a.tag.0 == b.tag.0

-- Outputs are compared place by place: the first two that are not the same make them different, and a list that
-- ends before the other is the first part of it.
abbrev pub compared : List Cell → List Cell → Comparison
compared [] [] = Equal
compared [] (b ∷ right) = LeftFirst
compared (a ∷ left) [] = RightFirst
compared (a ∷ left) (b ∷ right) = cond (same_cell a b) (compared left right) Different
