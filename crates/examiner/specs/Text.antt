-- What is printed of a comparison.
use Rattle.std.specs.Prelude.{ℕ, List, codes}
use Rattle.examiner.specs.declared.compare.Comparison.{Comparison}
use Rattle.examiner.specs.declared.compare.Comparison.TheVariants.{Equal, LeftFirst, RightFirst, Different}

abbrev pub comparison_text : Comparison → List ℕ
comparison_text Equal = codes "pages equal"
comparison_text LeftFirst = codes "left page is the first of the right"
comparison_text RightFirst = codes "right page is the first of the left"
comparison_text Different = codes "pages different"
