-- What is printed of a difference.
use Rattle.std.specs.Prelude.{ℕ, List, ◌++◌, codes, decimal}
use Rattle.alike.specs.declared.difference.Difference.{Difference}
use Rattle.alike.specs.declared.difference.Difference.TheVariants.{Reader, CodeEntry as InCode, Cell as InCell}

abbrev pub difference_text : Difference → List ℕ
difference_text Reader = codes "the readers differ"
difference_text (InCode number) = codes "code entry " ++ (decimal number ++ codes " differs")
difference_text (InCell number) = codes "cell " ++ (decimal number ++ codes " differs")
