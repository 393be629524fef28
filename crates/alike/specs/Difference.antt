-- Where two images differ for their reader.
use Rattle.std.specs.Prelude.{◌≡◌, ℕ, ◌+◌, min, Bool, cond, not, ◌&&◌, ◌||◌, List, [], ◌∷◌, Some, None, Option, ◌==◌}
use Rattle.std.specs.List.{range_with_len}
use Rattle.labels.specs.Order.{Meaning}
use Rattle.labels.specs.declared.cell.Tag.{Tag}
use Rattle.labels.specs.declared.cell.Cell.{Cell}
use Rattle.image.specs.declared.entry.CodeEntry.{CodeEntry}
use Rattle.image.specs.Layout.{header_of, code_of, cells_of}
use Rattle.observer.specs.Observer.{reader}
use Rattle.alike.specs.declared.difference.Difference.{Difference}
use Rattle.alike.specs.declared.difference.Difference.TheVariants.{Reader, CodeEntry as InCode, Cell as InCell}

-- the first place where two lists are not the same, one of them being at its end or the test failing
abbrev pub first_difference : {A : Type 0} → (A → A → Bool) → ℕ → List A → List A → Option ℕ
first_difference same place [] [] = None
first_difference same place [] (y ∷ ys) = Some place
first_difference same place (x ∷ xs) [] = Some place
first_difference same place (x ∷ xs) (y ∷ ys) = cond (same x y) (first_difference same (place + 1) xs ys) (Some place)

-- the first place where two lists of these lengths are not the same, if a test of the place tells where they are
abbrev pub first_other : (ℕ → Bool) → ℕ → ℕ → Option ℕ
first_other same_at n m = first_difference (λ place other. same_at place) 0 (range_with_len 0 n) (range_with_len 0 m)

-- what a call may answer is what a test of the place says
abbrev pub Computes : (ℕ → Bool → Type 0) → (ℕ → Bool) → Type 0
Computes answers test = (place : ℕ) (r : Bool) → answers place r → r ≡ test place

-- lists that are the same as far as both go differ where the shorter one ends
abbrev pub end_difference : ℕ → ℕ → Option ℕ
end_difference n m = cond (n == m) None (Some (min n m))

-- the same tag and the same bits
abbrev pub same_entry : CodeEntry → CodeEntry → Bool
same_entry x y = x.tag.0 == y.tag.0 && x.bits == y.bits

-- both tags are unseen, or tags and words are equal
abbrev pub alike_to : (Tag → Bool) → Cell → Cell → Bool
alike_to sees c d = (not (sees c.tag) && not (sees d.tag)) || (c.tag.0 == d.tag.0 && c.word.0 == d.word.0)

-- a difference in the cells, or none
abbrev pub cell_difference : Option ℕ → Option Difference
cell_difference (Some place) = Some (InCell place)
cell_difference None = None

-- a difference in the code comes before one in the cells
abbrev pub code_difference : Option ℕ → Option Difference → Option Difference
code_difference (Some place) next = Some (InCode place)
code_difference None next = next

-- The reader is compared first, then the code and then the cells, as the reader sees them.
abbrev pub difference_of : Meaning → List ℕ → List ℕ → Option Difference
difference_of m left right =
    cond ((header_of left).reader.0 == (header_of right).reader.0)
    (code_difference (first_difference same_entry 0 (code_of left) (code_of right))
    (cell_difference (first_difference (alike_to (reader m (header_of left).reader)) 0 (cells_of left) (cells_of right))))
    (Some Reader)
