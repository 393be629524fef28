-- The guarantee: no two pages of sittings over alike images contradict each other, and where both sides have a marked page, these pages and the peeks are equal.
use Rattle.std.specs.Prelude.{◌≡◌, ℕ, true, ◌⊎◌, List, [], ◌∷◌, ◌++◌, Some, None, Option}
use Rattle.labels.specs.Order.{Meaning}
use Rattle.image.specs.Layout.{header_of, code_of, cells_of}
use Rattle.rules.specs.Book.{Book}
use Rattle.execution.specs.Step.{Answers}
use Rattle.observer.specs.Observer.{reader, AlikeCells}
use Rattle.observer.specs.ObserverLaws.{FirstOf}
use Rattle.examiner.specs.History.{Memory, PageSeen, PeekSeen, Side, History}

-- Images are alike to their reader if he is the same, the code with its tags is the same, and the cells are alike to him.
pub record AlikeImages (m : Meaning) (left right : List ℕ) : Type 0 where
  pub same_reader : (header_of left).reader ≡ (header_of right).reader
  pub same_code : code_of left ≡ code_of right
  pub alike_cells : AlikeCells (reader m (header_of left).reader) (cells_of left) (cells_of right)

-- where both sides were opened, their images are alike
abbrev pub AlikeIfOpened : Meaning → Option Memory → Option Memory → Type 0
AlikeIfOpened m None right = Unit {0}
AlikeIfOpened m (Some left) None = Unit {0}
AlikeIfOpened m (Some left) (Some right) = AlikeImages m left.image right.image

-- one of the elements of a list
abbrev pub In : {A : Type 0} → A → List A → Type 0
In x [] = ⊥
In x (y ∷ ys) = (x ≡ y) ⊎ In x ys

-- What is seen of two sides agrees.
pub record Agree (left right : Side) : Type 0 where
  -- of any two pages, of one side or of both, the outputs of one are the first outputs of the other
  pub outputs_agree : (p q : PageSeen) → In p (left.pages ++ right.pages) → In q (left.pages ++ right.pages)
      → FirstOf p.outputs q.outputs ⊎ FirstOf q.outputs p.outputs
  -- if one bears the end mark, the other has no more outputs
  pub none_after_the_mark : (p q : PageSeen) → In p (left.pages ++ right.pages) → In q (left.pages ++ right.pages)
      → p.marked ≡ true → FirstOf q.outputs p.outputs
  -- if a left and a right page both bear it, their outputs are equal
  pub marked_pages_are_equal : (p q : PageSeen) → In p left.pages → In q right.pages
      → p.marked ≡ true → q.marked ≡ true → p.outputs ≡ q.outputs
  -- and any two peeks of the same register or cell, one on each side, each made when its sitting was halted, give the same
  pub peeks_are_equal : (p q : PageSeen) → In p left.pages → In q right.pages
      → p.marked ≡ true → q.marked ≡ true
      → (x y : PeekSeen) → In x left.peeks → In y right.peeks → x.location ≡ y.location
      → x.when_halted ≡ true → y.when_halted ≡ true → x.answered ≡ y.answered

-- The guarantee for an order and engines of two types: any two histories over alike images are such that what is seen of them agrees.
abbrev pub Guarantee : (m : Meaning) {L R : Type 0} → Answers L → (L → Book → Type 0) → Answers R → (R → Book → Type 0) → Type 0
Guarantee m left_answers left_means right_answers right_means =
    (left right : Side) → History m left_answers left_means left → History m right_answers right_means right
    → AlikeIfOpened m left.memory right.memory → Agree left right
