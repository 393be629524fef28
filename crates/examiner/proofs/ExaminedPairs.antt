-- Two sides over alike images: the pages are never different.
use Rattle.std.proofs.Common.{◌≡◌, ℕ, List, [], ◌++◌, take, Some, None, Ok, Err, Result, sym, refl, subst, inl, inr, arith}
use Rattle.labels.specs.Order.{Meaning}
use Rattle.labels.specs.declared.cell.Cell.{Cell}
use Rattle.labels.specs.declared.refusal.Refusal.{Refusal}
use Rattle.rules.specs.Book.{Book}
use Rattle.execution.specs.Step.{Answers}
use Rattle.viewing.specs.declared.page.Page.{Page}
use Rattle.sitting.specs.Sitting.{blank}
use Rattle.examiner.specs.History.{Memory, PageSeen, Side, memory_after_open, page_added}
use Rattle.examiner.specs.Guarantee.{AlikeImages, AlikeIfOpened, In, Agree, Guarantee}
use Rattle.examiner.specs.Comparison.{compared}
use Rattle.examiner.specs.Examined.{memory, opened_with, SideDone, IsHistory, pages_compared}
use Rattle.examiner.specs.declared.compare.Comparison.TheVariants.{Different}
use Rattle.examiner.proofs.Comparisons.{never_different}

-- alike images, whether their opens were granted or not
alike_if_opened : (m : Meaning) (left right : Memory) (a b : Result (Unit {0}) Refusal) → AlikeImages m left.image right.image
    → AlikeIfOpened m (memory_after_open a None left) (memory_after_open b None right)
alike_if_opened m left right (Ok u) (Ok v) alike = alike
alike_if_opened m left right (Ok u) (Err refusal) alike = tt
alike_if_opened m left right (Err refusal) b alike = tt

-- the only pages of two sides that cannot be told apart
pages_not_different : (left right : Side) (left_page right_page : List Cell) (a b : Result Page Refusal)
    → left.pages ≡ page_added a left_page [] → right.pages ≡ page_added b right_page [] → Agree left right
    → pages_compared a left_page b right_page ≡ Some Different → ⊥
pages_not_different left right left_page right_page (Ok p) (Ok q) is_left is_right same e =
    let x : PageSeen = record { outputs = take p.outputs left_page; marked = p.end_mark } in
    let y : PageSeen = record { outputs = take q.outputs right_page; marked = q.end_mark } in
    let has_x : In x (left.pages ++ right.pages) = subst (λ (ps : List PageSeen). In x (ps ++ right.pages)) (sym is_left) (inl refl) in
    let has_y : In y (left.pages ++ right.pages) = subst (λ (ps : List PageSeen). In y (ps ++ right.pages)) (sym is_left) (inr (subst (In y) (sym is_right) (inl refl))) in
    let different : compared x.outputs y.outputs ≡ Different = cc in
    never_different x.outputs y.outputs (same.outputs_agree x y has_x has_y) different
pages_not_different left right left_page right_page (Ok p) (Err refusal) is_left is_right same e = let z : ◌≡◌ {A = ℕ} 0 1 = cc in omega arith
pages_not_different left right left_page right_page (Err refusal) b is_left is_right same e = let z : ◌≡◌ {A = ℕ} 0 1 = cc in omega arith

module _ (m : Meaning) {L R : Type 0} (left_answers : Answers L) (left_means : L → Book → Type 0) (right_answers : Answers R) (right_means : R → Book → Type 0)
    (guarantee : Guarantee m left_answers left_means right_answers right_means) where
  pub sides_not_different : (left_given right_given : Memory) (left right : SideDone)
      → IsHistory left_answers m left_means left_given left → IsHistory right_answers m right_means right_given right
      → AlikeImages m left_given.image right_given.image
      → pages_compared left.answered left.page right.answered right.page ≡ Some Different → ⊥
  sides_not_different left_given right_given left right l r alike =
      let opened_alike : AlikeIfOpened m l.came_to.memory r.came_to.memory =
      rw (l.same_memory, r.same_memory) (alike_if_opened m (memory left_given.image left.cells left.outputs) (memory right_given.image right.cells right.outputs) (opened_with m blank left_given).answered (opened_with m blank right_given).answered alike) in
      pages_not_different l.came_to r.came_to left.page right.page left.answered right.answered l.same_pages r.same_pages
      (guarantee l.came_to r.came_to l.history r.history opened_alike)
