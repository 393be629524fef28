-- The start of a class is that of the class before it and as many rows as that has.
use Rattle.std.proofs.Common.{◌≡◌, ℕ, ◌+◌, ◌<◌, get_or, set, sym, ap, ◌∙◌, subst, ap₂, arith, length-set}
use Rattle.std.proofs.lemmas.List.Edits.{fill_by_more}
use Rattle.std.proofs.lemmas.List.FromFn.{fill_by_all}
use Rattle.rules.proofs.Classes.{all_in_turn}
use Rattle.table.specs.Numbering.{class_size, class_start, class_starts}
use Rattle.table.proofs.RowCounts.{size_small, start_small, start_more}
use Rattle.table.proofs.layout.places.class_starts.Goals as goal

place_is : (c : goal.After-rows_of_class) → c.number-place.result ≡ c.loop-class.class-index
place_is c = c.number-place.ensures.value ∙ all_in_turn _ c.loop-class.class-index c.loop-class-test.true

start_is : (c : goal.After-rows_of_class) → get_or c.loop-class.starts c.number-place.result 0 ≡ class_start c.args.labels c.loop-class.class-index
start_is c =
    ap (λ i. get_or c.loop-class.starts i 0) (place_is c) ∙ c.loop-class.invariant.1 c.loop-class.class-index (omega arith)

size_is : (c : goal.After-rows_of_class) → c.rows_of_class.result ≡ class_size c.args.labels c.loop-class.class-index
size_is c = c.rows_of_class.ensures ∙ ap (class_size c.args.labels) (all_in_turn _ c.loop-class.class-index c.loop-class-test.true)

pub overflow_add-starts : goal.overflow_add-starts
overflow_add-starts c =
    let n = c.args.labels in
    let k = c.loop-class.class-index in
    record { fits = omega (arith, start_is c, size_is c, start_small n k c.requires (omega arith), size_small n k c.requires (omega arith)) }

pub loop-class-preserved : goal.loop-class-preserved
loop-class-preserved c =
    let n = c.args.labels in
    let k = c.loop-class.class-index in
    let starts = c.loop-class.starts in
    let inv = c.loop-class.invariant in
    let next : get_or starts c.number-place.result 0 + c.rows_of_class.result ≡ class_start n (k + 1) =
    ap₂ (λ (x y : ℕ). x + y) (start_is c) (size_is c) ∙ sym (start_more n k) in (
      simp length-set inv.0,
      subst (λ (i : ℕ). (j : ℕ) → j < k + 1 + 1 → get_or (set starts (i + 1) (get_or starts c.number-place.result 0 + c.rows_of_class.result)) j 0 ≡ class_start n j) (sym (place_is c))
          (subst (λ (x : ℕ). (j : ℕ) → j < k + 1 + 1 → get_or (set starts (k + 1) x) j 0 ≡ class_start n j) (sym next)
          (fill_by_more (class_start n) starts (k + 1) 0 (omega (arith, inv.0)) inv.1)),
    )

pub returns : goal.returns
unfolding class_starts
returns c =
    let inv = c.loop-class.invariant in
    fill_by_all (class_start c.args.labels) c.loop-class.starts 15 0 inv.0 (λ k h. inv.1 k (omega arith))
