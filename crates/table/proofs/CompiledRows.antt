-- A table over compiled rows judges as the flow rules do.
use Rattle.std.proofs.Common.{◌≡◌, ℕ, zero, suc, ◌+◌, ◌-◌, ◌<◌, ◌≤◌, true, false, ◌&&◌, eqb, leb, List, ◌++◌, length, get_or, take, Ok, Err, sym, refl, ap, ◌∙◌, subst, ap₂, ⊎_elim, add-one, arith, length-append}
use borrow.Rule.Slice.PartMut.{put_mid}
use Rattle.std.proofs.lemmas.Slice.{take-put_mid}
use Rattle.std.proofs.lemmas.Bool.{cases_Bool, cases_lt, and_parts, cond-true, cond-false, leb-true, lt-ltb, true≢false}
use Rattle.std.proofs.lemmas.List.{get_or_append_left, get_or-append_right, take_all}
use Rattle.std.proofs.lemmas.List.FromFn.{get_or-map-range_with_len, length-map-range_with_len}
use Rattle.labels.specs.Order.{Meaning, Laws}
use Rattle.labels.specs.declared.refusal.Refusal.TheVariants.{WrongTableSize}
use Rattle.rules.specs.Book.{Verdict}
use Rattle.rules.specs.Rules.{rule, ruled}
use Rattle.rules.specs.Flow.{each_used, flow}
use Rattle.rules.specs.Cleared.{cleared_by}
use Rattle.rules.specs.declared.query.Query.{Query}
use Rattle.rules.proofs.Cleared.{judged_alike}
use Rattle.rules.proofs.Judged.{used_weaker, flow_no_class, flow_no_label, GrantsLabels, flow_grants_labels}
use Rattle.table.specs.Packing.{pack, unpack}
use Rattle.table.specs.Numbering.{class_size, class_start, row_count, number, query_of}
use Rattle.table.specs.Layout.{row_of}
use Rattle.table.specs.Table.{below, table_book, size_fits}
use Rattle.table.specs.Compiled.{class_rows, rows_below, compiled, compile_answer, compile_rows}
use Rattle.table.proofs.RowCounts.{start_more, start_rises, row_count_is}
use Rattle.table.proofs.RowNumbers.{number_in_class, query_back}
use Rattle.table.proofs.PackedRows.{Small, unpack_pack}

module _ (n : ℕ) (m : Meaning) where
  abbrev row_at : ℕ → ℕ → ℕ
  row_at class i = pack (flow m (query_of n class i))

  pub length_rows : (k : ℕ) → length (rows_below n m k) ≡ class_start n k
  unfolding rows_below
  length_rows zero = refl
  length_rows (suc k) =
      let class = length-map-range_with_len (row_at k) 0 (class_size n k) in
      omega (arith, length-append (rows_below n m k) (class_rows n m k), length_rows k)

  -- row i of a class, among the rows of the classes below some class
  class_rows_at : (top k i : ℕ) → k < top → i < class_size n k → get_or (rows_below n m top) (class_start n k + i) 0 ≡ row_at k i
  unfolding rows_below
  class_rows_at zero k i h l = absurd (omega arith)
  class_rows_at (suc top) k i h l =
      let long = length_rows top in
      ⊎_elim
      (λ (lt : k < top).
      let rises = start_rises n (suc k) top lt in
      get_or_append_left (rows_below n m top) (class_rows n m top) 0 (class_start n k + i) (omega arith) ∙ class_rows_at top k i lt l)
      (λ (ge : top ≤ k).
      let same : top ≡ k = omega arith in
      let here : get_or (rows_below n m (suc top)) (class_start n top + i) 0 ≡ row_at top i =
      get_or-append_right (rows_below n m top) (class_rows n m top) (class_start n top) (class_start n top + i) 0 long (omega arith)
      ∙ get_or-map-range_with_len (row_at top) 0 (class_size n top) (class_start n top + i - class_start n top) i 0 (let l' : i < class_size n top = subst (λ (x : ℕ). i < class_size n x) (sym same) l in omega arith) (omega arith) in
      subst (λ (x : ℕ). get_or (rows_below n m (suc top)) (class_start n x + i) 0 ≡ row_at x i) same here)
      (cases_lt k top)

  -- a class more is filled
  pub filled_more : (k from to : ℕ) (rows part : List ℕ) → from ≡ class_start n k → from ≤ length rows → part ≡ class_rows n m k → take (class_start n k) rows ≡ rows_below n m k
      → take (class_start n (k + 1)) (put_mid from (to - from) rows part) ≡ rows_below n m (k + 1)
  unfolding rows_below
  filled_more k from to rows part start fits filled before =
      let long : length part ≡ class_size n k = ap length filled ∙ length-map-range_with_len (row_at k) 0 (class_size n k) in
      let ends : class_start n (k + 1) ≡ from + length part = omega (arith, start_more n k) in
      take-put_mid from (to - from) rows part (class_start n (k + 1)) ends fits
      ∙ ap₂ (λ (x y : List ℕ). x ++ y) (ap (λ i. take i rows) start ∙ before) filled
      ∙ ap (rows_below n m) (sym (add-one k))

  -- all classes are filled
  pub filled_all : (k : ℕ) (rows : List ℕ) → k ≡ 14 → length rows ≡ row_count n → take (class_start n k) rows ≡ rows_below n m k → rows ≡ rows_below n m 14
  filled_all k rows e long before =
      let all : length rows ≤ class_start n 14 = omega (arith, row_count_is n) in
      sym (take_all (class_start n 14) rows all) ∙ subst (λ (x : ℕ). take (class_start n x) rows ≡ rows_below n m x) e before

-- the book at a query whose used tags are below n
pub book_row : (n : ℕ) (rows : List ℕ) (q : Query) → ruled q.class ≡ true → each_used (below n) (rule q.class).mask q ≡ true → table_book n rows q ≡ unpack (get_or rows (row_of n q) 0)
book_row n rows q h l = rw (h, l) refl

grants_small : (m : Meaning) → Laws m → m.bound ≤ 8 → (v : Verdict) → GrantsLabels m v → Small v
grants_small m laws few (Ok g) l = (omega (arith, laws.below_bound g.0 l.0), omega (arith, laws.below_bound g.1 l.1))
grants_small m laws few (Err x) l = tt

-- the row of a query whose used tags are below the bound is its verdict
row_judged : (m : Meaning) → Laws m → m.bound ≤ 8 → (q : Query) → ruled q.class ≡ true → each_used (below m.bound) (rule q.class).mask q ≡ true
    → unpack (get_or (compiled m) (row_of m.bound q) 0) ≡ flow m q
row_judged m laws few q h l =
    let n : ℕ = m.bound in
    let mask : ℕ = (rule q.class).mask in
    let low : q.class ≤ 13 = leb-true q.class 13 h in
    let read : get_or (compiled m) (row_of n q) 0 ≡ pack (flow m (query_of n q.class (number n mask q))) =
    class_rows_at n m 14 q.class (number n mask q) (omega arith) (number_in_class n q low l) in
    let same : flow m (query_of n q.class (number n mask q)) ≡ flow m q =
    ap (flow m) (query_back n mask q l ∙ sym (cond-true (ruled q.class) (cleared_by mask q) q h)) ∙ judged_alike m q in
    ap unpack (read ∙ ap pack same) ∙ unpack_pack (flow m q) (grants_small m laws few (flow m q) (flow_grants_labels m laws q))

no_label : (m : Meaning) → Laws m → (q : Query) (mask : ℕ) → each_used (below m.bound) mask q ≡ false → each_used m.label mask q ≡ false
no_label m laws q mask l =
    ⊎_elim
    (λ (t : each_used m.label mask q ≡ true).
    absurd (true≢false (sym (used_weaker m.label (below m.bound) (λ t k. lt-ltb t.0 m.bound (laws.below_bound t k)) mask q t) ∙ l)))
    (λ (f : each_used m.label mask q ≡ false). f)
    (cases_Bool (each_used m.label mask q))

pub compiled_judges : (m : Meaning) → Laws m → m.bound ≤ 8 → (q : Query) → flow m q ≡ table_book m.bound (compiled m) q
compiled_judges m laws few q =
    let mask : ℕ = (rule q.class).mask in
    ⊎_elim
    (λ (h : ruled q.class ≡ true).
    ⊎_elim
    (λ (l : each_used (below m.bound) mask q ≡ true). sym (book_row m.bound (compiled m) q h l ∙ row_judged m laws few q h l))
    (λ (l : each_used (below m.bound) mask q ≡ false). flow_no_label m q h (no_label m laws q mask l) ∙ sym (rw (h, l) refl))
    (cases_Bool (each_used (below m.bound) mask q)))
    (λ (h : ruled q.class ≡ false). flow_no_class m q h ∙ sym (rw h refl))
    (cases_Bool (ruled q.class))

-- what a granted compile leaves in the rows
pub compile_judges : (m : Meaning) → Laws m → (rows after : List ℕ) → Ok tt ≡ compile_answer m rows → after ≡ compile_rows m rows → (q : Query) → flow m q ≡ table_book m.bound after q
compile_judges m laws rows after granted filled q =
    let fits = size_fits m.bound (length rows) in
    ⊎_elim
    (λ (h : fits ≡ true).
    let parts = and_parts (leb 1 m.bound && leb m.bound 8) (eqb (length rows) (row_count m.bound)) h in
    let few = leb-true m.bound 8 (and_parts (leb 1 m.bound) (leb m.bound 8) parts.0).1 in
    let same : after ≡ compiled m = filled ∙ cond-true fits (compiled m) rows h in
    compiled_judges m laws few q ∙ ap (λ r. table_book m.bound r q) (sym same))
    (λ (h : fits ≡ false).
    let refused = granted ∙ cond-false fits (Ok tt) (Err WrongTableSize) h in
    let z : ◌≡◌ {A = ℕ} 0 1 = cc in
    absurd (omega arith))
    (cases_Bool fits)
