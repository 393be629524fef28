-- How many rows there are: bounds, and the starts of the classes.
use Rattle.std.proofs.Common.{◌≡◌, ℕ, zero, suc, ◌+◌, ◌*◌, ◌^◌, ◌<◌, ◌≤◌, true, leb, get_or, refl, ap, ◌∙◌, ⊎_elim, add-one, arith, lit<}
use native.Mathlib.Nat.{pow-le-pow_left, pow-le-pow_right}
use lib.Count.{ones, ones_in}
use Rattle.std.proofs.lemmas.List.FromFn.{get_or-map-range_with_len}
use Rattle.std.proofs.lemmas.Bool.{leb-true, cases_lt}
use Rattle.rules.specs.Rules.{rule}
use Rattle.rules.proofs.Classes.{each_below}
use Rattle.table.specs.Numbering.{class_size, class_start, class_starts, row_count}
use Rattle.table.specs.declared.layout.Layout.{Layout}

-- at most four tags are used
ones_few : (k : ℕ) → k ≤ 13 → ones (rule k).mask ≤ 4
unfolding ones ones_in
ones_few k h =
    leb-true (ones (rule k).mask) 4
    (each_below (λ k. leb (ones (rule k).mask) 4 ≡ true) 14 ((((((((((((((tt, refl), refl), refl), refl), refl), refl), refl), refl), refl), refl), refl), refl), refl), refl) k (omega arith))

power_small : (n u : ℕ) → n ≤ 8 → u ≤ 4 → n ^ u ≤ 4096
power_small n u h k =
    let a : n ^ u ≤ 8 ^ u = pow-le-pow_left h u in
    let b : 8 ^ u ≤ 8 ^ 4 = pow-le-pow_right (lit< tt) k in
    omega arith

pub size_small : (n k : ℕ) → n ≤ 8 → k ≤ 13 → class_size n k ≤ 4096
size_small n k h l = power_small n (ones (rule k).mask) h (ones_few k l)

pub start_small : (n k : ℕ) → n ≤ 8 → k ≤ 14 → class_start n k ≤ k * 4096
start_small n zero h l = omega arith
start_small n (suc k) h l = omega (arith, start_small n k h (omega arith), size_small n k h (omega arith))

pub start_more : (n k : ℕ) → class_start n (k + 1) ≡ class_start n k + class_size n k
start_more n k = ap (class_start n) (add-one k)

pub start_rises : (n j k : ℕ) → j ≤ k → class_start n j ≤ class_start n k
start_rises n j zero h = let e : j ≡ 0 = omega arith in rw e (omega arith)
start_rises n j (suc k) h =
    ⊎_elim (λ lt. omega (arith, start_rises n j k (omega arith))) (λ (ge : suc k ≤ j). let e : j ≡ suc k = omega arith in rw e (omega arith)) (cases_lt j (suc k))

pub class_starts_at : (n k : ℕ) → k < 15 → get_or (class_starts n) k 0 ≡ class_start n k
unfolding class_starts
class_starts_at n k h = get_or-map-range_with_len (class_start n) 0 15 k k 0 h (omega arith)

last_start : (n : ℕ) → get_or (class_starts n) 14 0 ≡ row_count n
unfolding row_count
last_start n = class_starts_at n 14 (omega arith)

-- what a layout holds
pub start_known : (l : Layout) (k : ℕ) → k < 15 → get_or l.starts k 0 ≡ class_start l.labels k
start_known l k h = ap (λ starts. get_or starts k 0) l.in_turn ∙ class_starts_at l.labels k h

pub count_known : (l : Layout) → get_or l.starts 14 0 ≡ row_count l.labels
count_known l = ap (λ starts. get_or starts 14 0) l.in_turn ∙ last_start l.labels

pub row_count_is : (n : ℕ) → row_count n ≡ class_start n 14
unfolding row_count
row_count_is n = refl

-- the part of the rows that is a class's own
pub record Part (n k from to long : ℕ) : Type 0 where
  pub start : from ≡ class_start n k
  pub size : to ≡ from + class_size n k
  pub fits : to ≤ long

pub part_of : (n k from to long : ℕ) → k ≤ 13 → from ≡ class_start n k → to ≡ class_start n (k + 1) → long ≡ row_count n → Part n k from to long
part_of n k from to long low first last rows =
    let more = start_more n k in
    let rises = start_rises n (k + 1) 14 (omega arith) in
    let all = row_count_is n in
    record { start = first; size = omega arith; fits = omega arith }
