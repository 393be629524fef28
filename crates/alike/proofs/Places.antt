-- The first difference of two lists made from functions of the place, from place to place.
use Rattle.std.proofs.Common.{◌≡◌, ℕ, zero, suc, refl, ◌+◌, ◌<◌, ◌≤◌, min, Bool, true, false, cond, eqb, [], ◌∷◌, map, drop, Some, None, Option, sym, ap, ◌∙◌, ap₂, ⊎_elim, arith}
use Rattle.std.specs.List.{range_with_len as counting}
use Rattle.std.proofs.lemmas.List.FromFn.{length-map-range_with_len, get_or-map-range_with_len}
use Rattle.std.proofs.lemmas.List.{drop_more, drop_all}
use Rattle.std.proofs.lemmas.Bool.{cond-true, cond-false, cases_order, eq-eqb, ne_eqb}
use Rattle.alike.specs.Difference.{first_difference, first_other as first_place, end_difference}

module _ {A : Type 0} (f : ℕ → A) (n i : ℕ) where
  rest_more : i < n → drop i (map f (counting 0 n)) ≡ f i ∷ drop (i + 1) (map f (counting 0 n))
  rest_more h =
      drop_more (map f (counting 0 n)) i (f i) (let l = length-map-range_with_len f 0 n in omega arith)
      ∙ ap (λ x. x ∷ drop (i + 1) (map f (counting 0 n))) (get_or-map-range_with_len f 0 n i i (f i) h (omega arith))

  rest_none : n ≤ i → drop i (map f (counting 0 n)) ≡ []
  rest_none h = drop_all i (map f (counting 0 n)) (let l = length-map-range_with_len f 0 n in omega arith)

module _ {A : Type 0} (same : A → A → Bool) (f g : ℕ → A) (n m : ℕ) where
  -- the first difference from a place on
  abbrev difference_from : ℕ → Option ℕ
  difference_from i = first_difference same i (drop i (map f (counting 0 n))) (drop i (map g (counting 0 m)))

  both_more : (i : ℕ) → i < n → i < m → difference_from i ≡ cond (same (f i) (g i)) (difference_from (i + 1)) (Some i)
  both_more i h k = ap₂ (first_difference same i) (rest_more f n i h) (rest_more g m i k)

  -- the lists are the same so far
  same_so_far : (i : ℕ) → i ≤ n → i ≤ m → ((k : ℕ) → k < i → same (f k) (g k) ≡ true) → difference_from 0 ≡ difference_from i
  same_so_far zero h k each = refl
  same_so_far (suc i) h k each =
      let next : suc i ≡ i + 1 = omega arith in
      same_so_far i (omega arith) (omega arith) (λ j l. each j (omega arith))
      ∙ both_more i (omega arith) (omega arith)
      ∙ cond-true (same (f i) (g i)) (difference_from (i + 1)) (Some i) (each i (omega arith))
      ∙ ap difference_from (sym next)

  pub first_other : (i : ℕ) → i < min n m → same (f i) (g i) ≡ false → ((k : ℕ) → k < i → same (f k) (g k) ≡ true) → difference_from 0 ≡ Some i
  first_other i h other each =
      same_so_far i (omega arith) (omega arith) each
      ∙ both_more i (omega arith) (omega arith)
      ∙ cond-false (same (f i) (g i)) (difference_from (i + 1)) (Some i) other

  at_the_end : (i : ℕ) → i ≡ min n m → difference_from i ≡ end_difference n m
  at_the_end i e =
      ⊎_elim
      (λ (same_length : n ≡ m).
      ap₂ (first_difference same i) (rest_none f n i (omega arith)) (rest_none g m i (omega arith))
      ∙ sym (cond-true (eqb n m) None (Some (min n m)) (eq-eqb n m same_length)))
      (⊎_elim
      (λ (h : n < m).
      let place : i ≡ min n m = omega arith in
      ap₂ (first_difference same i) (rest_none f n i (omega arith)) (rest_more g m i (omega arith))
      ∙ ap Some place ∙ sym (cond-false (eqb n m) None (Some (min n m)) (ne_eqb n m (λ e. omega arith))))
      (λ (h : m < n).
      let place : i ≡ min n m = omega arith in
      ap₂ (first_difference same i) (rest_more f n i (omega arith)) (rest_none g m i (omega arith))
      ∙ ap Some place ∙ sym (cond-false (eqb n m) None (Some (min n m)) (ne_eqb n m (λ e. omega arith)))))
      (cases_order n m)

  pub no_other : ((k : ℕ) → k < min n m → same (f k) (g k) ≡ true) → difference_from 0 ≡ end_difference n m
  no_other each = same_so_far (min n m) (omega arith) (omega arith) each ∙ at_the_end (min n m) refl

-- Lists made from functions differ where a test of the place that tells whether their things are the same fails.
module _ {A : Type 0} (same : A → A → Bool) (f g : ℕ → A) (test : ℕ → Bool) (told : (k : ℕ) → test k ≡ same (f k) (g k)) where
  by_place_from : (i n m : ℕ) → first_difference (λ j k. test j) i (counting i n) (counting i m) ≡ first_difference same i (map f (counting i n)) (map g (counting i m))
  by_place_from i zero zero = refl
  by_place_from i zero (suc m) = refl
  by_place_from i (suc n) zero = refl
  by_place_from i (suc n) (suc m) = ap₂ (λ b o. cond b o (Some i)) (told i) (by_place_from (i + 1) n m)

  pub by_place : (n m : ℕ) → first_place test n m ≡ first_difference same 0 (map f (counting 0 n)) (map g (counting 0 m))
  by_place n m = by_place_from 0 n m

module _ (test : ℕ → Bool) (n m : ℕ) where
  abbrev itself : ℕ → ℕ
  itself k = k

  abbrev at_each : ℕ → ℕ → Bool
  at_each j k = test j

  pub first_place_other : (i : ℕ) → i < min n m → test i ≡ false → ((k : ℕ) → k < i → test k ≡ true) → first_place test n m ≡ Some i
  first_place_other i h other each = by_place at_each itself itself test (λ k. refl) n m ∙ first_other at_each itself itself n m i h other each

  pub no_place_other : ((k : ℕ) → k < min n m → test k ≡ true) → first_place test n m ≡ end_difference n m
  no_place_other each = by_place at_each itself itself test (λ k. refl) n m ∙ no_other at_each itself itself n m each
