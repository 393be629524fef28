-- A function of the numbers from 0 on, in two parts.
use Rattle.std.proofs.Common.{◌≡◌, ℕ, zero, suc, ◌+◌, List, ◌∷◌, ◌++◌, map, sym, refl, ap, ◌∙◌, arith}
use Rattle.std.specs.List.{range_with_len}

module _ {A : Type 0} (f : ℕ → A) where
  parts : (a n m : ℕ) → map f (range_with_len a (n + m)) ≡ map f (range_with_len a n) ++ map f (range_with_len (a + n) m)
  parts a zero m =
      let all : zero + m ≡ m = omega arith in
      let from : a + zero ≡ a = omega arith in
      cc
  parts a (suc n) m =
      let all : suc n + m ≡ suc (n + m) = omega arith in
      let from : a + 1 + n ≡ a + suc n = omega arith in
      ap (λ (k : ℕ). map f (range_with_len a k)) all
      ∙ ap (λ (xs : List A). f a ∷ xs) (parts (a + 1) n m ∙ ap (λ (b : ℕ). map f (range_with_len (a + 1) n) ++ map f (range_with_len b m)) from)

  pub shifted : (n k m : ℕ) → map (λ i. f (n + i)) (range_with_len k m) ≡ map f (range_with_len (n + k) m)
  shifted n k zero = refl
  shifted n k (suc m) =
      let next : n + (k + 1) ≡ n + k + 1 = omega arith in
      ap (λ (xs : List A). f (n + k) ∷ xs) (shifted n (k + 1) m ∙ ap (λ (b : ℕ). map f (range_with_len b m)) next)

  pub in_parts : (n m : ℕ) → map f (range_with_len 0 (n + m)) ≡ map f (range_with_len 0 n) ++ map (λ i. f (n + i)) (range_with_len 0 m)
  in_parts n m =
      let from : 0 + n ≡ n + 0 = omega arith in
      parts 0 n m
      ∙ ap (λ (b : ℕ). map f (range_with_len 0 n) ++ map f (range_with_len b m)) from
      ∙ ap (λ (xs : List A). map f (range_with_len 0 n) ++ xs) (sym (shifted n 0 m))
