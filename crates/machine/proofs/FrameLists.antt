-- The first elements of a list, the last of them first: one more, and one fewer.
use Rattle.std.proofs.Common.{◌≡◌, ℕ, ◌+◌, ◌-◌, ◌<◌, ◌≤◌, min, List, [], ◌∷◌, reverse, length, get_or, take, set, sym, ap, ◌∙◌, arith}
use Rattle.std.proofs.lemmas.List.{take_more, take_more_set, reverse-append, length-reverse, length-take, length-take-le}

module _ {A : Type 0} (xs : List A) (n : ℕ) where
  pub counted : n ≤ length xs → length (reverse (take n xs)) ≡ n
  counted h = length-reverse (take n xs) ∙ length-take-le n xs h

  -- as many as are counted fit, also one fewer
  pub counted_fewer : length (reverse (take n xs)) ≡ n → length (reverse (take (n - 1) xs)) ≡ n - 1
  counted_fewer h =
      let fits : min n (length xs) ≡ n = sym (length-take n xs) ∙ sym (length-reverse (take n xs)) ∙ h in
      let fewer : n - 1 ≤ length xs = omega arith in
      length-reverse (take (n - 1) xs) ∙ length-take-le (n - 1) xs fewer

  pub put_on : (y : A) → n < length xs → reverse (take (n + 1) (set xs n y)) ≡ y ∷ reverse (take n xs)
  put_on y h = ap reverse (take_more_set xs n y h) ∙ reverse-append (take n xs) (y ∷ [])

  pub taken_off : (d : A) → 0 < n → n ≤ length xs → reverse (take n xs) ≡ get_or xs (n - 1) d ∷ reverse (take (n - 1) xs)
  taken_off d p h =
      let k : n - 1 + 1 ≡ n = omega arith in
      let l : n - 1 < length xs = omega arith in
      ap (λ m. reverse (take m xs)) (sym k) ∙ ap reverse (take_more xs (n - 1) d l) ∙ reverse-append (take (n - 1) xs) (get_or xs (n - 1) d ∷ [])
