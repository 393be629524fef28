-- An array made by calls that leave what they are made of as it is.
use Rattle.std.proofs.Common.{◌≡◌, ℕ, zero, suc, ◌+◌, ◌<◌, ◌≤◌, List, slice_index, ◌∙◌, subst, ⊎_elim, arith}
use Rattle.std.specs.Fn.{Mut, Called}
use Rattle.std.specs.Array.{IsFromFnResultFrom}
use Rattle.std.proofs.lemmas.Bool.{cases_order}

module _ {F : Type 0} (g : Mut F (ℕ × Unit {0}) ℕ) (f : F) (h : ℕ → ℕ) (told : (i y : ℕ) (q : F) → Called g f (i, tt) y q → (q ≡ f) × (y ≡ h i)) (ys : List ℕ) where
  pub made_by : (i n : ℕ) → IsFromFnResultFrom g f ys i n → (k : ℕ) → i ≤ k → k < i + n → slice_index ys k ≡ h k
  made_by i zero made k l m = absurd (omega arith)
  made_by i (suc n) (q, y, element, call, rest) k l m =
      let t = told i y q call in
      ⊎_elim
      (λ (e : i ≡ k). subst (λ j. slice_index ys j ≡ h j) e (element.1 0 ∙ t.1))
      (⊎_elim
      (λ (later : i < k). made_by (i + 1) n (subst (λ p. IsFromFnResultFrom g p ys (i + 1) n) t.0 rest) k (omega arith) (omega arith))
      (λ (before : k < i). absurd (omega arith)))
      (cases_order i k)
