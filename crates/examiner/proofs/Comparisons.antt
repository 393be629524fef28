-- How two lists compare: by their first parts, and where one is the first part of the other.
use Rattle.std.proofs.Common.{◌≡◌, ℕ, Bool, true, false, cond, ◌&&◌, eqb, ◌⊎◌, List, [], ◌∷◌, ◌++◌, length, take, sym, refl, ap, ◌∙◌, subst, ⊎_elim, arith}
use Rattle.std.specs.List.{starts_with}
use Rattle.std.specs.Cmp.Lexicographic.{pointwise}
use Rattle.std.proofs.lemmas.Bool.{cond-true, eq-eqb, and_from}
use Rattle.std.proofs.lemmas.Bool.Decides.{Decides-eqb, same_from_decides}
use Rattle.labels.specs.declared.cell.Cell.{Cell}
use Rattle.observer.specs.ObserverLaws.{FirstOf}
use Rattle.examiner.specs.Comparison.{same_cell, compared}
use Rattle.examiner.specs.declared.compare.Comparison.{Comparison}
use Rattle.examiner.specs.declared.compare.Comparison.TheVariants.{Equal, LeftFirst, RightFirst, Different}

-- how lists compare, by whether the left one is the first part of the right, and the right one of the left
abbrev pub by_first_parts : Bool → Bool → Comparison
by_first_parts true true = Equal
by_first_parts true false = LeftFirst
by_first_parts false true = RightFirst
by_first_parts false false = Different

eqb_both_ways : (a b : ℕ) → eqb a b ≡ eqb b a
eqb_both_ways a b =
    let d = Decides-eqb b a in
    same_from_decides (eqb a b) (eqb b a) (Decides-eqb a b) (λ e. sym (d.0 e), λ e. d.1 (sym e))

same_both_ways : (a b : Cell) → same_cell a b ≡ same_cell b a
same_both_ways a b = rw (eqb_both_ways a.word.0 b.word.0, eqb_both_ways a.tag.0 b.tag.0) refl

abbrev begins : List Cell → List Cell → Bool
begins xs ys = pointwise same_cell ys (take (length ys) xs)

compared_by_parts : (left right : List Cell) → compared left right ≡ by_first_parts (begins right left) (begins left right)
compared_by_parts [] [] = refl
compared_by_parts [] (b ∷ right) = refl
compared_by_parts (a ∷ left) [] = refl
compared_by_parts (a ∷ left) (b ∷ right) =
    subst (λ (x : Bool). compared (a ∷ left) (b ∷ right) ≡ by_first_parts (begins (b ∷ right) (a ∷ left)) (x && begins left right)) (same_both_ways a b)
    (at_heads (same_cell a b) (begins right left) (begins left right) (compared_by_parts left right))
  where
    at_heads : (x p q : Bool) → compared left right ≡ by_first_parts p q → cond x (compared left right) Different ≡ by_first_parts (x && p) (x && q)
    at_heads true p q rest = rest
    at_heads false p q rest = refl

pub compares : (left right : List Cell) (a b : Bool) → a ≡ starts_with same_cell right left → b ≡ starts_with same_cell left right → by_first_parts a b ≡ compared left right
compares left right a b e f = rw (e, f) (sym (compared_by_parts left right))

-- ── lists of which one is the first part of the other ──

same_as_itself : (a : Cell) → same_cell a a ≡ true
same_as_itself a = and_from _ _ (eq-eqb a.word.0 a.word.0 refl) (eq-eqb a.tag.0 a.tag.0 refl)

left_part : (xs rest : List Cell) → compared xs (xs ++ rest) ≡ Different → ⊥
left_part [] [] e = let z : ◌≡◌ {A = ℕ} 0 1 = cc in omega arith
left_part [] (y ∷ ys) e = let z : ◌≡◌ {A = ℕ} 0 1 = cc in omega arith
left_part (x ∷ xs) rest e = left_part xs rest (sym (cond-true (same_cell x x) (compared xs (xs ++ rest)) Different (same_as_itself x)) ∙ e)

right_part : (xs rest : List Cell) → compared (xs ++ rest) xs ≡ Different → ⊥
right_part [] [] e = let z : ◌≡◌ {A = ℕ} 0 1 = cc in omega arith
right_part [] (y ∷ ys) e = let z : ◌≡◌ {A = ℕ} 0 1 = cc in omega arith
right_part (x ∷ xs) rest e = right_part xs rest (sym (cond-true (same_cell x x) (compared (xs ++ rest) xs) Different (same_as_itself x)) ∙ e)

pub never_different : (left right : List Cell) → FirstOf left right ⊎ FirstOf right left → compared left right ≡ Different → ⊥
never_different left right one e = ⊎_elim
    (λ (f : FirstOf left right). left_part left f.0 (ap (compared left) f.1 ∙ e))
    (λ (f : FirstOf right left). right_part right f.0 (ap (λ (xs : List Cell). compared xs right) f.1 ∙ e))
    one
