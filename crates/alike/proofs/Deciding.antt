-- No difference is found exactly where two images are alike.
use Rattle.std.proofs.Common.{◌≡◌, ℕ, zero, suc, ◌+◌, ◌<◌, Bool, true, false, cond, not, ◌&&◌, eqb, List, [], ◌∷◌, length, Some, None, Option, refl, ap, ◌∙◌, subst, ap₂, inl, inr, ⊎_elim, arith}
use Rattle.std.proofs.lemmas.Bool.{and_parts, and_from, or_cases, or_left, or_right, not-true, not_from_false, eqb-true, eq-eqb, cond-true}
use Rattle.labels.specs.Order.{Meaning, tag}
use Rattle.labels.specs.declared.cell.Tag.{Tag}
use Rattle.labels.specs.declared.cell.Cell.{Cell}
use Rattle.image.specs.declared.entry.CodeEntry.{CodeEntry}
use Rattle.image.specs.Layout.{header_of, code_of, cells_of}
use Rattle.machine.specs.Machine.{word}
use Rattle.machine.specs.Effect.{cell_at}
use Rattle.observer.specs.Observer.{reader, Alike, AlikeCells}
use Rattle.examiner.specs.Guarantee.{AlikeImages}
use Rattle.alike.specs.declared.difference.Difference.{Difference}
use Rattle.alike.specs.declared.difference.Difference.TheVariants.{Reader}
use Rattle.alike.specs.Difference.{first_difference, same_entry, alike_to, cell_difference, code_difference, difference_of}

-- a list of entries in which no difference is found is the same list
passed : (b : Bool) (o : Option ℕ) (place : ℕ) → cond b o (Some place) ≡ None → (b ≡ true) × (o ≡ None)
passed true o place h = (refl, h)
passed false o place h = (cc, cc)

entries_equal : (place : ℕ) (xs ys : List CodeEntry) → first_difference same_entry place xs ys ≡ None → xs ≡ ys
entries_equal place [] [] h = refl
entries_equal place [] (y ∷ ys) h = cc
entries_equal place (x ∷ xs) [] h = cc
entries_equal place (x ∷ xs) (y ∷ ys) h =
    let p = passed (same_entry x y) (first_difference same_entry (place + 1) xs ys) place h in
    let e = and_parts (eqb x.tag.0 y.tag.0) (eqb x.bits y.bits) p.0 in
    let t = eqb-true x.tag.0 y.tag.0 e.0 in
    let b = eqb-true x.bits y.bits e.1 in
    let same : x ≡ y = ap₂ (λ (t b : ℕ). record { tag = tag t; bits = b }) t b in
    ap₂ ◌∷◌ same (entries_equal (place + 1) xs ys p.1)

entry_itself : (x : CodeEntry) → same_entry x x ≡ true
entry_itself x = and_from (eqb x.tag.0 x.tag.0) (eqb x.bits x.bits) (eq-eqb x.tag.0 x.tag.0 refl) (eq-eqb x.bits x.bits refl)

no_difference_from_itself : (place : ℕ) (xs : List CodeEntry) → first_difference same_entry place xs xs ≡ None
no_difference_from_itself place [] = refl
no_difference_from_itself place (x ∷ xs) = cond-true (same_entry x x) _ _ (entry_itself x) ∙ no_difference_from_itself (place + 1) xs

module _ (sees : Tag → Bool) where
  alike_from : (c d : Cell) → alike_to sees c d ≡ true → Alike sees c d
  alike_from c d h =
      ⊎_elim
      (λ u. let p = and_parts (not (sees c.tag)) (not (sees d.tag)) u in inl (not-true (sees c.tag) p.0, not-true (sees d.tag) p.1))
      (λ e.
      let p = and_parts (eqb c.tag.0 d.tag.0) (eqb c.word.0 d.word.0) e in
      inr (ap tag (eqb-true c.tag.0 d.tag.0 p.0), ap word (eqb-true c.word.0 d.word.0 p.1)))
      (or_cases (not (sees c.tag) && not (sees d.tag)) (eqb c.tag.0 d.tag.0 && eqb c.word.0 d.word.0) h)

  from_alike : (c d : Cell) → Alike sees c d → alike_to sees c d ≡ true
  from_alike c d a =
      ⊎_elim
      (λ u. or_left (not (sees c.tag) && not (sees d.tag)) _ (and_from (not (sees c.tag)) (not (sees d.tag)) (not_from_false (sees c.tag) u.0) (not_from_false (sees d.tag) u.1)))
      (λ e.
      or_right (not (sees c.tag) && not (sees d.tag)) _
      (and_from (eqb c.tag.0 d.tag.0) (eqb c.word.0 d.word.0) (eq-eqb c.tag.0 d.tag.0 (ap (λ (t : Tag). t.0) e.0)) (eq-eqb c.word.0 d.word.0 (ap (λ w. w.0) e.1))))
      a

  one_more : (c d : Cell) (cs ds : List Cell) → Alike sees c d → ((n : ℕ) → n < length cs → Alike sees (cell_at cs n) (cell_at ds n)) → (n : ℕ) → n < length (c ∷ cs) → Alike sees (cell_at (c ∷ cs) n) (cell_at (d ∷ ds) n)
  one_more c d cs ds here rest zero l = here
  one_more c d cs ds here rest (suc n) l = rest n (omega arith)

  cells_alike : (place : ℕ) (cs ds : List Cell) → first_difference (alike_to sees) place cs ds ≡ None → AlikeCells sees cs ds
  cells_alike place [] [] h = (refl, λ n l. absurd (omega arith))
  cells_alike place [] (d ∷ ds) h = let z : ◌≡◌ {A = ℕ} 0 1 = cc in absurd (omega arith)
  cells_alike place (c ∷ cs) [] h = let z : ◌≡◌ {A = ℕ} 0 1 = cc in absurd (omega arith)
  cells_alike place (c ∷ cs) (d ∷ ds) h =
      let p = passed (alike_to sees c d) (first_difference (alike_to sees) (place + 1) cs ds) place h in
      let rest = cells_alike (place + 1) cs ds p.1 in
      (ap suc rest.0, one_more c d cs ds (alike_from c d p.0) rest.1)

  none_if_alike : (place : ℕ) (cs ds : List Cell) → AlikeCells sees cs ds → first_difference (alike_to sees) place cs ds ≡ None
  none_if_alike place [] [] a = refl
  none_if_alike place [] (d ∷ ds) a = let b : ⊥ = omega (arith, a.0) in absurd b
  none_if_alike place (c ∷ cs) [] a = let b : ⊥ = omega (arith, a.0) in absurd b
  none_if_alike place (c ∷ cs) (d ∷ ds) a =
      cond-true (alike_to sees c d) _ _ (from_alike c d (a.1 0 (omega arith)))
      ∙ none_if_alike (place + 1) cs ds (omega (arith, a.0), λ n l. a.1 (suc n) (omega arith))

-- ── whole images ──

no_cells : (o : Option ℕ) → cell_difference o ≡ None → o ≡ None
no_cells (Some place) h = cc
no_cells None h = refl

no_code : (o : Option ℕ) (next : Option Difference) → code_difference o next ≡ None → (o ≡ None) × (next ≡ None)
no_code (Some place) next h = (cc, cc)
no_code None next h = (refl, h)

same_readers : (b : Bool) (o : Option Difference) → cond b o (Some Reader) ≡ None → (b ≡ true) × (o ≡ None)
same_readers true o h = (refl, h)
same_readers false o h = (cc, cc)

module _ (m : Meaning) (left right : List ℕ) where
  abbrev sees : Tag → Bool
  sees = reader m (header_of left).reader

  abbrev in_code : Option ℕ
  in_code = first_difference same_entry 0 (code_of left) (code_of right)

  abbrev in_cells : Option ℕ
  in_cells = first_difference (alike_to sees) 0 (cells_of left) (cells_of right)

  pub none_means_alike : difference_of m left right ≡ None → AlikeImages m left right
  none_means_alike h =
      let r = same_readers (eqb (header_of left).reader.0 (header_of right).reader.0) (code_difference in_code (cell_difference in_cells)) h in
      let k = no_code in_code (cell_difference in_cells) r.1 in
      record {
        same_reader = ap tag (eqb-true (header_of left).reader.0 (header_of right).reader.0 r.0);
        same_code = entries_equal 0 (code_of left) (code_of right) k.0;
        alike_cells = cells_alike sees 0 (cells_of left) (cells_of right) (no_cells in_cells k.1);
      }

  pub alike_means_none : AlikeImages m left right → difference_of m left right ≡ None
  alike_means_none a =
      cond-true (eqb (header_of left).reader.0 (header_of right).reader.0) (code_difference in_code (cell_difference in_cells)) (Some Reader) (eq-eqb _ _ (ap (λ (t : Tag). t.0) a.same_reader))
      ∙ ap (λ o. code_difference o (cell_difference in_cells)) (subst (λ ys. first_difference same_entry 0 (code_of left) ys ≡ None) a.same_code (no_difference_from_itself 0 (code_of left)))
      ∙ ap cell_difference (none_if_alike sees 0 (cells_of left) (cells_of right) a.alike_cells)
