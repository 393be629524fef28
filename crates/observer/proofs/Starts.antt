-- At the start, alike cells give equal views.
use Rattle.std.proofs.Common.{◌≡◌, zero, suc, Bool, List, [], ◌∷◌, map, sym, refl, ◌∙◌, ⊎_elim, arith}
use Rattle.labels.specs.declared.cell.Tag.{Tag}
use Rattle.labels.specs.declared.cell.Cell.{Cell}
use Rattle.observer.specs.Observer.{shown, Alike, AlikeCells}
use Rattle.observer.specs.ObserverLaws.{AlikeStartsLookEqual}
use Rattle.observer.proofs.Views.{equal_views, blank}

module _ (sees : Tag → Bool) where
  pub alike_look_equal : (c d : Cell) → Alike sees c d → shown sees c ≡ shown sees d
  alike_look_equal c d a =
      ⊎_elim (λ unseen. blank sees c unseen.0 ∙ sym (blank sees d unseen.1)) (λ same. λ i. shown sees (record { word = same.1 i; tag = same.0 i })) a

  pub alike_lists_look_equal : (cs ds : List Cell) → AlikeCells sees cs ds → map (shown sees) cs ≡ map (shown sees) ds
  alike_lists_look_equal [] [] a = refl
  alike_lists_look_equal [] (d ∷ ds) a = absurd (omega (arith, a.0))
  alike_lists_look_equal (c ∷ cs) [] a = absurd (omega (arith, a.0))
  alike_lists_look_equal (c ∷ cs) (d ∷ ds) (same_length, alike) =
      let first = alike_look_equal c d (alike zero (omega arith)) in
      let rest = alike_lists_look_equal cs ds (omega arith, λ n h. alike (suc n) (omega arith)) in
      λ i. first i ∷ rest i

pub alike_starts_look_equal : AlikeStartsLookEqual
alike_starts_look_equal sees cs ds places others a = equal_views refl (alike_lists_look_equal sees cs ds a) refl refl refl
