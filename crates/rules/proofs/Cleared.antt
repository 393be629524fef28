-- The flow rules judge a query with its unused tags cleared alike.
use Rattle.std.proofs.Common.{◌≡◌, ℕ, ◌<◌, true, false, refl, ap, ◌∙◌, ⊎_elim, arith}
use Rattle.std.proofs.lemmas.Bool.{cases_Bool, cond-true, cond-false, leb-true}
use Rattle.labels.specs.Order.{Meaning}
use Rattle.labels.specs.declared.cell.Tag.{Tag}
use Rattle.rules.specs.Rules.{rule, ruled}
use Rattle.rules.specs.Flow.{flow}
use Rattle.rules.specs.Cleared.{cleared_by, cleared}
use Rattle.rules.specs.declared.query.Query.{Query}
use Rattle.rules.proofs.Classes.{each_below}

abbrev query : ℕ → Tag → Tag → Tag → Tag → Tag → Tag → Query
query k p i d a b m = record { class = k; pc = p; instruction = i; d = d; a = a; b = b; memory = m }

abbrev Alike : Meaning → ℕ → Type 0
Alike o k = (p i d a b m : Tag) → flow o (cleared_by (rule k).mask (query k p i d a b m)) ≡ flow o (query k p i d a b m)

each_alike : (o : Meaning) (k : ℕ) → k < 14 → Alike o k
unfolding flow
each_alike o = each_below (Alike o) 14 ((((((((((((((tt, λ p i d a b m. refl), λ p i d a b m. refl), λ p i d a b m. refl), λ p i d a b m. refl), λ p i d a b m. refl), λ p i d a b m. refl), λ p i d a b m. refl), λ p i d a b m. refl), λ p i d a b m. refl), λ p i d a b m. refl), λ p i d a b m. refl), λ p i d a b m. refl), λ p i d a b m. refl), λ p i d a b m. refl)

pub judged_alike : (o : Meaning) (q : Query) → flow o (cleared q) ≡ flow o q
judged_alike o q =
    ⊎_elim
    (λ (h : ruled q.class ≡ true).
    ap (flow o) (cond-true (ruled q.class) (cleared_by (rule q.class).mask q) q h)
    ∙ (let low : q.class < 14 = omega (arith, leb-true q.class 13 h) in
    each_alike o q.class low q.pc q.instruction q.d q.a q.b q.memory))
    (λ (h : ruled q.class ≡ false). ap (flow o) (cond-false (ruled q.class) (cleared_by (rule q.class).mask q) q h))
    (cases_Bool (ruled q.class))
