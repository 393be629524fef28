-- The first place that is not the same is the difference; where there is none, the counts decide.
use Rattle.std.proofs.Common.{◌≡◌, true, false, Some, None, sym, ◌∙◌, rules, tests, arith}
use Rattle.std.proofs.lemmas.Iterator.{first_from_Range}
use Rattle.alike.proofs.Places.{first_place_other, no_place_other}
use Rattle.alike.proofs.difference.first_other.Goals as goal

pub returns-in-Some : goal.returns-in-Some
returns-in-Some g c test told =
    let p = first_from_Range _ _ _ (Some c.in-Some.place) (λ k. test k ≡ false) (λ k. test k ≡ true) c.in-Some.ensures.ran (λ x q k. search (rules, tests)) (λ x q k. search (rules, tests)) in
    sym (first_place_other test c.args.left_count c.args.right_count c.in-Some.place (omega (arith, p.1)) p.2 (λ k l. p.3 k (omega arith) l))

pub returns : goal.returns
returns g c test told =
    let p = first_from_Range _ _ _ None (λ k. test k ≡ false) (λ k. test k ≡ true) c.in-None.ensures.ran (λ x q k. search (rules, tests)) (λ x q k. search (rules, tests)) in
    c.end_difference.ensures ∙ sym (no_place_other test c.args.left_count c.args.right_count (λ k l. p k (omega arith) (omega arith)))
