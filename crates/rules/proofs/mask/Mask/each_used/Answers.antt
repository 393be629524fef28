-- The list of the six tags is gone through, and each is unused or passes.
use Rattle.std.proofs.Common.{rules, tests, ◌≡◌, Bool, true, false, ◌&&◌, ◌∙◌, refl}
use Rattle.std.specs.List.{list_all}
use Rattle.std.proofs.lemmas.Iterator.{YieldsList-from_slice}
use Rattle.std.proofs.lemmas.Iterator.Search.{all_from_yields_List}
use Rattle.rules.specs.Rules.{tag_of}
use Rattle.rules.specs.Flow.{unused_or}
use Rattle.rules.specs.QueryTag.{input_of, weight_of}
use Rattle.rules.specs.declared.mask.QueryTag.{QueryTag}
use Rattle.rules.specs.declared.mask.QueryTag.TheVariants.{Pc, Instruction, D, A, B, Memory}
use Rattle.rules.specs.declared.mask.TheConstants.QueryTag.{ALL}
use Rattle.rules.proofs.mask.Mask.each_used.Goals as goal

regrouped : (p i d a b m : Bool) → (p && (i && (d && (a && (b && (m && true)))))) ≡ (p && i && d && a && b && m)
regrouped false i d a b m = refl
regrouped true false d a b m = refl
regrouped true true false a b m = refl
regrouped true true true false b m = refl
regrouped true true true true false m = refl
regrouped true true true true true false = refl
regrouped true true true true true true = refl

one_by_one : (test : QueryTag → Bool) → list_all test ALL ≡ (test Pc && test Instruction && test D && test A && test B && test Memory)
one_by_one test = regrouped (test Pc) (test Instruction) (test D) (test A) (test B) (test Memory)

pub returns : goal.returns
returns g c passes h =
    let test = λ (which : QueryTag). unused_or passes c.args.self.0 (weight_of which) (tag_of (input_of which) c.args.query.now) in
    all_from_yields_List test _ _ _ c.all.ensures.ran (YieldsList-from_slice ALL cc) (λ x b q k. search (rules, tests)) ∙ one_by_one test
