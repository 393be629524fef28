-- What holds of each class, one by one.
use Rattle.std.proofs.Common.{◌≡◌, ℕ, zero, suc, ◌<◌, ◌≤◌, true, false, get_or, refl, subst, ⊎_elim, arith}
use Rattle.std.proofs.lemmas.Bool.{cases_lt, lt-leb, leb-true}
use Rattle.rules.specs.Class.{class_number}
use Rattle.rules.specs.Rules.{ruled}
use Rattle.rules.specs.declared.class.Class.{Class}
use Rattle.rules.specs.declared.class.TheConstants.Class.{ALL}
use Rattle.rules.specs.declared.class.Class.TheVariants.{Nop, Const, Mov, Bin, Load, Store, Jump, Bnz, Goto, Call, Ret, Out, Raise, Halt}

-- what holds of each number below n
abbrev pub Each : (ℕ → Type 0) → ℕ → Type 0
Each P zero = Unit {0}
Each P (suc n) = Each P n × P n

pub each_below : (P : ℕ → Type 0) (n : ℕ) → Each P n → (k : ℕ) → k < n → P k
each_below P zero e k h = absurd (omega arith)
each_below P (suc n) e k h =
    ⊎_elim (λ lt. each_below P n e.0 k lt) (λ ge. let same : n ≡ k = omega arith in subst P same e.1) (cases_lt k n)

-- the number of a class has a rule, and one above 13 has none
number_ruled : (class : Class) → ruled (class_number class) ≡ true
number_ruled = elim [ Nop ↦ refl | Const ↦ refl | Mov ↦ refl | Bin ↦ refl | Load ↦ refl | Store ↦ refl | Jump ↦ refl | Bnz ↦ refl | Goto ↦ refl | Call ↦ refl | Ret ↦ refl | Out ↦ refl | Raise ↦ refl | Halt ↦ refl ]

pub class_ruled : (class : Class) (number : ℕ) → class_number class ≡ number → ruled number ≡ true
class_ruled class number h = subst (λ (n : ℕ). ruled n ≡ true) h (number_ruled class)

pub no_class_ruled : (number : ℕ) → 13 < number → ruled number ≡ false
no_class_ruled number h = lt-leb number 13 h

pub number_low : (class : Class) → class_number class ≤ 13
number_low class = leb-true (class_number class) 13 (number_ruled class)

-- the classes stand in the list of all of them by their numbers
pub all_in_turn : (class : Class) (k : ℕ) → k < 14 → class_number (get_or ALL k class) ≡ k
all_in_turn class = each_below (λ k. class_number (get_or ALL k class) ≡ k) 14 ((((((((((((((tt, refl), refl), refl), refl), refl), refl), refl), refl), refl), refl), refl), refl), refl), refl)
