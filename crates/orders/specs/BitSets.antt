-- Lemmas alone: inclusion of bit sets is an order, and union is its join.
use Rattle.std.specs.Prelude.{◌≡◌, ℕ, ◌+◌, ◌*◌, ◌/◌, ◌%◌, max, true, bit_and, bit_or, refl}
use Rattle.std.proofs.Common.{sym, ap, ap₂, subst, ◌∙◌, arith}
use Rattle.std.proofs.Math.Arith.{bin_ind}
use Rattle.std.specs.Int.Bits.{or_step, and_self, or_add_and}
use Rattle.std.proofs.lemmas.Nat.{or_shr, or_comm, and_assoc, and_comm, and_or_self}
use Rattle.std.proofs.lemmas.Bool.{eqb-true, eq-eqb}
use Rattle.orders.specs.Makes.{subset}

pub subset_refl : (a : ℕ) → subset a a ≡ true
subset_refl a = eq-eqb (bit_and a a) a (and_self a)

pub subset_antisym : (a b : ℕ) → subset a b ≡ true → subset b a ≡ true → a ≡ b
subset_antisym a b h k = sym (eqb-true (bit_and a b) a h) ∙ and_comm a b ∙ eqb-true (bit_and b a) b k

pub subset_trans : (a b c : ℕ) → subset a b ≡ true → subset b c ≡ true → subset a c ≡ true
subset_trans a b c h k =
    let ab = eqb-true (bit_and a b) a h in
    let bc = eqb-true (bit_and b c) b k in
    eq-eqb (bit_and a c) a (ap (λ x. bit_and x c) (sym ab) ∙ and_assoc c a b ∙ ap (bit_and a) bc ∙ ab)

pub subset_right : (a b : ℕ) → subset b (bit_or a b) ≡ true
subset_right a b = eq-eqb (bit_and b (bit_or a b)) b (and_comm b (bit_or a b) ∙ and_or_self b a)

pub subset_left : (a b : ℕ) → subset a (bit_or a b) ≡ true
subset_left a b = subst (λ (x : ℕ). subset a x ≡ true) (or_comm b a) (subset_right b a)

or_lowest : (a b : ℕ) → bit_or a b % 2 ≡ max (a % 2) (b % 2)
or_lowest a b = let s = or_step a b in omega arith

or_assoc : (a b c : ℕ) → bit_or (bit_or a b) c ≡ bit_or a (bit_or b c)
or_assoc =
    bin_ind (λ (n : ℕ). (b c : ℕ) → bit_or (bit_or n b) c ≡ bit_or n (bit_or b c)) (λ b c. refl)
    (λ n ih b c.
    or_step (bit_or n b) c
    ∙ ap₂ (λ (x y : ℕ). x * 2 + y)
    (ap (λ x. bit_or x (c / 2)) (or_shr n b 1) ∙ ih (b / 2) (c / 2) ∙ ap (bit_or (n / 2)) (sym (or_shr b c 1)))
    (omega (arith, or_lowest n b, or_lowest b c))
    ∙ sym (or_step n (bit_or b c)))

-- inclusion by union
subset_or : (a b : ℕ) → subset a b ≡ true → bit_or a b ≡ b
subset_or a b h = let e = eqb-true (bit_and a b) a h in let s = or_add_and a b in omega arith

or_subset : (a b : ℕ) → bit_or a b ≡ b → subset a b ≡ true
or_subset a b h = eq-eqb (bit_and a b) a (let s = or_add_and a b in omega arith)

pub union_subset : (a b c : ℕ) → subset a c ≡ true → subset b c ≡ true → subset (bit_or a b) c ≡ true
union_subset a b c h k = or_subset (bit_or a b) c (or_assoc a b c ∙ ap (bit_or a) (subset_or b c k) ∙ subset_or a c h)
