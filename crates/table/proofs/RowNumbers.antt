-- Digits put together and taken apart again: the query of a query's row is the query with its unused tags cleared.
use Rattle.std.proofs.Common.{◌≡◌, ℕ, ◌+◌, ◌*◌, ◌/◌, ◌%◌, ◌^◌, ◌<◌, ◌≤◌, Bool, true, false, cond, ◌||◌, eqb, ltb, refl, ap, ◌∙◌, add-zero, pow-suc, add-one, arith}
use native.Mathlib.Nat.{pow-zero}
use lib.Count.{ones, ones_in}
use lib.Bits.{bit_and}
use Rattle.std.proofs.lemmas.Nat.{mul-add-lt, div-mul-add, mod-mul-add}
use Rattle.std.proofs.lemmas.Bool.{ltb-true}
use Rattle.labels.specs.Order.{tag}
use Rattle.labels.specs.declared.cell.Tag.{Tag}
use Rattle.rules.specs.Rules.{rule}
use Rattle.rules.specs.Flow.{unused_or, each_used}
use Rattle.rules.specs.Cleared.{kept, cleared_by}
use Rattle.rules.specs.declared.query.Query.{Query}
use Rattle.rules.proofs.Classes.{each_below}
use Rattle.rules.proofs.Judged.{used_parts}
use Rattle.table.specs.Numbering.{class_size, digit, number, last_digit, digits_before, query_of_digits}
use Rattle.table.specs.Table.{below}

abbrev used : ℕ → ℕ → ℕ
used mask weight = cond (eqb (bit_and mask weight) 0) 0 1

abbrev all_used : ℕ → ℕ
all_used mask = 0 + used mask 32 + used mask 16 + used mask 8 + used mask 4 + used mask 2 + used mask 1

-- the number of used tags is the number of ones in the mask
ones_used : (k : ℕ) → k ≤ 13 → ones (rule k).mask ≡ all_used (rule k).mask
unfolding ones ones_in
ones_used k h = each_below (λ k. ones (rule k).mask ≡ all_used (rule k).mask) 14 ((((((((((((((tt, refl), refl), refl), refl), refl), refl), refl), refl), refl), refl), refl), refl), refl), refl) k (omega arith)

digit_small_at : (n j digits t : ℕ) (b : Bool) → digits < n ^ j → (b || ltb t n) ≡ true → cond b digits (digits * n + t) < n ^ (j + cond b 0 1)
digit_small_at n j digits t true h f = rw (add-zero j) h
digit_small_at n j digits t false h f = rw (add-one j, pow-suc n j) (omega (arith, mul-add-lt digits n t (n ^ j) h (ltb-true t n f)))

digit_small : (n mask weight j digits : ℕ) (t : Tag) → digits < n ^ j → unused_or (below n) mask weight t ≡ true → digit n mask weight digits t < n ^ (j + used mask weight)
digit_small n mask weight j digits t h f = digit_small_at n j digits t.0 (eqb (bit_and mask weight) 0) h f

number_small : (n mask : ℕ) (q : Query) → each_used (below n) mask q ≡ true → number n mask q < n ^ all_used mask
number_small n mask q h =
    let u = used_parts (below n) mask q h in
    digit_small n mask 1 _ _ q.memory
    (digit_small n mask 2 _ _ q.b
    (digit_small n mask 4 _ _ q.a
    (digit_small n mask 8 _ _ q.d
    (digit_small n mask 16 _ _ q.instruction
    (digit_small n mask 32 0 0 q.pc (rw (pow-zero n) (omega arith)) u.pc)
    u.instruction)
    u.d)
    u.a)
    u.b)
    u.memory

pub number_in_class : (n : ℕ) (q : Query) → q.class ≤ 13 → each_used (below n) (rule q.class).mask q ≡ true → number n (rule q.class).mask q < class_size n q.class
number_in_class n q h l = rw (ones_used q.class h) (number_small n (rule q.class).mask q l)

-- one digit put on and taken off again
last_at : (n digits t : ℕ) (b : Bool) → (b || ltb t n) ≡ true → cond b 0 (cond b digits (digits * n + t) % n) ≡ cond b 0 t
last_at n digits t true f = refl
last_at n digits t false f = mod-mul-add digits n t (ltb-true t n f)

before_at : (n digits t : ℕ) (b : Bool) → (b || ltb t n) ≡ true → cond b (cond b digits (digits * n + t)) (cond b digits (digits * n + t) / n) ≡ digits
before_at n digits t true f = refl
before_at n digits t false f = div-mul-add digits n t (ltb-true t n f)

module _ (n mask : ℕ) where
  last_back : (w digits : ℕ) (t : Tag) → unused_or (below n) mask w t ≡ true → last_digit n mask w (digit n mask w digits t) ≡ (kept mask w t).0
  last_back w digits t f = last_at n digits t.0 (eqb (bit_and mask w) 0) f

  before_back : (w digits : ℕ) (t : Tag) → unused_or (below n) mask w t ≡ true → digits_before n mask w (digit n mask w digits t) ≡ digits
  before_back w digits t f = before_at n digits t.0 (eqb (bit_and mask w) 0) f

  pub query_back : (q : Query) → each_used (below n) mask q ≡ true → query_of_digits n mask q.class (number n mask q) ≡ cleared_by mask q
  query_back q l =
      let u = used_parts (below n) mask q l in
      let a1 : ℕ = digit n mask 32 0 q.pc in
      let a2 : ℕ = digit n mask 16 a1 q.instruction in
      let a3 : ℕ = digit n mask 8 a2 q.d in
      let a4 : ℕ = digit n mask 4 a3 q.a in
      let a5 : ℕ = digit n mask 2 a4 q.b in
      let e5 = before_back 1 a5 q.memory u.memory in
      let e4 = ap (digits_before n mask 2) e5 ∙ before_back 2 a4 q.b u.b in
      let e3 = ap (digits_before n mask 4) e4 ∙ before_back 4 a3 q.a u.a in
      let e2 = ap (digits_before n mask 8) e3 ∙ before_back 8 a2 q.d u.d in
      let e1 = ap (digits_before n mask 16) e2 ∙ before_back 16 a1 q.instruction u.instruction in
      let memory = last_back 1 a5 q.memory u.memory in
      let b = ap (last_digit n mask 2) e5 ∙ last_back 2 a4 q.b u.b in
      let a = ap (last_digit n mask 4) e4 ∙ last_back 4 a3 q.a u.a in
      let d = ap (last_digit n mask 8) e3 ∙ last_back 8 a2 q.d u.d in
      let instruction = ap (last_digit n mask 16) e2 ∙ last_back 16 a1 q.instruction u.instruction in
      let pc = ap (last_digit n mask 32) e1 ∙ last_back 32 0 q.pc u.pc in
      λ j. record { class = q.class; pc = tag (pc j); instruction = tag (instruction j); d = tag (d j); a = tag (a j); b = tag (b j); memory = tag (memory j) }
