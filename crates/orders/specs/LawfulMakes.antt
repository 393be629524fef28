-- Lemmas alone: each make of order keeps the laws, by one lemma from the laws of its test and join on numbers.
use Rattle.std.specs.Prelude.{◌≡◌, ℕ, ◌+◌, ◌*◌, ◌/◌, ◌%◌, ◌^◌, ◌<◌, ◌≤◌, max, Bool, true, leb, bit_or, nat_le, refl}
use Rattle.std.proofs.Common.{sym, ap, subst, ◌∙◌, arith, pow_pos, pow_mono}
use Rattle.std.proofs.Math.Nat.{zero-div, zero-mod}
use Rattle.std.proofs.lemmas.Nat.{shr_split, div_below, mod_below, div-mul-add, mod-mul-add, mul-add-lt, mul-le, or_lt}
use Rattle.std.proofs.lemmas.Bool.{leb-true, le-leb, ltb-true, lt-ltb, and_parts, and_from, and_left, cond-true, cond-false}
use Rattle.labels.specs.Order.{Meaning, Laws, Label, Flows, tag}
use Rattle.orders.specs.Makes.{both, order_on, below_all, two_point, subset, barred_sets, level, compartments, cleared_for, clearance_join, clearances}
use Rattle.orders.specs.BitSets.{subset_refl, subset_antisym, subset_trans, subset_left, subset_right, union_subset}
use Rattle.labels.specs.declared.cell.Tag.{Tag}

-- the laws of a test and a join on the numbers that are labels
pub record LawsOn (bound : ℕ) (label : ℕ → Bool) (below : ℕ → ℕ → Bool) (union : ℕ → ℕ → ℕ) : Type 0 where
  pub bound_fits : (1 ≤ bound) × (bound ≤ 65536)
  pub below_bound : (a : ℕ) → label a ≡ true → a < bound
  pub zero_is_label : label 0 ≡ true
  pub reflexive : (a : ℕ) → label a ≡ true → below a a ≡ true
  pub antisymmetric : (a b : ℕ) → label a ≡ true → label b ≡ true → below a b ≡ true → below b a ≡ true → a ≡ b
  pub transitive : (a b c : ℕ) → label a ≡ true → label b ≡ true → label c ≡ true → below a b ≡ true → below b c ≡ true → below a c ≡ true
  pub zero_is_least : (a : ℕ) → label a ≡ true → below 0 a ≡ true
  pub union_is_label : (a b : ℕ) → label a ≡ true → label b ≡ true → label (union a b) ≡ true
  pub left : (a b : ℕ) → label a ≡ true → label b ≡ true → below a (union a b) ≡ true
  pub right : (a b : ℕ) → label a ≡ true → label b ≡ true → below b (union a b) ≡ true
  pub union_is_least : (a b c : ℕ) → label a ≡ true → label b ≡ true → label c ≡ true → below a c ≡ true → below b c ≡ true → below (union a b) c ≡ true

module _ (kind p q bound : ℕ) (label : ℕ → Bool) (below : ℕ → ℕ → Bool) (union : ℕ → ℕ → ℕ) (named : (kind < 16) × (p < 16) × (q < 16)) (laws : LawsOn bound label below union) where
  abbrev m : Meaning
  m = order_on kind p q bound label below union

  lies_below : (a b : Tag) → Flows m a b → below a.0 b.0 ≡ true
  lies_below a b h = (and_parts (both label a.0 b.0) (below a.0 b.0) h).1

  flowing : (a b : Tag) → Label m a → Label m b → below a.0 b.0 ≡ true → Flows m a b
  flowing a b h k e = and_from (both label a.0 b.0) (below a.0 b.0) (and_from (label a.0) (label b.0) h k) e

  joined : (a b : Tag) → Label m a → Label m b → m.join a b ≡ tag (union a.0 b.0)
  joined a b h k =
      ap tag (cond-true (both label a.0 b.0) (union a.0 b.0) 0 (and_from (label a.0) (label b.0) h k))

  join_label : (a b : Tag) → Label m a → Label m b → Label m (m.join a b)
  join_label a b h k = subst (Label m) (sym (joined a b h k)) (laws.union_is_label a.0 b.0 h k)

  pub lawful : Laws m
  lawful = record {
    name_fits = named;
    bound_fits = laws.bound_fits;
    below_bound = λ a h. laws.below_bound a.0 h;
    zero_is_label = laws.zero_is_label;
    reflexive = λ a h. flowing a a h h (laws.reflexive a.0 h);
    antisymmetric = λ a b h k s t. ap tag (laws.antisymmetric a.0 b.0 h k (lies_below a b s) (lies_below b a t));
    transitive = λ a b c h k l s t. flowing a c h l (laws.transitive a.0 b.0 c.0 h k l (lies_below a b s) (lies_below b c t));
    zero_is_least = λ a h. flowing (tag 0) a laws.zero_is_label h (laws.zero_is_least a.0 h);
    join_is_label = join_label;
    left_flows_to_join = λ a b h k. subst (Flows m a) (sym (joined a b h k)) (flowing a (tag (union a.0 b.0)) h (laws.union_is_label a.0 b.0 h k) (laws.left a.0 b.0 h k));
    right_flows_to_join = λ a b h k. subst (Flows m b) (sym (joined a b h k)) (flowing b (tag (union a.0 b.0)) k (laws.union_is_label a.0 b.0 h k) (laws.right a.0 b.0 h k));
    join_is_least = λ a b c h k l s t.
        subst (λ (x : Tag). Flows m x c) (sym (joined a b h k))
        (flowing (tag (union a.0 b.0)) c (laws.union_is_label a.0 b.0 h k) l (laws.union_is_least a.0 b.0 c.0 h k l (lies_below a c s) (lies_below b c t)));
    only_labels_flow = λ a b h. and_left (both label a.0 b.0) (below a.0 b.0) h;
    only_labels_join = λ a b h. ap tag (cond-false (both label a.0 b.0) (union a.0 b.0) 0 h);
  }

-- two-point
two_point_laws : LawsOn 2 (below_all 2) leb max
two_point_laws = record {
  bound_fits = (omega arith, omega arith);
  below_bound = λ a h. ltb-true a 2 h;
  zero_is_label = refl;
  reflexive = λ a _. le-leb a a (omega arith);
  antisymmetric = λ a b _ _ s t. omega (arith, leb-true a b s, leb-true b a t);
  transitive = λ a b c _ _ _ s t. le-leb a c (omega (arith, leb-true a b s, leb-true b c t));
  zero_is_least = λ a _. le-leb 0 a (omega arith);
  union_is_label = λ a b h k. lt-ltb (max a b) 2 (omega (arith, ltb-true a 2 h, ltb-true b 2 k));
  left = λ a b _ _. le-leb a (max a b) (omega arith);
  right = λ a b _ _. le-leb b (max a b) (omega arith);
  union_is_least = λ a b c _ _ _ s t. le-leb (max a b) c (omega (arith, leb-true a c s, leb-true b c t));
}

pub two_point_lawful : Laws two_point
two_point_lawful = lawful 1 0 0 2 (below_all 2) leb max (omega arith, omega arith, omega arith) two_point_laws

-- barred sets
barred_sets_laws : (p : ℕ) → p < 16 → LawsOn (2 ^ (p + 1)) (below_all (2 ^ (p + 1))) subset bit_or
barred_sets_laws p h =
    let n : ℕ = 2 ^ (p + 1) in
    let few : p + 1 ≤ 16 = omega arith in
    record {
      bound_fits = (pow_pos (p + 1), pow_mono few);
      below_bound = λ a k. ltb-true a n k;
      zero_is_label = lt-ltb 0 n (pow_pos (p + 1));
      reflexive = λ a _. subset_refl a;
      antisymmetric = λ a b _ _. subset_antisym a b;
      transitive = λ a b c _ _ _. subset_trans a b c;
      zero_is_least = λ a _. refl;
      union_is_label = λ a b k l. lt-ltb (bit_or a b) n (or_lt (p + 1) a b (ltb-true a n k) (ltb-true b n l));
      left = λ a b _ _. subset_left a b;
      right = λ a b _ _. subset_right a b;
      union_is_least = λ a b c _ _ _. union_subset a b c;
    }

pub barred_sets_lawful : (p : ℕ) → p < 16 → Laws (barred_sets p)
barred_sets_lawful p h = lawful 2 p 0 (2 ^ (p + 1)) (below_all (2 ^ (p + 1))) subset bit_or (omega arith, h, omega arith) (barred_sets_laws p h)

-- clearances: a label by its level and its set
module _ (q : ℕ) where
  cleared_parts : (a b : ℕ) → cleared_for q a b ≡ true → (level q a ≤ level q b) × (subset (compartments q a) (compartments q b) ≡ true)
  cleared_parts a b h =
      let s = and_parts (nat_le (level q a) (level q b)) (subset (compartments q a) (compartments q b)) h in
      (leb-true (level q a) (level q b) s.0, s.1)

  cleared : (a b : ℕ) → level q a ≤ level q b → subset (compartments q a) (compartments q b) ≡ true → cleared_for q a b ≡ true
  cleared a b h k =
      and_from (nat_le (level q a) (level q b)) (subset (compartments q a) (compartments q b)) (le-leb (level q a) (level q b) h) k

  union_fits : (a b : ℕ) → bit_or (compartments q a) (compartments q b) < 2 ^ q
  union_fits a b = or_lt q (compartments q a) (compartments q b) (mod_below a (2 ^ q) (pow_pos q)) (mod_below b (2 ^ q) (pow_pos q))

  join_level : (a b : ℕ) → level q (clearance_join q a b) ≡ max (level q a) (level q b)
  join_level a b = div-mul-add (max (level q a) (level q b)) (2 ^ q) (bit_or (compartments q a) (compartments q b)) (union_fits a b)

  join_compartments : (a b : ℕ) → compartments q (clearance_join q a b) ≡ bit_or (compartments q a) (compartments q b)
  join_compartments a b = mod-mul-add (max (level q a) (level q b)) (2 ^ q) (bit_or (compartments q a) (compartments q b)) (union_fits a b)

  cleared_antisym : (a b : ℕ) → cleared_for q a b ≡ true → cleared_for q b a ≡ true → a ≡ b
  cleared_antisym a b h k =
      let s = cleared_parts a b h in
      let t = cleared_parts b a k in
      let same : level q a ≡ level q b = omega arith in
      let set = subset_antisym (compartments q a) (compartments q b) s.1 t.1 in
      sym (shr_split a q) ∙ ap (λ x. x * 2 ^ q + a % 2 ^ q) same ∙ ap (λ x. b / 2 ^ q * 2 ^ q + x) set ∙ shr_split b q

  cleared_trans : (a b c : ℕ) → cleared_for q a b ≡ true → cleared_for q b c ≡ true → cleared_for q a c ≡ true
  cleared_trans a b c h k =
      let s = cleared_parts a b h in
      let t = cleared_parts b c k in
      cleared a c (omega arith) (subset_trans (compartments q a) (compartments q b) (compartments q c) s.1 t.1)

  join_below : (levels a b : ℕ) → a < levels * 2 ^ q → b < levels * 2 ^ q → clearance_join q a b < levels * 2 ^ q
  join_below levels a b h k =
      let la = div_below a (2 ^ q) levels (pow_pos q) h in
      let lb = div_below b (2 ^ q) levels (pow_pos q) k in
      omega (arith, mul-add-lt (max (level q a) (level q b)) (2 ^ q) (bit_or (compartments q a) (compartments q b)) levels (omega arith) (union_fits a b))

  join_above : (a b x : ℕ) → level q x ≤ max (level q a) (level q b) → subset (compartments q x) (bit_or (compartments q a) (compartments q b)) ≡ true → cleared_for q x (clearance_join q a b) ≡ true
  join_above a b x h k =
      cleared x (clearance_join q a b) (omega (arith, join_level a b))
      (subst (λ (y : ℕ). subset (compartments q x) y ≡ true) (sym (join_compartments a b)) k)

  join_least : (a b c : ℕ) → cleared_for q a c ≡ true → cleared_for q b c ≡ true → cleared_for q (clearance_join q a b) c ≡ true
  join_least a b c h k =
      let s = cleared_parts a c h in
      let t = cleared_parts b c k in
      cleared (clearance_join q a b) c (omega (arith, join_level a b))
      (subst (λ (x : ℕ). subset x (compartments q c) ≡ true) (sym (join_compartments a b)) (union_subset (compartments q a) (compartments q b) (compartments q c) s.1 t.1))

  pub clearances_fit : (p : ℕ) → p < 16 → q ≤ 12 → (1 ≤ (p + 1) * 2 ^ q) × ((p + 1) * 2 ^ q ≤ 65536)
  clearances_fit p h k =
      let some = pow_pos q in
      let few : 2 ^ q ≤ 4096 = pow_mono k in
      (omega (arith, mul-le 1 1 (p + 1) (2 ^ q) (omega arith) some), omega (arith, mul-le (p + 1) (2 ^ q) 16 4096 (omega arith) few))

  clearances_laws : (p : ℕ) → p < 16 → q ≤ 12 → LawsOn ((p + 1) * 2 ^ q) (below_all ((p + 1) * 2 ^ q)) (cleared_for q) (clearance_join q)
  clearances_laws p h k =
      let n : ℕ = (p + 1) * 2 ^ q in
      let fit = clearances_fit p h k in
      record {
        bound_fits = fit;
        below_bound = λ a l. ltb-true a n l;
        zero_is_label = lt-ltb 0 n fit.0;
        reflexive = λ a _. cleared a a (omega arith) (subset_refl (compartments q a));
        antisymmetric = λ a b _ _. cleared_antisym a b;
        transitive = λ a b c _ _ _. cleared_trans a b c;
        zero_is_least = λ a _. cleared 0 a (rw (zero-div (2 ^ q)) (omega arith)) (rw (zero-mod (2 ^ q)) refl);
        union_is_label = λ a b s t. lt-ltb (clearance_join q a b) n (join_below (p + 1) a b (ltb-true a n s) (ltb-true b n t));
        left = λ a b _ _. join_above a b a (omega arith) (subset_left (compartments q a) (compartments q b));
        right = λ a b _ _. join_above a b b (omega arith) (subset_right (compartments q a) (compartments q b));
        union_is_least = λ a b c _ _ _. join_least a b c;
      }

pub clearances_lawful : (p q : ℕ) → p < 16 → q ≤ 12 → Laws (clearances p q)
clearances_lawful p q h k = lawful 3 p q ((p + 1) * 2 ^ q) (below_all ((p + 1) * 2 ^ q)) (cleared_for q) (clearance_join q) (omega arith, h, omega arith) (clearances_laws q p h k)

-- a join of clearances fits a tag
pub clearance_join_fits : (p q a b : ℕ) → p < 16 → q ≤ 12 → a < (p + 1) * 2 ^ q → b < (p + 1) * 2 ^ q → clearance_join q a b < 65536
clearance_join_fits p q a b h k la lb = omega (arith, join_below q (p + 1) a b la lb, (clearances_fit q p h k).1)
