-- What the flow rules come to, case by case; and that a grant's tags are labels.
use Rattle.std.proofs.Common.{◌≡◌, ℕ, ◌<◌, Bool, true, false, not, ◌&&◌, ◌||◌, eqb, List, [], ◌∷◌, Ok, Err, sym, refl, subst, ⊎_elim, arith}
use lib.Bits.{bit_and}
use Rattle.std.proofs.lemmas.Bool.{true≢false, and_parts, and_from, cond_both, cases_Bool, leb-true}
use Rattle.labels.specs.Order.{Meaning, Laws, Label}
use Rattle.labels.specs.declared.cell.Tag.{Tag}
use Rattle.rules.specs.Book.{Verdict}
use Rattle.rules.specs.Rules.{Input, P, I, D, A, B, M, tag_of, weight, Rule, rule, ruled}
use Rattle.rules.specs.Flow.{unused_or, each_used, join_all, joined, holds, caused, failed, by_rule, flow}
use Rattle.rules.specs.declared.query.Query.{Query}
use Rattle.rules.proofs.Classes.{each_below}

-- the parts of a test of each used tag
pub record Used (test : Tag → Bool) (mask : ℕ) (q : Query) : Type 0 where
  pub pc : unused_or test mask 32 q.pc ≡ true
  pub instruction : unused_or test mask 16 q.instruction ≡ true
  pub d : unused_or test mask 8 q.d ≡ true
  pub a : unused_or test mask 4 q.a ≡ true
  pub b : unused_or test mask 2 q.b ≡ true
  pub memory : unused_or test mask 1 q.memory ≡ true

pub used_parts : (test : Tag → Bool) (mask : ℕ) (q : Query) → each_used test mask q ≡ true → Used test mask q
used_parts test mask q h =
    let p = unused_or test mask 32 q.pc in
    let i = unused_or test mask 16 q.instruction in
    let d = unused_or test mask 8 q.d in
    let a = unused_or test mask 4 q.a in
    let b = unused_or test mask 2 q.b in
    let m = unused_or test mask 1 q.memory in
    let s5 = and_parts (p && i && d && a && b) m h in
    let s4 = and_parts (p && i && d && a) b s5.0 in
    let s3 = and_parts (p && i && d) a s4.0 in
    let s2 = and_parts (p && i) d s3.0 in
    let s1 = and_parts p i s2.0 in
    record { pc = s1.0; instruction = s1.1; d = s2.1; a = s3.1; b = s4.1; memory = s5.1 }

used_from : (test : Tag → Bool) (mask : ℕ) (q : Query) → Used test mask q → each_used test mask q ≡ true
used_from test mask q u =
    and_from _ _ (and_from _ _ (and_from _ _ (and_from _ _ (and_from _ _ u.pc u.instruction) u.d) u.a) u.b) u.memory

weaker_at : (x y z : Bool) → (y ≡ true → z ≡ true) → (x || y) ≡ true → (x || z) ≡ true
weaker_at true y z w h = refl
weaker_at false y z w h = w h

-- what each used tag passes, it passes by a weaker test
pub used_weaker : (test other : Tag → Bool) → ((t : Tag) → test t ≡ true → other t ≡ true) → (mask : ℕ) (q : Query) → each_used test mask q ≡ true → each_used other mask q ≡ true
used_weaker test other w mask q h =
    let u = used_parts test mask q h in
    let at = λ (s : ℕ) (t : Tag). weaker_at (eqb (bit_and mask s) 0) (test t) (other t) (w t) in
    used_from other mask q (record {
      pc = at 32 q.pc u.pc;
      instruction = at 16 q.instruction u.instruction;
      d = at 8 q.d u.d;
      a = at 4 q.a u.a;
      b = at 2 q.b u.b;
      memory = at 1 q.memory u.memory;
    })

module _ (m : Meaning) (q : Query) where
  pub flow_no_class : ruled q.class ≡ false → flow m q ≡ caused 4 tt
  unfolding flow
  flow_no_class h = rw h refl

  pub flow_no_label : ruled q.class ≡ true → each_used m.label (rule q.class).mask q ≡ false → flow m q ≡ caused 1 tt
  unfolding flow
  flow_no_label h l = rw (h, l) refl

  pub flow_rule : ruled q.class ≡ true → each_used m.label (rule q.class).mask q ≡ true → flow m q ≡ by_rule m q (rule q.class)
  unfolding flow
  flow_rule h l = rw (h, l) refl

-- the tags that a rule joins are used ones
abbrev named : ℕ → Input → Bool
named mask s = not (eqb (bit_and mask (weight s)) 0)

abbrev all_named : ℕ → List Input → Bool
all_named mask [] = true
all_named mask (s ∷ ss) = named mask s && all_named mask ss

rules_name : (k : ℕ) → k < 14 → (all_named (rule k).mask (rule k).next && all_named (rule k).mask (rule k).result) ≡ true
rules_name = each_below (λ k. (all_named (rule k).mask (rule k).next && all_named (rule k).mask (rule k).result) ≡ true) 14 ((((((((((((((tt, refl), refl), refl), refl), refl), refl), refl), refl), refl), refl), refl), refl), refl), refl)

passed : (b t : Bool) → not b ≡ true → (b || t) ≡ true → t ≡ true
passed true t h u = absurd (true≢false (sym h))
passed false t h u = u

module _ (m : Meaning) (laws : Laws m) (q : Query) (mask : ℕ) (u : Used m.label mask q) where
  used_label : (s : Input) → named mask s ≡ true → Label m (tag_of s q)
  used_label P h = passed (eqb (bit_and mask 32) 0) _ h u.pc
  used_label I h = passed (eqb (bit_and mask 16) 0) _ h u.instruction
  used_label D h = passed (eqb (bit_and mask 8) 0) _ h u.d
  used_label A h = passed (eqb (bit_and mask 4) 0) _ h u.a
  used_label B h = passed (eqb (bit_and mask 2) 0) _ h u.b
  used_label M h = passed (eqb (bit_and mask 1) 0) _ h u.memory

  join_label : (ss : List Input) (t : Tag) → Label m t → all_named mask ss ≡ true → Label m (join_all m q t ss)
  join_label [] t l h = l
  join_label (s ∷ ss) t l h =
      let p = and_parts (named mask s) (all_named mask ss) h in
      join_label ss (m.join t (tag_of s q)) (laws.join_is_label t (tag_of s q) l (used_label s p.0)) p.1

  joined_label : (ss : List Input) → all_named mask ss ≡ true → Label m (joined m q ss)
  joined_label [] h = laws.zero_is_label
  joined_label (s ∷ ss) h =
      let p = and_parts (named mask s) (all_named mask ss) h in
      join_label ss (tag_of s q) (used_label s p.0) p.1

-- both tags of a grant are labels
abbrev pub GrantsLabels : Meaning → Verdict → Type 0
GrantsLabels m (Ok g) = Label m g.0 × Label m g.1
GrantsLabels m (Err x) = Unit {0}

rule_grants_labels : (m : Meaning) → Laws m → (q : Query) → ruled q.class ≡ true → each_used m.label (rule q.class).mask q ≡ true → GrantsLabels m (by_rule m q (rule q.class))
rule_grants_labels m laws q h l =
    let r : Rule = rule q.class in
    let u = used_parts m.label r.mask q l in
    let low : q.class < 14 = omega (arith, leb-true q.class 13 h) in
    let s = and_parts (all_named r.mask r.next) (all_named r.mask r.result) (rules_name q.class low) in
    let next = joined_label m laws q r.mask u r.next s.0 in
    let result = joined_label m laws q r.mask u r.result s.1 in
    cond_both (holds m q r.condition) (Ok (joined m q r.next, joined m q r.result)) (failed q.class) (GrantsLabels m)
    (λ _. (next, result))
    (λ _. cond_both (eqb q.class 5) (caused 3 tt) (caused 2 tt) (GrantsLabels m) (λ _. tt) (λ _. tt))

pub flow_grants_labels : (m : Meaning) → Laws m → (q : Query) → GrantsLabels m (flow m q)
flow_grants_labels m laws q =
    ⊎_elim
    (λ (h : ruled q.class ≡ true).
    ⊎_elim
    (λ (l : each_used m.label (rule q.class).mask q ≡ true). subst (GrantsLabels m) (sym (flow_rule m q h l)) (rule_grants_labels m laws q h l))
    (λ (l : each_used m.label (rule q.class).mask q ≡ false). subst (GrantsLabels m) (sym (flow_no_label m q h l)) tt)
    (cases_Bool (each_used m.label (rule q.class).mask q)))
    (λ (h : ruled q.class ≡ false). subst (GrantsLabels m) (sym (flow_no_class m q h)) tt)
    (cases_Bool (ruled q.class))
