-- What an observer does not see: tags above an unseen one, and so the joins of the rules that use it.
use Rattle.std.proofs.Common.{◌≡◌, ℕ, Bool, true, false, not, ◌&&◌, ◌||◌, eqb, List, [], ◌∷◌, sym, ◌∙◌, ⊎_elim}
use lib.Bits.{bit_and}
use Rattle.std.proofs.lemmas.Bool.{true≢false, and_parts, cases_Bool}
use Rattle.labels.specs.Order.{Meaning, Laws, Label, Flows}
use Rattle.labels.specs.declared.cell.Tag.{Tag}
use Rattle.rules.specs.declared.query.Query.{Query}
use Rattle.rules.specs.Rules.{Input, P, I, D, A, B, M, tag_of, weight}
use Rattle.rules.specs.Flow.{join_all, joined}
use Rattle.rules.proofs.Judged.{Used}
use Rattle.observer.specs.Observer.{Downward, reader}

-- only labels flow
flows_labels : (m : Meaning) → Laws m → (a b : Tag) → Flows m a b → (m.label a && m.label b) ≡ true
flows_labels m laws a b f =
    ⊎_elim (λ both. both) (λ none. absurd (true≢false (sym f ∙ laws.only_labels_flow a b none))) (cases_Bool (m.label a && m.label b))

-- Every reader is an observer, whether or not his tag is a label.
pub reader_downward : (m : Meaning) → Laws m → (label : Tag) → Downward m (reader m label)
reader_downward m laws r a b f h =
    let ab = and_parts (m.label a) (m.label b) (flows_labels m laws a b f) in
    let br = and_parts (m.label b) (m.label r) (flows_labels m laws b r h) in
    laws.transitive a b r ab.0 ab.1 br.1 f h

-- the tag of an input is used by a rule with this mask
abbrev used_by : ℕ → Input → Bool
used_by mask s = not (eqb (bit_and mask (weight s)) 0)

abbrev all_used : ℕ → List Input → Bool
all_used mask [] = true
all_used mask (s ∷ ss) = used_by mask s && all_used mask ss

-- one of some inputs has an unseen tag
pub data OneUnseen (sees : Tag → Bool) (q : Query) : List Input → Type 0 where
  this : {s : Input} {ss : List Input} → sees (tag_of s q) ≡ false → OneUnseen sees q (s ∷ ss)
  later : {s : Input} {ss : List Input} → OneUnseen sees q ss → OneUnseen sees q (s ∷ ss)

passed : (b t : Bool) → not b ≡ true → (b || t) ≡ true → t ≡ true
passed true t h u = absurd (true≢false (sym h))
passed false t h u = u

module _ (m : Meaning) (laws : Laws m) (sees : Tag → Bool) (down : Downward m sees) where
  pub unseen_above : (a b : Tag) → Flows m a b → sees a ≡ false → sees b ≡ false
  unseen_above a b f h = ⊎_elim (λ seen. absurd (true≢false (sym (down a b f seen) ∙ h))) (λ unseen. unseen) (cases_Bool (sees b))

  module _ (q : Query) (mask : ℕ) (u : Used m.label mask q) where
    used_label : (s : Input) → used_by mask s ≡ true → Label m (tag_of s q)
    used_label P h = passed (eqb (bit_and mask 32) 0) _ h u.pc
    used_label I h = passed (eqb (bit_and mask 16) 0) _ h u.instruction
    used_label D h = passed (eqb (bit_and mask 8) 0) _ h u.d
    used_label A h = passed (eqb (bit_and mask 4) 0) _ h u.a
    used_label B h = passed (eqb (bit_and mask 2) 0) _ h u.b
    used_label M h = passed (eqb (bit_and mask 1) 0) _ h u.memory

    -- the join of an unseen tag with others is unseen
    join_stays_unseen : (ss : List Input) (t : Tag) → Label m t → all_used mask ss ≡ true → sees t ≡ false → sees (join_all m q t ss) ≡ false
    join_stays_unseen [] t l h unseen = unseen
    join_stays_unseen (s ∷ ss) t l h unseen =
        let p = and_parts (used_by mask s) (all_used mask ss) h in
        let k = used_label s p.0 in
        join_stays_unseen ss (m.join t (tag_of s q)) (laws.join_is_label t (tag_of s q) l k) p.1
        (unseen_above t (m.join t (tag_of s q)) (laws.left_flows_to_join t (tag_of s q) l k) unseen)

    join_becomes_unseen : (ss : List Input) (t : Tag) → Label m t → all_used mask ss ≡ true → OneUnseen sees q ss → sees (join_all m q t ss) ≡ false
    join_becomes_unseen [] t l h one = elim one [ ]
    join_becomes_unseen (s ∷ ss) t l h (this unseen) =
        let p = and_parts (used_by mask s) (all_used mask ss) h in
        let k = used_label s p.0 in
        join_stays_unseen ss (m.join t (tag_of s q)) (laws.join_is_label t (tag_of s q) l k) p.1
        (unseen_above (tag_of s q) (m.join t (tag_of s q)) (laws.right_flows_to_join t (tag_of s q) l k) unseen)
    join_becomes_unseen (s ∷ ss) t l h (later one) =
        let p = and_parts (used_by mask s) (all_used mask ss) h in
        join_becomes_unseen ss (m.join t (tag_of s q)) (laws.join_is_label t (tag_of s q) l (used_label s p.0)) p.1 one

    -- The join of used tags, of which one is unseen, is unseen.
    pub unseen_join : (ss : List Input) → all_used mask ss ≡ true → OneUnseen sees q ss → sees (joined m q ss) ≡ false
    unseen_join [] h one = elim one [ ]
    unseen_join (s ∷ ss) h (this unseen) =
        let p = and_parts (used_by mask s) (all_used mask ss) h in
        join_stays_unseen ss (tag_of s q) (used_label s p.0) p.1 unseen
    unseen_join (s ∷ ss) h (later one) =
        let p = and_parts (used_by mask s) (all_used mask ss) h in
        join_becomes_unseen ss (tag_of s q) (used_label s p.0) p.1 one
