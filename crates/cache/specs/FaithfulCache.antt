-- Lemmas alone: a cache over a faithful engine is faithful, and a new one means what the engine below means.
use Rattle.std.specs.Prelude.{◌≡◌, ℕ, zero, suc, ◌<◌, Bool, true, false, cond, List, length, get_or, replicate, Some, None, Ok, Err, Option, slice_index_or, slice_set, refl}
use Rattle.std.proofs.Common.{sym, ap, subst, ◌∙◌, inl, inr, arith, get_or-set_same, get_or-set_other}
use Rattle.std.proofs.lemmas.Bool.Decides.{eqb_tells}
use Rattle.std.proofs.lemmas.Bool.{and_parts, eqb-true}
use Rattle.labels.specs.declared.cell.Tag.{Tag}
use Rattle.rules.specs.Book.{Verdict, Book}
use Rattle.rules.specs.declared.query.Query.{Query}
use Rattle.cache.specs.Lines.{with_record}
use Rattle.cache.specs.Line.{line_number, same_query, empty, line_with, grant_for}
use Rattle.cache.specs.RuleCache.{new_cache, grant_held, refilled, AskedBy, Asked, HeldBy, Right, Means}
use Rattle.cache.specs.declared.line.Line.{Line}
use Rattle.cache.specs.declared.lines.Lines.{Lines}
use Rattle.cache.specs.declared.rule_cache.RuleCache.{RuleCache}

same_is_equal : (p q : Query) → same_query p q ≡ true → p ≡ q
same_is_equal p q e =
    let s0 = and_parts _ _ e in
    let s1 = and_parts _ _ s0.1 in
    let s2 = and_parts _ _ s1.1 in
    let s3 = and_parts _ _ s2.1 in
    let s4 = and_parts _ _ s3.1 in
    let s5 = and_parts _ _ s4.1 in
    let class = eqb-true _ _ s0.0 in
    let pc = eqb-true _ _ s1.0 in
    let instruction = eqb-true _ _ s2.0 in
    let d = eqb-true _ _ s3.0 in
    let a = eqb-true _ _ s4.0 in
    let b = eqb-true _ _ s5.0 in
    let memory = eqb-true _ _ s5.1 in
    λ i. record { class = class i; pc = record { 0 = pc i }; instruction = record { 0 = instruction i }; d = record { 0 = d i }; a = record { 0 = a i }; b = record { 0 = b i }; memory = record { 0 = memory i } }

-- a line that holds the book's grant gives it
granted_if : (b : Book) (held : Query × (Tag × Tag)) (q : Query) (t : Bool) (grant : Tag × Tag) → same_query held.0 q ≡ t → b held.0 ≡ Ok held.1 → cond t (Some held.1) None ≡ Some grant → b q ≡ Ok grant
granted_if b held q true grant s h e = let same = same_is_equal held.0 q s in sym (ap b same) ∙ h ∙ (cc)
granted_if b held q false grant s h e = let z : ◌≡◌ {A = ℕ} 0 1 = cc in absurd (omega arith)

granted : (b : Book) (held : Option (Query × (Tag × Tag))) (q : Query) (grant : Tag × Tag) → HeldBy b held → grant_for held q ≡ Some grant → b q ≡ Ok grant
granted b None q grant h e = let z : ◌≡◌ {A = ℕ} 0 1 = cc in absurd (omega arith)
granted b (Some held) q grant h e = granted_if b held q (same_query held.0 q) grant refl h e

number_low : (q : Query) → line_number q < 64
number_low q = omega arith

-- the book's grant may take a line
filled : (b : Book) (lines : List Line) (k : ℕ) (q : Query) (grant : Tag × Tag) → k < length lines → b q ≡ Ok grant → ((i : ℕ) → Right b (slice_index_or lines i empty)) → (i : ℕ) → Right b (slice_index_or (slice_set lines k (line_with q grant)) i empty)
filled b lines k q grant h e all i =
    elim (eqb_tells i k) [
      | inl s ↦ subst (Right b) (sym (ap (λ j. get_or (slice_set lines k (line_with q grant)) j empty) s.1 ∙ get_or-set_same lines k (line_with q grant) empty h)) e
      | inr s ↦ subst (Right b) (sym (get_or-set_other lines k i (line_with q grant) empty s.1)) (all i)
    ]

refills : (b : Book) (t : Lines) (q : Query) (v : Verdict) → v ≡ b q → ((i : ℕ) → Right b (slice_index_or t.all i empty)) → (i : ℕ) → Right b (slice_index_or (refilled t q v).all i empty)
unfolding with_record
refills b t q (Ok grant) e all = let low = number_low q in let n = t.sized in filled b t.all (line_number q) q grant (omega arith) (sym e) all
refills b t q (Err x) e all = all

module _ {E : Type 0} (answers : E → Query → Verdict → E → Type 0) (means : E → Book → Type 0) (faithful : (before : E) (q : Query) (v : Verdict) (after : E) (b : Book) → answers before q v after → means before b → (v ≡ b q) × means after b) where
  faithful_at : (o : Option (Tag × Tag)) (before : RuleCache E) (q : Query) (v : Verdict) (after : RuleCache E) (b : Book) → grant_held before q ≡ o → AskedBy answers o before q v after → Means means before b → (v ≡ b q) × Means means after b
  faithful_at (Some grant) before q v after b o h m =
      (h.answer ∙ sym (granted b _ q grant (m.1 (line_number q)) o), subst (λ x. Means means x b) (sym h.exit) m)
  faithful_at None before q v after b o h m =
      let k = faithful before.engine q v after.engine b h.asked m.0 in
      (k.0, subst (λ x. Means means x b) (sym h.exit) (k.1, refills b before.lines q v k.0 m.1))

  pub cache_faithful : (before : RuleCache E) (q : Query) (v : Verdict) (after : RuleCache E) (b : Book) → Asked answers before q v after → Means means before b → (v ≡ b q) × Means means after b
  cache_faithful before q v after b = faithful_at (grant_held before q) before q v after b refl

-- empty lines hold nothing wrong
all_empty : (b : Book) (n i : ℕ) → Right b (slice_index_or (replicate n empty) i empty)
all_empty b zero i = tt
all_empty b (suc n) zero = tt
all_empty b (suc n) (suc i) = all_empty b n i

pub new_means : {E : Type 0} (means : E → Book → Type 0) (e : E) (b : Book) → means e b → Means means (new_cache e) b
new_means means e b m = (m, λ i. all_empty b 64 i)
