-- What a grant by the flow rules says: the used tags are labels, the condition holds, and the two tags are the rule's.
use Rattle.std.proofs.Common.{◌≡◌, true, false, eqb, Ok, Err, sym, refl, subst, ⊎_elim}
use Rattle.std.proofs.lemmas.Bool.{cond_both, cases_Bool}
use Rattle.labels.specs.Order.{Meaning}
use Rattle.labels.specs.declared.cell.Tag.{Tag}
use Rattle.rules.specs.Book.{Verdict}
use Rattle.rules.specs.declared.query.Query.{Query}
use Rattle.rules.specs.Rules.{rule, ruled}
use Rattle.rules.specs.Flow.{each_used, joined, holds, caused, failed, by_rule, flow}
use Rattle.rules.proofs.Judged.{Used, used_parts, flow_no_class, flow_no_label, flow_rule}

pub record GrantedByRule (m : Meaning) (q : Query) (tags : Tag × Tag) : Type 0 where
  pub labels : Used m.label (rule q.class).mask q
  pub condition : holds m q (rule q.class).condition ≡ true
  pub are : tags ≡ (joined m q (rule q.class).next, joined m q (rule q.class).result)

-- what is known where the rules grant, and nothing where they find a violation
abbrev Known : Meaning → Query → Verdict → Type 0
Known m q (Ok tags) = GrantedByRule m q tags
Known m q (Err x) = Unit {0}

known_by_rule : (m : Meaning) (q : Query) → Used m.label (rule q.class).mask q → Known m q (by_rule m q (rule q.class))
known_by_rule m q u =
    let r = rule q.class in
    cond_both (holds m q r.condition) (Ok (joined m q r.next, joined m q r.result)) (failed q.class) (Known m q)
    (λ h. record { labels = u; condition = h; are = refl })
    (λ _. cond_both (eqb q.class 5) (caused 3 tt) (caused 2 tt) (Known m q) (λ _. tt) (λ _. tt))

known : (m : Meaning) (q : Query) → Known m q (flow m q)
known m q =
    ⊎_elim
    (λ (h : ruled q.class ≡ true).
    ⊎_elim
    (λ (l : each_used m.label (rule q.class).mask q ≡ true). subst (Known m q) (sym (flow_rule m q h l)) (known_by_rule m q (used_parts m.label (rule q.class).mask q l)))
    (λ (l : each_used m.label (rule q.class).mask q ≡ false). subst (Known m q) (sym (flow_no_label m q h l)) tt)
    (cases_Bool (each_used m.label (rule q.class).mask q)))
    (λ (h : ruled q.class ≡ false). subst (Known m q) (sym (flow_no_class m q h)) tt)
    (cases_Bool (ruled q.class))

pub granted_by_rule : (m : Meaning) (q : Query) (tags : Tag × Tag) → Ok tags ≡ flow m q → GrantedByRule m q tags
granted_by_rule m q tags e = subst (Known m q) (sym e) (known m q)
