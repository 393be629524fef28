-- The check of a list of tags, in two parts, and what it answers.
use Rattle.std.proofs.Common.{◌≡◌, ℕ, ◌+◌, Bool, true, false, cond, List, [], ◌∷◌, ◌++◌, length, Some, None, Ok, Err, Option, refl, ap, ◌∙◌, arith}
use Rattle.std.proofs.lemmas.Bool.{cond-true}
use Rattle.labels.specs.declared.cell.Tag.{Tag}
use Rattle.labels.specs.declared.refusal.Refusal.{Refusal}
use Rattle.labels.specs.declared.refusal.Refusal.TheVariants.{NotALabel}
use Rattle.image.specs.Load.{check, answer, check_labels}

pub passed : (b : Bool) (refusal : Refusal) (next : Option Refusal) → check b refusal next ≡ None → (b ≡ true) × (next ≡ None)
passed true refusal next e = (refl, e)
passed false refusal next e = (cc, cc)

-- the check of tags behind others
module _ (label : Tag → Bool) where
  pub refused_before : (refusal : Refusal) (place : ℕ) (ts us : List Tag) → check_labels label place ts ≡ Some refusal → check_labels label place (ts ++ us) ≡ Some refusal
  refused_before refusal place [] us e = cc
  refused_before refusal place (t ∷ ts) us e = go (label t) (refused_before refusal (place + 1) ts us) e
    where
      go : (b : Bool) → (check_labels label (place + 1) ts ≡ Some refusal → check_labels label (place + 1) (ts ++ us) ≡ Some refusal)
          → cond b (check_labels label (place + 1) ts) (Some (NotALabel place)) ≡ Some refusal → cond b (check_labels label (place + 1) (ts ++ us)) (Some (NotALabel place)) ≡ Some refusal
      go true rest e = rest e
      go false rest e = e

  pub passed_before : (place : ℕ) (ts us : List Tag) → check_labels label place ts ≡ None → check_labels label place (ts ++ us) ≡ check_labels label (place + length ts) us
  passed_before place [] us e = ap (λ (p : ℕ). check_labels label p us) (omega arith)
  passed_before place (t ∷ ts) us e =
      let p = passed (label t) (NotALabel place) (check_labels label (place + 1) ts) e in
      let next : place + 1 + length ts ≡ place + length (t ∷ ts) = omega arith in
      cond-true (label t) _ _ p.0 ∙ passed_before (place + 1) ts us p.1 ∙ ap (λ (k : ℕ). check_labels label k us) next

pub was_refused : (o : Option Refusal) (refusal : Refusal) → Err refusal ≡ answer {A = Unit {0}} o tt → o ≡ Some refusal
was_refused None refusal e = cc
was_refused (Some other) refusal e = cc

pub was_passed : (o : Option Refusal) → Ok tt ≡ answer {A = Unit {0}} o tt → o ≡ None
was_passed None e = refl
was_passed (Some other) e = cc
