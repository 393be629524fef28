-- The loop over the entries: if those so far are labelled, the check from here on is the whole check.
use Rattle.std.proofs.Common.{◌≡◌, ℕ, List, Bool, true, None, map, drop}
use Rattle.labels.specs.Order.{Meaning}
use Rattle.image.specs.declared.entry.CodeEntry.{CodeEntry}
use Rattle.image.specs.Load.{check_labels}
use Rattle.loading.proofs.load.all_labelled.Given as goal

-- whatever the elements are read as entries by
abbrev RestDecides : {E : Type 0} → (E → CodeEntry → Type 0) → Meaning → List E → Bool → ℕ → Type 0
RestDecides {E} reads_as m es all i =
    (read : E → CodeEntry) → ((e : E) (entry : CodeEntry) → reads_as e entry → entry ≡ read e)
    → all ≡ true → ((place : ℕ) → check_labels m.label place (map (λ (e : E). (read e).tag) (drop i es)) ≡ None)
    → (place : ℕ) → check_labels m.label place (map (λ (e : E). (read e).tag) es) ≡ None

abbrev pub invariant-loop-entry : goal.invariant-loop-entry
invariant-loop-entry g l = RestDecides g.E.Into.converts (g.O.Order.meaning l.order) l.entries l.all l.entry-index
