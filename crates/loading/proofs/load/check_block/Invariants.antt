-- The loop over the entries of a block: the check from here on is the whole check.
use Rattle.std.proofs.Common.{◌≡◌, ℕ, ◌+◌, List, map, drop}
use Rattle.labels.specs.Order.{Meaning}
use Rattle.image.specs.declared.entry.CodeEntry.{CodeEntry}
use Rattle.image.specs.Load.{check_labels}
use Rattle.loading.proofs.load.check_block.Given as goal

-- whatever the elements are read as entries by
abbrev RestChecked : {E : Type 0} → (E → CodeEntry → Type 0) → Meaning → ℕ → List E → ℕ → Type 0
RestChecked {E} reads_as m before es i =
    (read : E → CodeEntry) → ((e : E) (entry : CodeEntry) → reads_as e entry → entry ≡ read e)
    → check_labels m.label (before + i + 1) (map (λ (e : E). (read e).tag) (drop i es)) ≡ check_labels m.label (before + 1) (map (λ (e : E). (read e).tag) es)

abbrev pub invariant-loop-i : goal.invariant-loop-i
invariant-loop-i g l = RestChecked g.E.Into.converts (g.O.Order.meaning l.order) l.before l.entries l.i
