-- The loop over the blocks: the check of what is left is the whole check.
use Rattle.std.proofs.Common.{◌≡◌, ℕ, ◌+◌, List, map, length}
use Rattle.std.specs.Slice.Iter.{chunks_rest, chunks_size}
use Rattle.labels.specs.Order.{Meaning}
use Rattle.image.specs.declared.entry.CodeEntry.{CodeEntry}
use Rattle.image.specs.Load.{check_labels}
use Rattle.loading.proofs.load.check_entries.Given as goal

-- whatever the elements are read as entries by
abbrev pub LeftChecked : {E : Type 0} → (E → CodeEntry → Type 0) → Meaning → ℕ → List E → ℕ → List E → Type 0
LeftChecked {E} reads_as m before es so_far left =
    (read : E → CodeEntry) → ((e : E) (entry : CodeEntry) → reads_as e entry → entry ≡ read e)
    → check_labels m.label (so_far + 1) (map (λ (e : E). (read e).tag) left) ≡ check_labels m.label (before + 1) (map (λ (e : E). (read e).tag) es)

abbrev pub invariant-loop-block : goal.invariant-loop-block
invariant-loop-block g l =
    (goal.iterator-loop-block g).can_next l.block-iterator
    × (goal.iterator-loop-block g).is_finite l.block-iterator
    × (chunks_size l.block-iterator ≡ 64)
    × (l.so_far + length (chunks_rest l.block-iterator) ≡ l.before + length l.entries)
    × LeftChecked g.E.Into.converts (g.O.Order.meaning l.order) l.before l.entries l.so_far (chunks_rest l.block-iterator)
