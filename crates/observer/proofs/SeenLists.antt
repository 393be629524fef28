-- Writing some cells over the front of a list, from a place on.
use Rattle.std.proofs.Common.{◌≡◌, ℕ, ◌+◌, ◌≤◌, List, ◌++◌, length, drop, ap, ◌∙◌, arith}
use Rattle.std.proofs.lemmas.List.Edits.{sets, sets-eq}
use Rattle.labels.specs.declared.cell.Cell.{Cell}

-- what writing some cells from a place on leaves, and that they have room
abbrev pub Writes : List Cell → ℕ → List Cell → List Cell → Type 0
Writes page place left written = (place + length left ≤ length page) × (sets page place left ≡ written)

pub writes_all : (page cells : List Cell) → length cells ≤ length page → Writes page 0 cells (cells ++ drop (length cells) page)
writes_all page cells h =
    let same : 0 + length cells ≡ length cells = omega arith in
    (omega arith, sets-eq cells page 0 (omega arith) ∙ ap (λ (n : ℕ). cells ++ drop n page) same)
