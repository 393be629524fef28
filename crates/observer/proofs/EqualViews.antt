-- What equal views say of registers, cells and outputs.
use Rattle.std.proofs.Common.{◌≡◌, ℕ, Bool, List, map, length, get_or, take, Option, sym, ap, ◌∙◌}
use lib.ListN.{get_or-map}
use Rattle.std.proofs.lemmas.List.{length-map}
use Rattle.labels.specs.declared.cell.Tag.{Tag}
use Rattle.labels.specs.declared.cell.Cell.{Cell}
use Rattle.machine.specs.Machine.{zero_cell, register}
use Rattle.machine.specs.Effect.{MachineState, cell_at}
use Rattle.observer.specs.Observer.{shown, seen_cells}
use Rattle.observer.specs.View.{View, view}

module _ (sees : Tag → Bool) where
  shown_at : (cs ds : List Cell) → map (shown sees) cs ≡ map (shown sees) ds → (n : ℕ) → shown sees (get_or cs n zero_cell) ≡ shown sees (get_or ds n zero_cell)
  shown_at cs ds e n =
      sym (get_or-map (shown sees) cs n zero_cell) ∙ ap (λ (l : List (Option Cell)). get_or l n (shown sees zero_cell)) e ∙ get_or-map (shown sees) ds n zero_cell

  module _ (h h' : Bool) (s s' : MachineState) (same : view sees h s ≡ view sees h' s') where
    pub same_register : (n : ℕ) → shown sees (register s.held n) ≡ shown sees (register s'.held n)
    same_register = shown_at s.held.registers s'.held.registers (ap (λ (v : View). v.registers) same)

    pub same_cell : (n : ℕ) → shown sees (cell_at s.cells n) ≡ shown sees (cell_at s'.cells n)
    same_cell = shown_at s.cells s'.cells (ap (λ (v : View). v.cells) same)

    pub same_cell_count : length s.cells ≡ length s'.cells
    same_cell_count = sym (length-map s.cells (shown sees)) ∙ ap (λ (v : View). length v.cells) same ∙ length-map s'.cells (shown sees)

    pub same_outputs : seen_cells sees (take s.held.outputs s.output_places) ≡ seen_cells sees (take s'.held.outputs s'.output_places)
    same_outputs = ap (λ (v : View). v.outputs) same
