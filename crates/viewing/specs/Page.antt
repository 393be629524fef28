-- What a page shows: the visible outputs and the end mark.
use Rattle.std.specs.Prelude.{ℕ, Bool, not, ◌&&◌, List, length, take, Option, Result}
use Rattle.labels.specs.Order.{Meaning, is_named}
use Rattle.labels.specs.declared.cell.Tag.{Tag}
use Rattle.labels.specs.declared.cell.Cell.{Cell}
use Rattle.labels.specs.declared.refusal.Refusal.{Refusal}
use Rattle.labels.specs.declared.refusal.Refusal.TheVariants.{WrongLength, WrongState, WrongOrder}
use Rattle.image.specs.Load.{check, answer, unless_refused}
use Rattle.observer.specs.Observer.{reader, seen_cells}
use Rattle.observer.specs.Visible.{room_refusal, written_over}
use Rattle.viewing.specs.declared.page.Page.{Page}
use Rattle.sitting.specs.Sitting.{Standing, is_blank, is_halted, lengths_fit}

-- the reader of a sitting, as an observer
abbrev pub reader_of : Meaning → Standing → Tag → Bool
reader_of m s = reader m s.opening.header.reader

-- the outputs so far that an observer sees, in their order
abbrev pub visible_outputs : (Tag → Bool) → Standing → List Cell → List Cell
visible_outputs sees s outputs = seen_cells sees (take s.machine.outputs outputs)

-- The end mark is set when the sitting is halted and its pc tag is seen.
abbrev pub has_end_mark : (Tag → Bool) → Standing → Bool
has_end_mark sees s = is_halted s.state && sees s.machine.pc_tag

-- the checks that page and peek share: an opened sitting, its order, and memory of the opening's lengths
abbrev pub look_refusal : Meaning → Standing → List ℕ → List Cell → List Cell → Option Refusal → Option Refusal
look_refusal m s image cells outputs next =
    check (not (is_blank s.state)) WrongState
    (check (is_named m s.opening.header.order) WrongOrder
    (check (lengths_fit s.opening image cells outputs) WrongLength next))

module _ (sees : Tag → Bool) where
  -- and the page list has room for what the observer sees
  abbrev pub page_refusal_for : Meaning → Standing → List ℕ → List Cell → List Cell → List Cell → Option Refusal
  page_refusal_for m s image cells outputs page =
      look_refusal m s image cells outputs (room_refusal (visible_outputs sees s outputs) page)

  -- A page answers how many outputs the observer sees, and the end mark.
  abbrev pub page_answer_for : Meaning → Standing → List ℕ → List Cell → List Cell → List Cell → Result Page Refusal
  page_answer_for m s image cells outputs page =
      answer (page_refusal_for m s image cells outputs page)
      (record { outputs = length (visible_outputs sees s outputs); end_mark = has_end_mark sees s })

  -- These outputs, tags included, are written to the front of the page list, and the rest of it is left.
  abbrev pub page_written_for : Meaning → Standing → List ℕ → List Cell → List Cell → List Cell → List Cell
  page_written_for m s image cells outputs page =
      unless_refused (page_refusal_for m s image cells outputs page) page (written_over (visible_outputs sees s outputs) page)

-- A sitting's page is its reader's.
abbrev pub page_refusal : Meaning → Standing → List ℕ → List Cell → List Cell → List Cell → Option Refusal
page_refusal m s image cells outputs page = page_refusal_for (reader_of m s) m s image cells outputs page

abbrev pub page_answer : Meaning → Standing → List ℕ → List Cell → List Cell → List Cell → Result Page Refusal
page_answer m s image cells outputs page = page_answer_for (reader_of m s) m s image cells outputs page

abbrev pub page_written : Meaning → Standing → List ℕ → List Cell → List Cell → List Cell → List Cell
page_written m s image cells outputs page = page_written_for (reader_of m s) m s image cells outputs page
