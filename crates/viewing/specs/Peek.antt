-- What a peek shows: one register or cell after the end.
use Rattle.std.specs.Prelude.{ℕ, Bool, List, None, Option, Result, nat_le, nat_lt}
use Rattle.labels.specs.Order.{Meaning}
use Rattle.labels.specs.declared.cell.Tag.{Tag}
use Rattle.labels.specs.declared.cell.Cell.{Cell}
use Rattle.labels.specs.declared.refusal.Refusal.{Refusal}
use Rattle.labels.specs.declared.refusal.Refusal.TheVariants.{NoEndMark, OutOfRange}
use Rattle.image.specs.Load.{check, answer}
use Rattle.machine.specs.Machine.{register}
use Rattle.machine.specs.Effect.{MachineState, cell_at}
use Rattle.observer.specs.Observer.{shown}
use Rattle.viewing.specs.declared.peek.Location.{Location}
use Rattle.viewing.specs.declared.peek.Location.TheVariants.{RegisterNumber, CellNumber}
use Rattle.sitting.specs.declared.sitting.Opening.{Opening}
use Rattle.sitting.specs.Sitting.{Standing, machine_state}
use Rattle.viewing.specs.Page.{reader_of, has_end_mark, look_refusal}

-- sixteen registers, and as many cells as the header counts
abbrev pub in_range : Opening → Location → Bool
in_range o (RegisterNumber n) = nat_le n 15
in_range o (CellNumber n) = nat_lt n o.header.counts.cells

-- what stands at a location
abbrev pub cell_there : MachineState → Location → Cell
cell_there s (RegisterNumber n) = register s.held n
cell_there s (CellNumber n) = cell_at s.cells n

module _ (sees : Tag → Bool) where
  -- There is nothing to peek at before the end mark, whatever the number.
  abbrev pub peek_refusal_for : Meaning → Standing → List ℕ → List Cell → List Cell → Location → Option Refusal
  peek_refusal_for m s image cells outputs at =
      look_refusal m s image cells outputs (check (has_end_mark sees s) NoEndMark (check (in_range s.opening at) OutOfRange None))

  -- It answers word and tag where the tag is seen, else none.
  abbrev pub peek_answer_for : Meaning → Standing → List ℕ → List Cell → List Cell → Location → Result (Option Cell) Refusal
  peek_answer_for m s image cells outputs at =
      answer (peek_refusal_for m s image cells outputs at) (shown sees (cell_there (machine_state s cells outputs) at))

-- A sitting's peek is its reader's.
abbrev pub peek_refusal : Meaning → Standing → List ℕ → List Cell → List Cell → Location → Option Refusal
peek_refusal m s image cells outputs at = peek_refusal_for (reader_of m s) m s image cells outputs at

abbrev pub peek_answer : Meaning → Standing → List ℕ → List Cell → List Cell → Location → Result (Option Cell) Refusal
peek_answer m s image cells outputs at = peek_answer_for (reader_of m s) m s image cells outputs at
