-- A written image opens to the start that it was written from.
use Rattle.std.specs.Prelude.{◌≡◌, ℕ, List, length, Ok}
use Rattle.labels.specs.Order.{Meaning}
use Rattle.labels.specs.declared.cell.Tag.{Tag}
use Rattle.labels.specs.declared.cell.Cell.{Cell}
use Rattle.image.specs.declared.entry.CodeEntry.{CodeEntry}
use Rattle.writing.specs.RoundTrip.{LoadsBack}
use Rattle.machine.specs.Machine.{start}
use Rattle.sitting.specs.declared.sitting.State.TheVariants.{Running}
use Rattle.sitting.specs.Sitting.{Standing, blank, code_of_sitting}
use Rattle.sitting.specs.Open.{after_call, opened}

-- Opening an image, with so many output places, is granted. The sitting then runs at the machine's start, and its reader,
-- its code and its cells are these.
pub record OpensTo (m : Meaning) (reader : Tag) (code : List CodeEntry) (cells : List Cell) (image : List ℕ) (before : List Cell) (outputs : ℕ) : Type 0 where
  pub sitting : Standing
  pub granted : opened m blank image before outputs ≡ after_call (Ok tt) sitting cells
  pub running : sitting.state ≡ Running
  pub at_start : sitting.machine ≡ start
  pub reader_same : sitting.opening.header.reader ≡ reader
  pub code_same : code_of_sitting sitting image ≡ code

-- What `write` promises of an image that it has written is enough, with a list for as many cells as were written.
abbrev pub WrittenImagesOpen : Meaning → Type 0
WrittenImagesOpen m =
    (reader : Tag) (code : List CodeEntry) (cells : List Cell) (image : List ℕ) (before : List Cell) (outputs : ℕ)
    → LoadsBack m reader code cells image → length before ≡ length cells → OpensTo m reader code cells image before outputs
