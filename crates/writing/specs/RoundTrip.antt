-- Writing and loading fit together, both ways.
use Rattle.std.specs.Prelude.{◌≡◌, ℕ, ◌<◌, List, length, None, Ok, Result, slice_index}
use Rattle.labels.specs.Order.{Meaning, name_of}
use Rattle.labels.specs.declared.cell.Tag.{Tag}
use Rattle.labels.specs.declared.cell.Cell.{Cell}
use Rattle.labels.specs.declared.refusal.Refusal.{Refusal}
use Rattle.image.specs.declared.entry.CodeEntry.{CodeEntry}
use Rattle.image.specs.Layout.{header_of, code_of, cells_of}
use Rattle.image.specs.Load.{load_refusal}
use Rattle.writing.specs.Write.{counts_of}

-- An image loads in an order, and gives back the reader, the code and the cells.
pub record LoadsBack (m : Meaning) (reader : Tag) (code : List CodeEntry) (cells : List Cell) (image : List ℕ) : Type 0 where
  pub loads : load_refusal m image (length cells) ≡ None
  pub header : header_of image ≡ record { version = 1; order = name_of m; counts = counts_of code cells; reader = reader }
  pub code_same : code_of image ≡ code
  pub cells_same : cells_of image ≡ cells

-- The parts are those of an image of bytes that loads in the order.
pub record PartsOf (m : Meaning) (reader : Tag) (code : List CodeEntry) (cells : List Cell) (image : List ℕ) : Type 0 where
  pub bytes : (k : ℕ) → slice_index image k < 256
  pub loads : load_refusal m image (length cells) ≡ None
  pub reader_same : reader ≡ (header_of image).reader
  pub code_same : code ≡ code_of image
  pub cells_same : cells ≡ cells_of image

-- The parts of an image, written into a buffer of its length, are granted and give its own bytes.
abbrev pub OwnBytes : Meaning → Tag → List CodeEntry → List Cell → ℕ → Result (Unit {0}) Refusal → List ℕ → Type 0
OwnBytes m reader code cells bytes answered written =
    (image : List ℕ) → PartsOf m reader code cells image → bytes ≡ length image → (answered ≡ Ok tt) × (written ≡ image)
