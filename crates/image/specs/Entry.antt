-- One entry of an image: from its bytes, as code and as a cell.
use Rattle.std.specs.Prelude.{ℕ, ◌+◌, ◌*◌, ◌/◌, ◌%◌, cond, List, [], ◌∷◌, ◌++◌, length, Some, None, Option, nat_le}
use Rattle.labels.specs.Order.{tag}
use Rattle.labels.specs.declared.cell.Cell.{Cell}
use Rattle.image.specs.declared.entry.CodeEntry.{CodeEntry}
use Rattle.image.specs.Layout.{u16_at, u32_at, code_entry_at}

-- the entry of six bytes
abbrev pub entry_of_bytes : List ℕ → CodeEntry
entry_of_bytes bytes = record { tag = tag (u16_at bytes 0); bits = u32_at bytes 2 }

-- numbers as bytes, most significant byte first
abbrev pub u16_bytes : ℕ → List ℕ
u16_bytes n = n / 256 % 256 ∷ n % 256 ∷ []

abbrev pub u32_bytes : ℕ → List ℕ
u32_bytes n = n / 16777216 % 256 ∷ n / 65536 % 256 ∷ n / 256 % 256 ∷ n % 256 ∷ []

-- the six bytes of an entry: its tag, and 32 bits
abbrev pub entry_bytes : CodeEntry → List ℕ
entry_bytes e = u16_bytes e.tag.0 ++ u32_bytes e.bits

-- a cell as an entry: its tag and its word
abbrev pub cell_entry : Cell → CodeEntry
cell_entry c = record { tag = c.tag; bits = c.word.0 }

-- an entry as a cell
abbrev pub entry_cell : CodeEntry → Cell
entry_cell e = record { word = record { 0 = e.bits }; tag = e.tag }

-- the entry of a number, where the image has all six bytes of it
abbrev pub code_entry : List ℕ → ℕ → Option CodeEntry
code_entry image n = cond (nat_le (8 + 6 * n + 6) (length image)) (Some (code_entry_at image n)) None
