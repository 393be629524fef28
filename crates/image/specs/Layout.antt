-- The layout of an image, as a list of bytes, most significant byte first.
use Rattle.std.specs.Prelude.{ℕ, ◌+◌, ◌*◌, ◌/◌, ◌%◌, Bool, ◌&&◌, List, map, nat_le, slice_index}
use Rattle.std.specs.List.{range_with_len}
use Rattle.labels.specs.Order.{tag}
use Rattle.labels.specs.declared.cell.Tag.{Tag}
use Rattle.labels.specs.declared.cell.Cell.{Cell}
use Rattle.image.specs.declared.header.Counts.{Counts}
use Rattle.image.specs.declared.header.Header.{Header}
use Rattle.image.specs.declared.entry.CodeEntry.{CodeEntry}

abbrev pub u16_at : List ℕ → ℕ → ℕ
u16_at bytes at = slice_index bytes at * 256 + slice_index bytes (at + 1)

abbrev pub u32_at : List ℕ → ℕ → ℕ
u32_at bytes at = u16_at bytes at * 65536 + u16_at bytes (at + 2)

-- version 4 bits, the order's kind, p and q 4 bits each, code count 16, cell count 16, the reader's label 16
abbrev pub header_of : List ℕ → Header
header_of image = record {
  version = slice_index image 0 / 16;
  order = record {
    kind = slice_index image 0 % 16;
    parameters = record { p = slice_index image 1 / 16; q = slice_index image 1 % 16 };
  };
  counts = record { code = u16_at image 2; cells = u16_at image 4 };
  reader = tag (u16_at image 6);
}

-- 1 to 1,024 code entries, and at most 4,096 cells
abbrev pub counts_fit : Counts → Bool
counts_fit n = nat_le 1 n.code && nat_le n.code 1024 && nat_le n.cells 4096

abbrev pub entry_count : Counts → ℕ
entry_count n = n.code + n.cells

-- eight bytes of header, then six for each entry
abbrev pub length_of_image : Counts → ℕ
length_of_image n = 8 + 6 * entry_count n

-- The entries, code and then cells, are each a tag of 16 bits and 32 bits more; they are counted from 0.
abbrev pub tag_at : List ℕ → ℕ → Tag
tag_at image i = tag (u16_at image (8 + 6 * i))

abbrev pub bits_at : List ℕ → ℕ → ℕ
bits_at image i = u32_at image (8 + 6 * i + 2)

abbrev pub code_entry_at : List ℕ → ℕ → CodeEntry
code_entry_at image i = record { tag = tag_at image i; bits = bits_at image i }

abbrev pub cell_entry_at : List ℕ → ℕ → Cell
cell_entry_at image i = record { word = record { 0 = bits_at image i }; tag = tag_at image i }

-- the code of an image: each instruction's tag and raw bits
abbrev pub code_of : List ℕ → List CodeEntry
code_of image = map (code_entry_at image) (range_with_len 0 (header_of image).counts.code)

-- the cells of an image: the entries that follow the code
abbrev pub cells_of : List ℕ → List Cell
cells_of image = map (λ i. cell_entry_at image ((header_of image).counts.code + i)) (range_with_len 0 (header_of image).counts.cells)
