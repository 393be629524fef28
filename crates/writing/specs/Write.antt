-- What writing an image does: the checks in their order, and the bytes.
use Rattle.std.specs.Prelude.{ℕ, ◌+◌, ◌*◌, ◌<◌, List, ◌∷◌, ◌++◌, map, length, get_or, take, drop, Option, Result, ◌==◌}
use Rattle.std.specs.List.{flat_map}
use Rattle.labels.specs.Order.{Meaning, name_of}
use Rattle.labels.specs.declared.cell.Tag.{Tag}
use Rattle.labels.specs.declared.cell.Cell.{Cell}
use Rattle.labels.specs.declared.name.OrderName.{OrderName}
use Rattle.labels.specs.declared.refusal.Refusal.{Refusal}
use Rattle.labels.specs.declared.refusal.Refusal.TheVariants.{CountOutsideLimits, WrongLength}
use Rattle.image.specs.declared.header.Counts.{Counts}
use Rattle.image.specs.declared.entry.CodeEntry.{CodeEntry}
use Rattle.image.specs.Entry.{cell_entry, u16_bytes, entry_bytes}
use Rattle.image.specs.Layout.{counts_fit, length_of_image}
use Rattle.image.specs.Load.{check, answer, unless_refused, label_check, check_labels, tags_of}

abbrev pub counts_of : List CodeEntry → List Cell → Counts
counts_of code cells = record { code = length code; cells = length cells }

-- The checks of an image that is to be written in an order into so many bytes.
abbrev pub write_refusal : Meaning → Tag → List CodeEntry → List Cell → ℕ → Option Refusal
write_refusal m reader code cells bytes =
    check (counts_fit (counts_of code cells)) CountOutsideLimits
    (check (bytes == length_of_image (counts_of code cells)) WrongLength
    (label_check m.label reader 0
    (check_labels m.label 1 (tags_of code cells))))

-- two numbers of four bits as a byte
abbrev pub packed : ℕ → ℕ → ℕ
packed high low = high * 16 + low

-- version 1, the order's name, the counts and the reader's label
abbrev pub header_bytes : OrderName → Counts → Tag → List ℕ
header_bytes name counts reader =
    packed 1 name.kind ∷ packed name.parameters.p name.parameters.q ∷ u16_bytes counts.code ++ u16_bytes counts.cells ++ u16_bytes reader.0

-- so many elements from a place on replaced by others
abbrev pub replaced : List ℕ → ℕ → ℕ → List ℕ → List ℕ
replaced xs at n ys = take at xs ++ (ys ++ drop n (drop at xs))

-- the entries, code and then cells
abbrev pub entries : List CodeEntry → List Cell → List CodeEntry
entries code cells = code ++ map cell_entry cells

-- the bytes of an image: eight of the header, and six for each entry
abbrev pub written_image : Meaning → Tag → List CodeEntry → List Cell → List ℕ
written_image m reader code cells = header_bytes (name_of m) (counts_of code cells) reader ++ flat_map entry_bytes (entries code cells)

abbrev pub write_answer : Meaning → Tag → List CodeEntry → List Cell → List ℕ → Result (Unit {0}) Refusal
write_answer m reader code cells buffer = answer (write_refusal m reader code cells (length buffer)) tt

-- Writing fills the buffer with the image, or leaves it as it was.
abbrev pub write_bytes : Meaning → Tag → List CodeEntry → List Cell → List ℕ → List ℕ
write_bytes m reader code cells buffer = unless_refused (write_refusal m reader code cells (length buffer)) buffer (written_image m reader code cells)

-- tags of 16 bits and 32 bits more
abbrev pub EntriesFit : List CodeEntry → Type 0
EntriesFit es = (k : ℕ) (d : CodeEntry) → k < length es → ((get_or es k d).tag.0 < 65536) × ((get_or es k d).bits < 4294967296)
