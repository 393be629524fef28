-- A table of rows, and its book.
use Rattle.std.specs.Prelude.{ℕ, Bool, cond, ◌&&◌, List, length, Ok, Err, Result, ◌==◌, nat_lt, slice_index}
use Rattle.labels.specs.declared.cell.Tag.{Tag}
use Rattle.labels.specs.declared.refusal.Refusal.{Refusal}
use Rattle.labels.specs.declared.refusal.Refusal.TheVariants.{WrongTableSize}
use Rattle.rules.specs.Book.{Book}
use Rattle.rules.specs.Rules.{rule, ruled}
use Rattle.rules.specs.Flow.{each_used, caused}
use Rattle.table.specs.Packing.{unpack}
use Rattle.table.specs.Numbering.{labels_fit, row_count}
use Rattle.table.specs.Layout.{row_of}
use Rattle.table.specs.declared.table.Table.{Table}

abbrev pub below : ℕ → Tag → Bool
below n t = nat_lt t.0 n

-- The table's book: cause 4 for a class with no rule, cause 1 for a used tag not below n, and the row otherwise.
abbrev pub table_book : ℕ → List ℕ → Book
table_book n rows q =
    cond (ruled q.class)
    (cond (each_used (below n) (rule q.class).mask q) (unpack (slice_index rows (row_of n q))) (caused 1 tt))
    (caused 4 tt)

abbrev pub rows_for : ℕ → Result ℕ Refusal
rows_for n = cond (labels_fit n) (Ok (row_count n)) (Err WrongTableSize)

abbrev pub book_of : Table → Book
book_of t = table_book t.layout.labels t.rows.now

-- a table has 1 to 8 labels, and as many rows as they need
abbrev pub size_fits : ℕ → ℕ → Bool
size_fits n rows = labels_fit n && rows == row_count n

-- what a table for n labels over these rows is made of
abbrev pub table_of : ℕ → List ℕ → Result (ℕ × List ℕ) Refusal
table_of n rows = cond (size_fits n (length rows)) (Ok (n, rows)) (Err WrongTableSize)
