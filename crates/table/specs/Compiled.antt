-- The rows that compiling an order fills.
use Rattle.std.specs.Prelude.{ℕ, zero, suc, cond, List, [], ◌++◌, map, length, Ok, Err, Result}
use Rattle.std.specs.List.{range_with_len}
use Rattle.labels.specs.Order.{Meaning}
use Rattle.labels.specs.declared.refusal.Refusal.{Refusal}
use Rattle.labels.specs.declared.refusal.Refusal.TheVariants.{WrongTableSize}
use Rattle.rules.specs.Flow.{flow}
use Rattle.table.specs.Packing.{pack}
use Rattle.table.specs.Numbering.{class_size, query_of}
use Rattle.table.specs.Table.{size_fits}

-- the row of each query of a class is its verdict
abbrev pub class_rows : ℕ → Meaning → ℕ → List ℕ
class_rows n m class = map (λ i. pack (flow m (query_of n class i))) (range_with_len 0 (class_size n class))

-- the rows of the classes below one
unfoldable pub rows_below : ℕ → Meaning → ℕ → List ℕ
rows_below n m zero = []
rows_below n m (suc class) = rows_below n m class ++ class_rows n m class

abbrev pub compiled : Meaning → List ℕ
compiled m = rows_below m.bound m 14

-- an order is compiled into as many rows as its bound needs
abbrev pub compile_answer : Meaning → List ℕ → Result (Unit {0}) Refusal
compile_answer m rows = cond (size_fits m.bound (length rows)) (Ok tt) (Err WrongTableSize)

-- rows of another number stay as they are
abbrev pub compile_rows : Meaning → List ℕ → List ℕ
compile_rows m rows = cond (size_fits m.bound (length rows)) (compiled m) rows

-- the table over the rows of an order
abbrev pub compiled_table : Meaning → List ℕ → Result (ℕ × List ℕ) Refusal
compiled_table m rows = cond (size_fits m.bound (length rows)) (Ok (m.bound, compiled m)) (Err WrongTableSize)
