-- For how many labels there is a table, and the row of a query.
use Rattle.std.specs.Prelude.{ℕ, ◌+◌, cond, Ok, Err, Result}
use Rattle.labels.specs.declared.refusal.Refusal.{Refusal}
use Rattle.labels.specs.declared.refusal.Refusal.TheVariants.{WrongTableSize}
use Rattle.rules.specs.Rules.{rule}
use Rattle.rules.specs.declared.query.Query.{Query}
use Rattle.table.specs.Numbering.{labels_fit, class_start, number}

abbrev pub layout_of : ℕ → Result ℕ Refusal
layout_of n = cond (labels_fit n) (Ok n) (Err WrongTableSize)

-- the row of a query: the start of its class, and its number there
abbrev pub row_of : ℕ → Query → ℕ
row_of n q = class_start n q.class + number n (rule q.class).mask q
