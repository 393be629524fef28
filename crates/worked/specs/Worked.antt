-- The worked values: questions about orders, rules, rows and shifts, each with its answer.
use Rattle.std.specs.Prelude.{◌≡◌, ℕ, Bool, true, false, List, [], ◌∷◌, map, Ok, slice_index}
use Rattle.labels.specs.Order.{Meaning, tag}
use Rattle.orders.specs.Makes.{two_point, barred_sets, clearances}
use Rattle.rules.specs.Book.{Verdict}
use Rattle.rules.specs.Flow.{caused, flow}
use Rattle.rules.specs.declared.query.Query.{Query}
use Rattle.instructions.specs.Functions.{word, shift_left}
use Rattle.table.specs.Numbering.{row_count}
use Rattle.table.specs.Compiled.{compiled}

pub data Question : Type 0 where
  -- does this label flow to that one?
  flows : Meaning → ℕ → ℕ → Question
  -- what is the join of two labels?
  join : Meaning → ℕ → ℕ → Question
  -- what do the flow rules say?
  verdict : Meaning → Query → Question
  -- what is a row of the order's compiled table?
  row : Meaning → ℕ → Question
  -- how many rows has a table for so many labels?
  rows : ℕ → Question
  -- what is a word shifted left by another?
  shifted_left : ℕ → ℕ → Question

pub data Answer : Type 0 where
  says : Bool → Answer
  number : ℕ → Answer
  judged : Verdict → Answer

abbrev pub answer_to : Question → Answer
answer_to (flows m a b) = says (m.flows (tag a) (tag b))
answer_to (join m a b) = number (m.join (tag a) (tag b)).0
answer_to (verdict m q) = judged (flow m q)
answer_to (row m i) = number (slice_index (compiled m) i)
answer_to (rows n) = number (row_count n)
answer_to (shifted_left a b) = number (shift_left (word a) (word b)).0

-- queries by their used tags
abbrev mov : ℕ → ℕ → ℕ → Query
mov p d a = record { class = 2; pc = tag p; instruction = tag 0; d = tag d; a = tag a; b = tag 0; memory = tag 0 }

abbrev store : ℕ → ℕ → ℕ → ℕ → Query
store p a b m = record { class = 5; pc = tag p; instruction = tag 0; d = tag 0; a = tag a; b = tag b; memory = tag m }

abbrev jump : ℕ → ℕ → Query
jump p a = record { class = 6; pc = tag p; instruction = tag 0; d = tag 0; a = tag a; b = tag 0; memory = tag 0 }

-- barred sets of three readers; clearances of four levels and three compartments
abbrev three_readers : Meaning
three_readers = barred_sets 2

abbrev four_levels : Meaning
four_levels = clearances 3 3

abbrev pub worked_values : List (Question × Answer)
worked_values =
    (flows two_point 0 1, says true)
    ∷ (flows two_point 1 0, says false)
    ∷ (join three_readers 1 4, number 5)
    ∷ (flows three_readers 5 7, says true)
    ∷ (flows three_readers 5 6, says false)
    ∷ (join four_levels 9 20, number 21)
    ∷ (flows four_levels 20 9, says false)
    ∷ (verdict two_point (mov 0 1 1), judged (Ok (tag 0, tag 1)))
    ∷ (row two_point 13, number 1)
    ∷ (verdict two_point (mov 1 0 0), judged (caused 2 tt))
    ∷ (row two_point 14, number 536870912)
    ∷ (verdict two_point (store 0 1 0 0), judged (caused 3 tt))
    ∷ (verdict two_point (jump 0 1), judged (Ok (tag 1, tag 0)))
    ∷ (row two_point 67, number 16384)
    ∷ (rows 2, number 94)
    ∷ (rows 4, number 1028)
    ∷ (rows 8, number 14056)
    ∷ (shifted_left 1 31, number 2147483648)
    ∷ (shifted_left 1 32, number 0)
    ∷ []

-- each question has its answer
abbrev pub WorkedValuesFollow : Type 0
WorkedValuesFollow = map (λ w. answer_to w.0) worked_values ≡ map (λ w. w.1) worked_values
