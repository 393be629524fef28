-- The rows of a table for n labels: how many there are, and the number and the query of a row within its class.
use Rattle.std.specs.Prelude.{ℕ, zero, suc, ◌+◌, ◌*◌, ◌/◌, ◌%◌, ◌^◌, Bool, cond, ◌&&◌, List, map, ◌==◌, bit_and, count_ones, nat_le}
use Rattle.std.specs.List.{range_with_len}
use Rattle.labels.specs.Order.{tag}
use Rattle.labels.specs.declared.cell.Tag.{Tag}
use Rattle.rules.specs.Rules.{rule}
use Rattle.rules.specs.declared.query.Query.{Query}

-- a table has 1 to 8 labels
abbrev pub labels_fit : ℕ → Bool
labels_fit n = nat_le 1 n && nat_le n 8

-- a class has a row for each choice of its used tags
abbrev pub class_size : ℕ → ℕ → ℕ
class_size n class = n ^ count_ones (rule class).mask

-- the first row of a class: the classes below it come first
abbrev pub class_start : ℕ → ℕ → ℕ
class_start n zero = 0
class_start n (suc class) = class_start n class + class_size n class

unfoldable pub row_count : ℕ → ℕ
row_count n = class_start n 14

-- the first row of each class, and then the number of rows
unfoldable pub class_starts : ℕ → List ℕ
class_starts n = map (class_start n) (range_with_len 0 15)

-- a used tag is one more digit to base n
abbrev pub digit : ℕ → ℕ → ℕ → ℕ → Tag → ℕ
digit n mask weight digits t = cond (bit_and mask weight == 0) digits (digits * n + t.0)

-- the used tags as digits, in the sequence P I D A B M, the first most significant
abbrev pub number : ℕ → ℕ → Query → ℕ
number n mask q =
    digit n mask 1
    (digit n mask 2 (digit n mask 4 (digit n mask 8 (digit n mask 16 (digit n mask 32 0 q.pc) q.instruction) q.d) q.a) q.b)
    q.memory

-- the last digit, if it is that of a used tag, and the digits before it
abbrev pub last_digit : ℕ → ℕ → ℕ → ℕ → ℕ
last_digit n mask weight digits = cond (bit_and mask weight == 0) 0 (digits % n)

abbrev pub digits_before : ℕ → ℕ → ℕ → ℕ → ℕ
digits_before n mask weight digits = cond (bit_and mask weight == 0) digits (digits / n)

-- the query whose used tags are these digits; its other tags are 0
abbrev pub query_of_digits : ℕ → ℕ → ℕ → ℕ → Query
query_of_digits n mask class digits =
    let to_b : ℕ = digits_before n mask 1 digits in
    let to_a : ℕ = digits_before n mask 2 to_b in
    let to_d : ℕ = digits_before n mask 4 to_a in
    let to_i : ℕ = digits_before n mask 8 to_d in
    let to_p : ℕ = digits_before n mask 16 to_i in
    record {
      class = class;
      pc = tag (last_digit n mask 32 to_p);
      instruction = tag (last_digit n mask 16 to_i);
      d = tag (last_digit n mask 8 to_d);
      a = tag (last_digit n mask 4 to_a);
      b = tag (last_digit n mask 2 to_b);
      memory = tag (last_digit n mask 1 digits);
    }

-- the query of a row of a class
abbrev pub query_of : ℕ → ℕ → ℕ → Query
query_of n class i = query_of_digits n (rule class).mask class i
