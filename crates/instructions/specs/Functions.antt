-- What a binary instruction computes: nine functions of two words, modulo 2^32.
use Rattle.std.specs.Prelude.{ℕ, ◌+◌, ◌-◌, ◌*◌, ◌/◌, ◌%◌, ◌^◌, cond, ◌==◌, bit_and, bit_or, bit_xor, nat_lt}
use Rattle.labels.specs.declared.cell.Word.{Word}

abbrev pub word : ℕ → Word
word n = record { 0 = n }

abbrev pub add : Word → Word → Word
add a b = word ((a.0 + b.0) % 2 ^ 32)

abbrev pub subtract : Word → Word → Word
subtract a b = word ((a.0 + 2 ^ 32 - b.0) % 2 ^ 32)

abbrev pub bits_and : Word → Word → Word
bits_and a b = word (bit_and a.0 b.0)

abbrev pub bits_or : Word → Word → Word
bits_or a b = word (bit_or a.0 b.0)

abbrev pub bits_xor : Word → Word → Word
bits_xor a b = word (bit_xor a.0 b.0)

-- a shift by 32 or more gives 0
abbrev pub shift_left : Word → Word → Word
shift_left a b = word (cond (nat_lt b.0 32) (a.0 * 2 ^ b.0 % 2 ^ 32) 0)

abbrev pub shift_right : Word → Word → Word
shift_right a b = word (cond (nat_lt b.0 32) (a.0 / 2 ^ b.0) 0)

-- one if a is less than b, else zero
abbrev pub is_less : Word → Word → Word
is_less a b = word (cond (nat_lt a.0 b.0) 1 0)

-- one if both are equal, else zero
abbrev pub is_equal : Word → Word → Word
is_equal a b = word (cond (a.0 == b.0) 1 0)

-- The function of a number from 0 to 8; no higher number is decoded.
abbrev pub binary : ℕ → Word → Word → Word
binary k a b =
    cond (k == 0) (add a b)
    (cond (k == 1) (subtract a b)
    (cond (k == 2) (bits_and a b)
    (cond (k == 3) (bits_or a b)
    (cond (k == 4) (bits_xor a b)
    (cond (k == 5) (shift_left a b)
    (cond (k == 6) (shift_right a b)
    (cond (k == 7) (is_less a b)
    (is_equal a b))))))))
