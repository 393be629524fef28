-- A verdict in a row of 32 bits: cause 4 bits, next pc tag 14, result tag 14.
use Rattle.std.specs.Prelude.{ℕ, ◌+◌, ◌*◌, ◌/◌, ◌%◌, ◌^◌, Bool, true, false, ◌&&◌, T, Ok, Err, nat_le}
use Rattle.labels.specs.Order.{tag}
use Rattle.labels.specs.declared.cell.Tag.{Tag}
use Rattle.rules.specs.Book.{Verdict}
use Rattle.rules.specs.Flow.{violation}

-- a grant has cause 0, and a violation has zero tags
abbrev pub pack : Verdict → ℕ
pack (Ok grant) = (grant.0.0 % 2 ^ 14) * 2 ^ 14 + grant.1.0 % 2 ^ 14
pack (Err x) = x.cause * 2 ^ 28

-- a violation where the cause is one, and else the grant
abbrev pub violated_or : (cause : ℕ) → (b : Bool) → (T b → T (nat_le 1 cause && nat_le cause 15)) → Tag × Tag → Verdict
violated_or cause true fits grant = Err (violation cause (fits tt))
violated_or cause false fits grant = Ok grant

abbrev pub unpack : ℕ → Verdict
unpack row = violated_or (row / 2 ^ 28) (nat_le 1 (row / 2 ^ 28) && nat_le (row / 2 ^ 28) 15) (λ fits. fits) (tag (row / 2 ^ 14 % 2 ^ 14), tag (row % 2 ^ 14))
