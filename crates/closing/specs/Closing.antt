-- What closing a sitting gives, the twelve bytes of its record, and what filing does.
use Rattle.std.specs.Prelude.{ℕ, ◌+◌, ◌*◌, ◌/◌, ◌%◌, false, cond, List, [], ◌∷◌, ◌++◌, length, Ok, Err, Result, unwrap_or, ◌==◌}
use Rattle.labels.specs.declared.refusal.Refusal.TheVariants.{WrongSlotLength}
use Rattle.sitting.specs.declared.sitting.State.{State}
use Rattle.sitting.specs.State.{state_number, state_cause}
use Rattle.sitting.specs.Sitting.{Standing}
use Rattle.closing.specs.declared.record.ClosingRecord.{ClosingRecord}
use Rattle.closing.specs.declared.record.RefusedFiling.{RefusedFiling}

-- Closing gives a record of state, pc tag, pc and steps, which is owed.
abbrev pub closed : Standing → ClosingRecord
closed s = record { state = s.state; pc_tag = s.machine.pc_tag; pc = s.machine.pc; steps = s.machine.steps; settled = false }

-- the number of a fault or the cause of a violation, else 0
abbrev pub cause_number : State → ℕ
cause_number s = unwrap_or (state_cause s) 0

-- four bits of state and four of cause
abbrev pub state_byte : State → ℕ
state_byte s = state_number s * 16 + cause_number s

-- a number of 16 or of 32 bits, most significant byte first
abbrev pub two_bytes : ℕ → List ℕ
two_bytes n = (n / 256 % 256) ∷ (n % 256) ∷ []

abbrev pub four_bytes : ℕ → List ℕ
four_bytes n = (n / 16777216 % 256) ∷ (n / 65536 % 256) ∷ (n / 256 % 256) ∷ (n % 256) ∷ []

-- state 4 bits, cause 4, zero 8, pc tag 16, pc 32, steps 32
abbrev pub record_bytes : ClosingRecord → List ℕ
record_bytes r = state_byte r.state ∷ 0 ∷ (two_bytes r.pc_tag.0 ++ (four_bytes r.pc ++ four_bytes r.steps))

-- Filing wants a slot of twelve bytes; otherwise the record is given back.
abbrev pub filing_answer : ClosingRecord → List ℕ → Result (Unit {0}) RefusedFiling
filing_answer r slot = cond (length slot == 12) (Ok tt) (Err (record { refusal = WrongSlotLength; owed = r }))

abbrev pub slot_after_filing : ClosingRecord → List ℕ → List ℕ
slot_after_filing r slot = cond (length slot == 12) (record_bytes r) slot
