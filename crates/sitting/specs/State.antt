-- What users are told of a sitting's state: its number, its cause, and how it is printed.
use Rattle.std.specs.Prelude.{ℕ, List, ◌++◌, Some, None, Option, codes, decimal}
use Rattle.machine.specs.Fault.{fault_number}
use Rattle.sitting.specs.declared.sitting.State.{State}
use Rattle.sitting.specs.declared.sitting.State.TheVariants.{Blank, Running, Halted, Faulted, Violated}

abbrev pub state_number : State → ℕ
state_number Blank = 0
state_number Running = 1
state_number Halted = 2
state_number (Faulted fault) = 3
state_number (Violated violation) = 4

-- the number of a fault, or the cause of a violation
abbrev pub state_cause : State → Option ℕ
state_cause Blank = None
state_cause Running = None
state_cause Halted = None
state_cause (Faulted fault) = Some (fault_number fault)
state_cause (Violated violation) = Some violation.cause

-- what is printed of a state; a fault and a violation with their cause
abbrev pub state_text : State → List ℕ
state_text Blank = codes "blank"
state_text Running = codes "running"
state_text Halted = codes "halted"
state_text (Faulted fault) = codes "fault " ++ decimal (fault_number fault)
state_text (Violated violation) = codes "violation " ++ decimal violation.cause
