-- One step of the machine: what is checked and asked first, and what a verdict then does.
use Rattle.std.specs.Prelude.{◌≡◌, ℕ, ◌-◌, ◌*◌, ◌≤◌, cond, List, map, length, Some, None, Ok, Err, Option, Result, nat_lt, slice_index_or}
use Rattle.std.specs.List.{range_with_len}
use Rattle.labels.specs.Order.{tag}
use Rattle.labels.specs.declared.cell.Tag.{Tag}
use Rattle.image.specs.Layout.{code_entry_at}
use Rattle.image.specs.declared.entry.CodeEntry.{CodeEntry}
use Rattle.rules.specs.Book.{Verdict, Book}
use Rattle.rules.specs.declared.query.Query.{Query}
use Rattle.instructions.specs.Instruction.{decode}
use Rattle.instructions.specs.declared.instruction.Instruction.{Instruction}
use Rattle.machine.specs.declared.fault.Fault.{Fault}
use Rattle.machine.specs.declared.fault.Fault.TheVariants.{OutsideCode, IllegalInstruction}
use Rattle.machine.specs.declared.progress.Progress.{Progress}
use Rattle.execution.specs.declared.outcome.End.{End}
use Rattle.execution.specs.declared.outcome.End.TheVariants.{Faulted, Violated}
use Rattle.machine.specs.Effect.{MachineState, fault, memory_tag, query, effect, progress}

-- ── the code ──

abbrev pub no_entry : CodeEntry
no_entry = record { tag = tag 0; bits = 0 }

abbrev pub entry_at : List CodeEntry → ℕ → Option CodeEntry
entry_at code pc = cond (nat_lt pc (length code)) (Some (slice_index_or code pc no_entry)) None

-- the instruction of a code entry, or none where it is illegal
unfoldable pub instruction_of : CodeEntry → Option Instruction
instruction_of e = decode e.bits

-- the first entries of an image, as code; with the code count of its header these are the image's code
abbrev pub code_entries : List ℕ → ℕ → List CodeEntry
code_entries image count = map (code_entry_at image) (range_with_len 0 count)

-- so many code entries lie behind the header of an image
abbrev pub HasCode : List ℕ → ℕ → Type 0
HasCode image count = 6 * count ≤ length image - 8

-- ── what is asked ──

-- an instruction with the query that asks about it, or the fault
abbrev pub Question : Type 0
Question = Result (Instruction × Query) Fault

abbrev pub ask_unless : Option Fault → Instruction → Tag → MachineState → Question
ask_unless (Some f) i code s = Err f
ask_unless None i code s = Ok (i, query i code (memory_tag i.class i s) s.held)

abbrev pub ask_decoded : Option Instruction → Tag → MachineState → Question
ask_decoded None code s = Err IllegalInstruction
ask_decoded (Some i) code s = ask_unless (fault i.class i s) i code s

abbrev pub ask_entry : Option CodeEntry → MachineState → Question
ask_entry None s = Err OutsideCode
ask_entry (Some e) s = ask_decoded (instruction_of e) e.tag s

-- The faults are tried in their order: the pc outside the code, an illegal instruction, then what the instruction needs.
unfoldable pub question : List CodeEntry → MachineState → Question
question code s = ask_entry (entry_at code s.held.pc) s

-- ── what a verdict does ──

-- what a step comes to
abbrev pub Outcome : Type 0
Outcome = Result Progress End

abbrev pub outcome : Instruction → Verdict → Outcome
outcome i (Ok tags) = Ok (progress i.class)
outcome i (Err v) = Err (Violated v)

-- a violation changes nothing
abbrev pub after : Instruction → Verdict → MachineState → MachineState
after i (Ok tags) s = effect i.class i tags.0 tags.1 s
after i (Err v) s = s

-- ── one step over any engine ──

-- of engines: what one call may do to one, with a query and a verdict
abbrev pub Answers : Type 0 → Type 1
Answers E = E → Query → Verdict → E → Type 0

module _ {E : Type 0} (answers : Answers E) where
  -- A fault asks no engine and changes nothing; otherwise the engine is asked once, and its verdict decides.
  abbrev pub Settles : Question → MachineState → E → Outcome → MachineState → E → Type 0
  Settles (Err f) s e r s' e' = (r ≡ Err (Faulted f)) × (s' ≡ s) × (e' ≡ e)
  Settles (Ok (i, q)) s e r s' e' = (v : Verdict) × answers e q v e' × (r ≡ outcome i v) × (s' ≡ after i v s)

  -- one step of the code, from a state and an engine to an outcome, a state and an engine
  abbrev pub StepsTo : List CodeEntry → MachineState → E → Outcome → MachineState → E → Type 0
  StepsTo code s e r s' e' = Settles (question code s) s e r s' e'

-- ── one step by a book ──

abbrev pub settle_by : Book → MachineState → Question → Outcome × MachineState
settle_by book s (Err f) = (Err (Faulted f), s)
settle_by book s (Ok (i, q)) = (outcome i (book q), after i (book q) s)

unfoldable pub step_by : Book → List CodeEntry → MachineState → Outcome × MachineState
step_by book code s = settle_by book s (question code s)
