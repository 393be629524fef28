-- What an instruction checks, what it asks, and what it does once it is granted.
use Rattle.std.specs.Prelude.{◌≡◌, ℕ, ◌+◌, ◌<◌, min, cond, List, [], ◌∷◌, length, Some, None, Ok, Err, Option, Result, ◌==◌, nat_lt, slice_index_or, slice_set}
use Rattle.labels.specs.Order.{tag}
use Rattle.labels.specs.declared.cell.Tag.{Tag}
use Rattle.labels.specs.declared.cell.Cell.{Cell}
use Rattle.rules.specs.declared.query.Query.{Query}
use Rattle.instructions.specs.Instruction.{NamesRegisters}
use Rattle.rules.specs.Class.{class_number}
use Rattle.instructions.specs.Functions.{binary}
use Rattle.instructions.specs.declared.instruction.Instruction.{Instruction}
use Rattle.rules.specs.declared.class.Class.{Class}
use Rattle.rules.specs.declared.class.Class.TheVariants.{Nop, Const, Mov, Bin, Load, Store, Jump, Bnz, Goto, Call, Ret, Out, Raise, Halt}
use Rattle.machine.specs.declared.frames.Frame.{Frame}
use Rattle.machine.specs.declared.machine.Machine.{Machine}
use Rattle.machine.specs.declared.fault.Fault.{Fault}
use Rattle.machine.specs.declared.fault.Fault.TheVariants.{NoSuchCell, FramesFull, NoFrame, OutputsFull}
use Rattle.machine.specs.declared.progress.Progress.{Progress}
use Rattle.machine.specs.declared.progress.Progress.TheVariants.{GoesOn, Halts}
use Rattle.machine.specs.Frames.{latest_tag}
use Rattle.machine.specs.Machine.{Held, held, word, cell, zero_cell, register}

-- ── all that an instruction may change ──

-- what the machine holds, the cells, and the output places, of which the first are filled
pub record MachineState : Type 0 where
  pub held : Held
  pub cells : List Cell
  pub output_places : List Cell

abbrev pub state_of : Machine → List Cell → List Cell → MachineState
state_of m cells output_places = record { held = held m; cells = cells; output_places = output_places }

-- ── what an instruction reads ──

-- the number in register a: the cell that LOAD and STORE address, and where JUMP goes
abbrev pub address : Held → Instruction → ℕ
address h i = (register h i.a).word.0

abbrev pub cell_at : List Cell → ℕ → Cell
cell_at cells n = slice_index_or cells n zero_cell

-- ── what is checked and asked ──

-- the fault of a decoded instruction
abbrev pub fault : Class → Instruction → MachineState → Option Fault
fault Load i s = cond (nat_lt (address s.held i) (length s.cells)) None (Some NoSuchCell)
fault Store i s = cond (nat_lt (address s.held i) (length s.cells)) None (Some NoSuchCell)
fault Call i s = cond (nat_lt (length s.held.frames) 32) None (Some FramesFull)
fault Ret i s = cond (length s.held.frames == 0) (Some NoFrame) None
fault Out i s = cond (nat_lt s.held.outputs (length s.output_places)) None (Some OutputsFull)
fault _ i s = None

-- the query's tag of memory: that of the addressed cell, of the latest frame, or 0
abbrev pub memory_tag : Class → Instruction → MachineState → Tag
memory_tag Load i s = (cell_at s.cells (address s.held i)).tag
memory_tag Store i s = (cell_at s.cells (address s.held i)).tag
memory_tag Ret i s = latest_tag s.held.frames
memory_tag _ i s = tag 0

-- the class, and the tags of the pc, the instruction, the registers d, a and b, used or not, and memory
abbrev pub query : Instruction → Tag → Tag → Held → Query
query i code memory h = record {
  class = class_number i.class;
  pc = h.pc_tag;
  instruction = code;
  d = (register h i.d).tag;
  a = (register h i.a).tag;
  b = (register h i.b).tag;
  memory = memory;
}

-- the tag, unless there is a fault
abbrev pub tag_unless : Option Fault → Tag → Result Tag Fault
tag_unless (Some f) t = Err f
tag_unless None t = Ok t

-- what a decoded instruction may count on once no fault was found
abbrev pub Passed : Instruction → MachineState → Type 0
Passed i s = NamesRegisters i × (fault i.class i s ≡ None) × (s.held.pc < 65536)

-- ── what a grant changes ──

-- where the count of steps stops
abbrev pub greatest_count : ℕ
greatest_count = 4294967295

-- on to a pc under the next pc tag, with one step more
abbrev pub on_to : ℕ → Tag → Held → Held
on_to pc next h = record { registers = h.registers; pc = pc; pc_tag = next; frames = h.frames; outputs = h.outputs; steps = min (h.steps + 1) greatest_count }

abbrev pub advance : Tag → Held → Held
advance next h = on_to (h.pc + 1) next h

abbrev pub write_register : ℕ → Cell → Held → Held
write_register d c h = record { registers = slice_set h.registers d c; pc = h.pc; pc_tag = h.pc_tag; frames = h.frames; outputs = h.outputs; steps = h.steps }

abbrev pub with_frames : List Frame → Held → Held
with_frames fs h = record { registers = h.registers; pc = h.pc; pc_tag = h.pc_tag; frames = fs; outputs = h.outputs; steps = h.steps }

abbrev pub frame : ℕ → Tag → Frame
frame pc t = record { pc = pc; tag = t }

-- the latest frame is taken off, and the machine goes where it says
abbrev pub return_by : List Frame → Tag → Held → Held
return_by [] next h = h
return_by (f ∷ fs) next h = on_to f.pc next (with_frames fs h)

abbrev pub count_output : Held → Held
count_output h = record { registers = h.registers; pc = h.pc; pc_tag = h.pc_tag; frames = h.frames; outputs = h.outputs + 1; steps = h.steps }

-- the same memory with something else held
abbrev pub holding : Held → MachineState → MachineState
holding h s = record { held = h; cells = s.cells; output_places = s.output_places }

abbrev pub write_cell : ℕ → Cell → MachineState → MachineState
write_cell n c s = record { held = s.held; cells = slice_set s.cells n c; output_places = s.output_places }

-- one more output, at the first place that is not filled
abbrev pub add_output : Cell → MachineState → MachineState
add_output c s = record { held = count_output s.held; cells = s.cells; output_places = slice_set s.output_places s.held.outputs c }

-- What each instruction does, once it is granted with the next pc tag and the result tag.
abbrev pub effect : Class → Instruction → Tag → Tag → MachineState → MachineState
effect Nop i next result s = holding (advance next s.held) s
effect Const i next result s = holding (advance next (write_register i.d (cell (word i.k) result) s.held)) s
effect Mov i next result s = holding (advance next (write_register i.d (cell (register s.held i.a).word result) s.held)) s
effect Bin i next result s = holding (advance next (write_register i.d (cell (binary i.k (register s.held i.a).word (register s.held i.b).word) result) s.held)) s
effect Load i next result s = holding (advance next (write_register i.d (cell (cell_at s.cells (address s.held i)).word result) s.held)) s
effect Store i next result s = write_cell (address s.held i) (cell (register s.held i.b).word result) (holding (advance next s.held) s)
effect Jump i next result s = holding (on_to (address s.held i) next s.held) s
effect Bnz i next result s = holding (on_to (cond (address s.held i == 0) (s.held.pc + 1) i.k) next s.held) s
effect Goto i next result s = holding (on_to i.k next s.held) s
effect Call i next result s = holding (on_to i.k next (with_frames (frame (s.held.pc + 1) result ∷ s.held.frames) s.held)) s
effect Ret i next result s = holding (return_by s.held.frames next s.held) s
effect Out i next result s = add_output (cell (register s.held i.a).word result) (holding (advance next s.held) s)
effect Raise i next result s = holding (advance next (write_register i.d (cell (register s.held i.d).word result) s.held)) s
effect Halt i next result s = holding (on_to s.held.pc next s.held) s

abbrev pub progress : Class → Progress
progress Halt = Halts
progress _ = GoesOn
