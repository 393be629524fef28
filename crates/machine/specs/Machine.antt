-- What the machine holds.
use Rattle.std.specs.Prelude.{ℕ, cond, List, [], replicate, Some, None, Option, nat_lt, slice_index_or}
use Rattle.labels.specs.Order.{tag}
pub use Rattle.instructions.specs.Functions.{word}
use Rattle.labels.specs.declared.cell.Word.{Word}
use Rattle.labels.specs.declared.cell.Tag.{Tag}
use Rattle.labels.specs.declared.cell.Cell.{Cell}
use Rattle.machine.specs.declared.frames.Frame.{Frame}
use Rattle.machine.specs.declared.machine.Machine.{Machine}
use Rattle.machine.specs.Frames.{frames_of}

abbrev pub cell : Word → Tag → Cell
cell w t = record { word = w; tag = t }

abbrev pub zero_cell : Cell
zero_cell = cell (word 0) (tag 0)

-- Everything that the machine holds but for the cells and outputs, which lie in lent memory.
pub record Held : Type 0 where
  pub registers : List Cell
  pub pc : ℕ
  pub pc_tag : Tag
  -- the latest frame first
  pub frames : List Frame
  -- how many outputs there are so far
  pub outputs : ℕ
  pub steps : ℕ

abbrev pub held : Machine → Held
held m = record {
  registers = m.registers;
  pc = m.pc;
  pc_tag = m.pc_tag;
  frames = frames_of m.frames;
  outputs = m.outputs;
  steps = m.steps;
}

-- sixteen registers and everything else at zero or empty
abbrev pub start : Held
start = record { registers = replicate 16 zero_cell; pc = 0; pc_tag = tag 0; frames = []; outputs = 0; steps = 0 }

abbrev pub register : Held → ℕ → Cell
register h n = slice_index_or h.registers n zero_cell

-- a register by its number, where there is one
abbrev pub register_named : Held → ℕ → Option Cell
register_named h n = cond (nat_lt n 16) (Some (register h n)) None
