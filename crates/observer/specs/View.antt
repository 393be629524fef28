-- The view: what an observer sees of a machine state.
use Rattle.std.specs.Prelude.{ℕ, Bool, cond, ◌&&◌, List, [], ◌∷◌, map, take, filter, Option}
use Rattle.labels.specs.declared.cell.Tag.{Tag}
use Rattle.labels.specs.declared.cell.Cell.{Cell}
use Rattle.machine.specs.declared.frames.Frame.{Frame}
use Rattle.machine.specs.Effect.{MachineState}
use Rattle.observer.specs.Observer.{shown, seen_cells}

-- where the machine is for an observer: at a pc with its tag above the frames that he sees, or nowhere
pub data Place : Type 0 where
  at_pc : ℕ → Tag → List Frame → Place
  nowhere : Place

pub record View : Type 0 where
  pub registers : List (Option Cell)
  pub cells : List (Option Cell)
  pub outputs : List Cell
  pub place : Place
  pub halted : Bool

-- where the machine will be once it has returned to the first of some frames
abbrev pub resumption : List Frame → Place
resumption [] = nowhere
resumption (f ∷ fs) = at_pc f.pc f.tag fs

module _ (sees : Tag → Bool) where
  abbrev pub sees_frame : Frame → Bool
  sees_frame f = sees f.tag

  abbrev pub seen_frames : List Frame → List Frame
  seen_frames fs = filter sees_frame fs

  -- Under a seen pc tag the machine is at its pc; otherwise it is where it will resume, at the first seen frame, if there is one.
  abbrev pub place_of : ℕ → Tag → List Frame → Place
  place_of pc t seen = cond (sees t) (at_pc pc t seen) (resumption seen)

  -- An observer sees the registers and cells with the unseen ones blank, the seen outputs in their order, the place,
  -- and that the machine has halted where the pc tag is seen. He does not see steps, unseen frames or unseen outputs.
  abbrev pub view : Bool → MachineState → View
  view halted s = record {
    registers = map (shown sees) s.held.registers;
    cells = map (shown sees) s.cells;
    outputs = seen_cells sees (take s.held.outputs s.output_places);
    place = place_of s.held.pc s.held.pc_tag (seen_frames s.held.frames);
    halted = halted && sees s.held.pc_tag;
  }
