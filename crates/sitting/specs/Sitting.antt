-- What a sitting holds.
use Rattle.std.specs.Prelude.{ℕ, Bool, true, false, ◌&&◌, List, length, ◌==◌}
use Rattle.labels.specs.Order.{tag}
use Rattle.labels.specs.declared.cell.Cell.{Cell}
use Rattle.image.specs.declared.entry.CodeEntry.{CodeEntry}
use Rattle.machine.specs.Machine.{Held, held, start}
use Rattle.machine.specs.Effect.{MachineState}
use Rattle.execution.specs.Step.{code_entries}
use Rattle.sitting.specs.declared.sitting.State.{State}
use Rattle.sitting.specs.declared.sitting.State.TheVariants.{Blank, Running, Halted, Faulted, Violated}
use Rattle.sitting.specs.declared.sitting.Opening.{Opening}
use Rattle.sitting.specs.declared.sitting.Sitting.{Sitting}

-- where a sitting stands: how far it has come, what its opening fixed, and what its machine holds
pub record Standing : Type 0 where
  pub state : State
  pub opening : Opening
  pub machine : Held

abbrev pub standing : Sitting → Standing
standing s = record { state = s.state; opening = s.opening; machine = held s.machine }

abbrev pub no_opening : Opening
no_opening = record {
  header = record {
    version = 0;
    order = record { kind = 0; parameters = record { p = 0; q = 0 } };
    counts = record { code = 0; cells = 0 };
    reader = tag 0;
  };
  image_length = 0;
  cells_length = 0;
  outputs_length = 0;
}

-- a new sitting is blank
abbrev pub blank : Standing
blank = record { state = Blank; opening = no_opening; machine = start }

-- the same with another state
abbrev pub in_state : State → Standing → Standing
in_state state s = record { state = state; opening = s.opening; machine = s.machine }

abbrev pub is_blank : State → Bool
is_blank Blank = true
is_blank Running = false
is_blank Halted = false
is_blank (Faulted fault) = false
is_blank (Violated violation) = false

abbrev pub is_running : State → Bool
is_running Blank = false
is_running Running = true
is_running Halted = false
is_running (Faulted fault) = false
is_running (Violated violation) = false

abbrev pub is_halted : State → Bool
is_halted Blank = false
is_halted Running = false
is_halted Halted = true
is_halted (Faulted fault) = false
is_halted (Violated violation) = false

-- the sitting's machine with the memory that is handed in
abbrev pub machine_state : Standing → List Cell → List Cell → MachineState
machine_state s cells outputs = record { held = s.machine; cells = cells; output_places = outputs }

-- the code that a sitting runs: as many entries of the image as its header counts
abbrev pub code_of_sitting : Standing → List ℕ → List CodeEntry
code_of_sitting s image = code_entries image s.opening.header.counts.code

-- Later calls get lists of the lengths of the opening.
abbrev pub lengths_fit : Opening → List ℕ → List Cell → List Cell → Bool
lengths_fit o image cells outputs =
    (length image == o.image_length) && length cells == o.cells_length && length outputs == o.outputs_length
