-- The number of each machine fault.
use Rattle.std.specs.Prelude.{ℕ}
use Rattle.machine.specs.declared.fault.Fault.{Fault}
use Rattle.machine.specs.declared.fault.Fault.TheVariants.{OutsideCode, IllegalInstruction, NoSuchCell, FramesFull, NoFrame, OutputsFull}

abbrev pub fault_number : Fault → ℕ
fault_number OutsideCode = 1
fault_number IllegalInstruction = 2
fault_number NoSuchCell = 3
fault_number FramesFull = 4
fault_number NoFrame = 5
fault_number OutputsFull = 6
