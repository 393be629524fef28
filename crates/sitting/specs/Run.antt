-- What running a sitting does: its checks in their order, and what then stands.
use Rattle.std.specs.Prelude.{◌≡◌, ℕ, List, Some, None, Ok, Err, Option, Result}
use Rattle.labels.specs.declared.cell.Cell.{Cell}
use Rattle.labels.specs.declared.refusal.Refusal.{Refusal}
use Rattle.labels.specs.declared.refusal.Refusal.TheVariants.{WrongLength, WrongState}
use Rattle.image.specs.Load.{check}
use Rattle.image.specs.declared.entry.CodeEntry.{CodeEntry}
use Rattle.rules.specs.Book.{Book}
use Rattle.machine.specs.declared.progress.Progress.TheVariants.{GoesOn, Halts}
use Rattle.execution.specs.declared.outcome.End.{End}
use Rattle.execution.specs.declared.outcome.End.TheVariants as end
use Rattle.machine.specs.Effect.{MachineState}
use Rattle.execution.specs.Step.{Answers, Outcome}
use Rattle.execution.specs.Run.{RunsTo, Ran, run_by}
use Rattle.sitting.specs.declared.sitting.State.{State}
use Rattle.sitting.specs.declared.sitting.State.TheVariants.{Running, Halted, Faulted, Violated}
use Rattle.sitting.specs.Sitting.{Standing, is_running, machine_state, code_of_sitting, lengths_fit}

-- Only a running sitting is run, with memory of the opening's lengths.
abbrev pub run_refusal : Standing → List ℕ → List Cell → List Cell → Option Refusal
run_refusal s image cells outputs =
    check (is_running s.state) WrongState
    (check (lengths_fit s.opening image cells outputs) WrongLength None)

-- what the machine is given to run: the code, the budget that it may use, and the state that it starts from
pub record MachineRun : Type 0 where
  pub code : List CodeEntry
  pub budget : ℕ
  pub from : MachineState

-- A sitting's machine goes on from where it stands, and may use the whole budget.
abbrev pub machine_run : Standing → List ℕ → List Cell → List Cell → ℕ → MachineRun
machine_run s image cells outputs budget =
    record { code = code_of_sitting s image; budget = budget; from = machine_state s cells outputs }

-- an end of the machine as the sitting's; an engine's cause arrives unchanged
abbrev pub ended : End → State
ended (end.Faulted fault) = Faulted fault
ended (end.Violated violation) = Violated violation

-- how far a running sitting has come once a run came to an outcome
abbrev pub state_after : Outcome → State
state_after (Ok GoesOn) = Running
state_after (Ok Halts) = Halted
state_after (Err x) = ended x

-- the answer of a run, and what sitting, cells and outputs then hold
pub record RunDone : Type 0 where
  pub answered : Result ℕ Refusal
  pub sitting : Standing
  pub cells : List Cell
  pub outputs : List Cell

abbrev pub run_done : Result ℕ Refusal → Standing → List Cell → List Cell → RunDone
run_done r s cells outputs = record { answered = r; sitting = s; cells = cells; outputs = outputs }

-- A run that was made answers its granted steps.
abbrev pub run_made : Standing → Ran → RunDone
run_made s r =
    run_done (Ok r.granted)
    (record { state = state_after r.outcome; opening = s.opening; machine = r.state.held })
    r.state.cells r.state.output_places

-- A refusal is answered and changes nothing.
abbrev pub run_unless : Option Refusal → Ran → Standing → List Cell → List Cell → RunDone
run_unless (Some refusal) r s cells outputs = run_done (Err refusal) s cells outputs
run_unless None r s cells outputs = run_made s r

-- a run of the machine by a book
abbrev pub machine_run_by : Book → MachineRun → Ran
machine_run_by book g = run_by book g.code g.budget g.from

-- a run of a sitting by a book
abbrev pub sitting_run_by : Book → Standing → List ℕ → List Cell → List Cell → ℕ → RunDone
sitting_run_by book s image cells outputs budget =
    run_unless (run_refusal s image cells outputs) (machine_run_by book (machine_run s image cells outputs budget)) s cells outputs

module _ {E : Type 0} (answers : Answers E) where
  -- a run of the machine over an engine, to what it comes to and the engine then
  abbrev pub MachineRunsTo : MachineRun → E → Ran → E → Type 0
  MachineRunsTo g e r e' = RunsTo answers g.code g.budget g.from e r.outcome r.granted r.state e'

  -- The same over any engine: a refused run asks it nothing, and one that is made is a run of the machine.
  abbrev pub RunUnless : Option Refusal → Standing → List ℕ → List Cell → List Cell → ℕ → E → RunDone → E → Type 0
  RunUnless (Some refusal) s image cells outputs budget e done e' = (done ≡ run_done (Err refusal) s cells outputs) × (e' ≡ e)
  RunUnless None s image cells outputs budget e done e' =
      (r : Ran) × MachineRunsTo (machine_run s image cells outputs budget) e r e' × (done ≡ run_made s r)

  -- one run of a sitting, from a sitting, its memory and an engine to what was done and the engine then
  abbrev pub SittingRuns : Standing → List ℕ → List Cell → List Cell → ℕ → E → RunDone → E → Type 0
  SittingRuns s image cells outputs budget e done e' =
      RunUnless (run_refusal s image cells outputs) s image cells outputs budget e done e'
