-- A run: steps until the machine halts or ends, or until the budget is used.
use Rattle.std.specs.Prelude.{ℕ, zero, suc, List, Ok, Err}
use Rattle.image.specs.declared.entry.CodeEntry.{CodeEntry}
use Rattle.rules.specs.Book.{Book}
use Rattle.machine.specs.declared.progress.Progress.TheVariants.{GoesOn, Halts}
use Rattle.execution.specs.declared.outcome.End.{End}
use Rattle.machine.specs.Effect.{MachineState}
use Rattle.execution.specs.Step.{Outcome, Answers, StepsTo, step_by}

-- A run of the code over an engine: the budget, the state and the engine it starts from,
-- then its outcome, how many steps were granted, and the state and the engine it leaves.
pub data RunsTo {E : Type 0} (answers : Answers E) (code : List CodeEntry) : ℕ → MachineState → E → Outcome → ℕ → MachineState → E → Type 0 where
  budget_used : {s : MachineState} {e : E} → RunsTo answers code 0 s e (Ok GoesOn) 0 s e
  halts : {n : ℕ} {s s' : MachineState} {e e' : E} → StepsTo answers code s e (Ok Halts) s' e' → RunsTo answers code (suc n) s e (Ok Halts) 1 s' e'
  ends : {n : ℕ} {s s' : MachineState} {e e' : E} {x : End} → StepsTo answers code s e (Err x) s' e' → RunsTo answers code (suc n) s e (Err x) 0 s' e'
  goes_on : {n g : ℕ} {s s₁ s' : MachineState} {e e₁ e' : E} {r : Outcome} → StepsTo answers code s e (Ok GoesOn) s₁ e₁ → RunsTo answers code n s₁ e₁ r g s' e' → RunsTo answers code (suc n) s e r (suc g) s' e'

-- what a run comes to
pub record Ran : Type 0 where
  pub outcome : Outcome
  pub granted : ℕ
  pub state : MachineState

abbrev pub ran : Outcome → ℕ → MachineState → Ran
ran r g s = record { outcome = r; granted = g; state = s }

-- one more granted step before what a run comes to
abbrev pub one_more : Ran → Ran
one_more x = ran x.outcome (suc x.granted) x.state

-- after a step: a further run where the machine goes on, else no more
abbrev pub continue_by : (MachineState → Ran) → Outcome → MachineState → Ran
continue_by further (Ok GoesOn) s = one_more (further s)
continue_by further (Ok Halts) s = ran (Ok Halts) 1 s
continue_by further (Err x) s = ran (Err x) 0 s

-- The same run by a book, as a function.
abbrev pub run_by : Book → List CodeEntry → ℕ → MachineState → Ran
run_by book code zero s = ran (Ok GoesOn) 0 s
run_by book code (suc n) s = continue_by (run_by book code n) (step_by book code s).0 (step_by book code s).1
