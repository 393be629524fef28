-- The laws of runs, over any engine.
use Rattle.std.specs.Prelude.{◌≡◌, ℕ, ◌+◌, ◌≤◌, min, Bool, true, List, length, Ok, Err}
use Rattle.image.specs.declared.entry.CodeEntry.{CodeEntry}
use Rattle.machine.specs.declared.progress.Progress.{Progress}
use Rattle.machine.specs.declared.progress.Progress.TheVariants.{GoesOn, Halts}
use Rattle.execution.specs.declared.outcome.End.{End}
use Rattle.execution.specs.declared.outcome.End.TheVariants.{Faulted, Violated}
use Rattle.machine.specs.Effect.{MachineState, greatest_count}
use Rattle.execution.specs.Step.{Outcome, Answers, StepsTo}
use Rattle.execution.specs.Run.{RunsTo}

-- A run of one budget and then, where the machine still goes on, a run of another.
pub data TwoRunsTo {E : Type 0} (answers : Answers E) (code : List CodeEntry) (n m : ℕ) : MachineState → E → Outcome → ℕ → MachineState → E → Type 0 where
  halted_first : {g : ℕ} {s s' : MachineState} {e e' : E} → RunsTo answers code n s e (Ok Halts) g s' e' → TwoRunsTo answers code n m s e (Ok Halts) g s' e'
  ended_first : {g : ℕ} {s s' : MachineState} {e e' : E} {x : End} → RunsTo answers code n s e (Err x) g s' e' → TwoRunsTo answers code n m s e (Err x) g s' e'
  both : {g h : ℕ} {s s₁ s' : MachineState} {e e₁ e' : E} {r : Outcome} → RunsTo answers code n s e (Ok GoesOn) g s₁ e₁ → RunsTo answers code m s₁ e₁ r h s' e' → TwoRunsTo answers code n m s e r (g + h) s' e'

-- registers, cells and output places are as many as before
abbrev pub SameLengths : MachineState → MachineState → Type 0
SameLengths s s' =
    (length s'.held.registers ≡ length s.held.registers)
    × (length s'.cells ≡ length s.cells)
    × (length s'.output_places ≡ length s.output_places)

-- an engine together with a count of the questions that it was asked
abbrev pub counting : {E : Type 0} → Answers E → Answers (E × ℕ)
counting answers (e, n) q v (e', n') = answers e q v e' × (n' ≡ n + 1)

-- each granted step asked once, and a violation is one question more
abbrev pub questions : Outcome → ℕ → ℕ
questions (Ok p) granted = granted
questions (Err (Faulted f)) granted = granted
questions (Err (Violated v)) granted = granted + 1

-- Any number of runs one after the other, each over an engine of its own.
pub data RunsLeadTo {E : Type 0} (answers : Answers E) (code : List CodeEntry) : MachineState → MachineState → Type 0 where
  no_run : {s : MachineState} → RunsLeadTo answers code s s
  one_run : {n g : ℕ} {s s₁ s' : MachineState} {e e₁ : E} {r : Outcome} → RunsTo answers code n s e r g s₁ e₁ → RunsLeadTo answers code s₁ s' → RunsLeadTo answers code s s'

module _ {E : Type 0} (answers : Answers E) where
  -- a budget may be given in two parts
  abbrev pub PartsMakeARun : Type 0
  PartsMakeARun = (code : List CodeEntry) (n m g : ℕ) (s s' : MachineState) (e e' : E) (r : Outcome) → TwoRunsTo answers code n m s e r g s' e' → RunsTo answers code (n + m) s e r g s' e'

  abbrev pub RunsHaveParts : Type 0
  RunsHaveParts = (code : List CodeEntry) (n m g : ℕ) (s s' : MachineState) (e e' : E) (r : Outcome) → RunsTo answers code (n + m) s e r g s' e' → TwoRunsTo answers code n m s e r g s' e'

  abbrev pub WithinBudget : Type 0
  WithinBudget = (code : List CodeEntry) (n g : ℕ) (s s' : MachineState) (e e' : E) (r : Outcome) → RunsTo answers code n s e r g s' e' → g ≤ n

  -- the step count rises by the granted steps, up to its greatest value
  abbrev pub StepsAreCounted : Type 0
  StepsAreCounted = (code : List CodeEntry) (n g : ℕ) (s s' : MachineState) (e e' : E) (r : Outcome) → RunsTo answers code n s e r g s' e' → s.held.steps ≤ greatest_count → s'.held.steps ≡ min (s.held.steps + g) greatest_count

  abbrev pub LengthsStay : Type 0
  LengthsStay = (code : List CodeEntry) (n g : ℕ) (s s' : MachineState) (e e' : E) (r : Outcome) → RunsTo answers code n s e r g s' e' → SameLengths s s'

  -- Every run is also one that counts its questions, of which there is at most one more than granted steps.
  abbrev pub QuestionsAreCounted : Type 0
  QuestionsAreCounted = (code : List CodeEntry) (n g k : ℕ) (s s' : MachineState) (e e' : E) (r : Outcome) → RunsTo answers code n s e r g s' e' → RunsTo (counting answers) code n s (e, k) r g s' (e', k + questions r g)

  -- What every granted step keeps, every list of runs keeps.
  abbrev pub RunsKeepWhatStepsKeep : Type 0
  RunsKeepWhatStepsKeep = (code : List CodeEntry) (P : MachineState → Bool)
      → ((s s' : MachineState) (e e' : E) (p : Progress) → StepsTo answers code s e (Ok p) s' e' → P s ≡ true → P s' ≡ true)
      → (s s' : MachineState) → RunsLeadTo answers code s s' → P s ≡ true → P s' ≡ true

  pub record RunLaws : Type 0 where
    pub parts_make_a_run : PartsMakeARun
    pub runs_have_parts : RunsHaveParts
    pub within_budget : WithinBudget
    pub steps_are_counted : StepsAreCounted
    pub lengths_stay : LengthsStay
    pub questions_are_counted : QuestionsAreCounted
    pub runs_keep_what_steps_keep : RunsKeepWhatStepsKeep
