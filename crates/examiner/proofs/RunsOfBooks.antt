-- An engine that answers by a book can make each run that the book makes.
use Rattle.std.proofs.Common.{ℕ, zero, suc, List, Ok, Err, refl}
use Rattle.image.specs.declared.entry.CodeEntry.{CodeEntry}
use Rattle.rules.specs.Book.{Book}
use Rattle.rules.specs.Engines.{AnswersBy}
use Rattle.machine.specs.declared.progress.Progress.TheVariants.{GoesOn, Halts}
use Rattle.machine.specs.Effect.{MachineState}
use Rattle.execution.specs.Step.{Question, Outcome, Settles, StepsTo, question, settle_by, step_by}
use Rattle.execution.specs.Run.{RunsTo, budget_used, halts, ends, goes_on, Ran, continue_by, run_by}

module _ {E : Type 0} (book : E → Book) (code : List CodeEntry) (e : E) where
  settles_by : (x : Question) (s : MachineState) → Settles (AnswersBy book) x s e (settle_by (book e) s x).0 (settle_by (book e) s x).1 e
  settles_by (Ok (i, q)) s = (book e q, (refl, refl), refl, refl)
  settles_by (Err f) s = (refl, refl, refl)

  steps_by : (s : MachineState) → StepsTo (AnswersBy book) code s e (step_by (book e) code s).0 (step_by (book e) code s).1 e
  unfolding step_by
  steps_by s = settles_by (question code s) s

  abbrev RunsAs : ℕ → MachineState → Ran → Type 0
  RunsAs n s r = RunsTo (AnswersBy book) code n s e r.outcome r.granted r.state e

  continues_by : (n : ℕ) → ((s : MachineState) → RunsAs n s (run_by (book e) code n s)) → (s : MachineState) (r : Outcome) (s₁ : MachineState)
      → StepsTo (AnswersBy book) code s e r s₁ e → RunsAs (suc n) s (continue_by (run_by (book e) code n) r s₁)
  continues_by n further s (Ok GoesOn) s₁ step = goes_on step (further s₁)
  continues_by n further s (Ok Halts) s₁ step = halts step
  continues_by n further s (Err x) s₁ step = ends step

  pub makes_run_of_book : (n : ℕ) (s : MachineState) → RunsAs n s (run_by (book e) code n s)
  makes_run_of_book zero s = budget_used
  makes_run_of_book (suc n) s = continues_by n (makes_run_of_book n) s (step_by (book e) code s).0 (step_by (book e) code s).1 (steps_by s)
