-- The run by the flow rules as a function shows reached views too.
use Rattle.std.proofs.Common.{ℕ, zero, suc, Bool, false, List, Ok, Err, refl}
use Rattle.labels.specs.Order.{Meaning, Laws}
use Rattle.labels.specs.declared.cell.Tag.{Tag}
use Rattle.image.specs.declared.entry.CodeEntry.{CodeEntry}
use Rattle.rules.specs.Book.{Book}
use Rattle.rules.specs.Engines.{AnswersBy, MeansBy}
use Rattle.rules.specs.FaithfulEngines.{faithful_by}
use Rattle.rules.specs.Flow.{flow}
use Rattle.machine.specs.declared.progress.Progress.TheVariants.{GoesOn, Halts}
use Rattle.machine.specs.Effect.{MachineState}
use Rattle.execution.specs.Step.{Question, Outcome, Answers, Settles, StepsTo, question, settle_by, step_by}
use Rattle.execution.specs.Run.{RunsTo, budget_used, halts, ends, goes_on, Ran, continue_by, run_by}
use Rattle.observer.specs.Observer.{Downward}
use Rattle.observer.specs.View.{view}
use Rattle.observer.specs.ObserverMachine.{Reaches}
use Rattle.observer.specs.ObserverLaws.{has_halted}
use Rattle.observer.proofs.ObservedRuns.{run_reaches}

-- the engine that has no state and answers by a book
abbrev the_book : Book → Unit {0} → Book
the_book book _ = book

module _ (book : Book) (code : List CodeEntry) where
  abbrev by_it : Answers (Unit {0})
  by_it = AnswersBy (the_book book)

  settles : (x : Question) (s : MachineState) → Settles by_it x s tt (settle_by book s x).0 (settle_by book s x).1 tt
  settles (Ok (i, q)) s = (book q, (refl, refl), refl, refl)
  settles (Err f) s = (refl, refl, refl)

  steps : (s : MachineState) → StepsTo by_it code s tt (step_by book code s).0 (step_by book code s).1 tt
  unfolding step_by
  steps s = settles (question code s) s

  abbrev IsRun : ℕ → MachineState → Ran → Type 0
  IsRun n s x = RunsTo by_it code n s tt x.outcome x.granted x.state tt

  continues : (n : ℕ) (further : (s : MachineState) → IsRun n s (run_by book code n s)) (s s₁ : MachineState) (r : Outcome) → StepsTo by_it code s tt r s₁ tt → IsRun (suc n) s (continue_by (run_by book code n) r s₁)
  continues n further s s₁ (Ok GoesOn) h = goes_on h (further s₁)
  continues n further s s₁ (Ok Halts) h = halts h
  continues n further s s₁ (Err x) h = ends h

  -- what a run by a book comes to is a run over an engine that means the book
  pub run_by_is_run : (n : ℕ) (s : MachineState) → IsRun n s (run_by book code n s)
  run_by_is_run zero s = budget_used
  run_by_is_run (suc n) s = continues n (run_by_is_run n) s (step_by book code s).1 (step_by book code s).0 (steps s)

pub run_by_flow_reaches : (m : Meaning) → Laws m → (sees : Tag → Bool) → Downward m sees → (code : List CodeEntry) (n : ℕ) (s : MachineState)
    → Reaches m sees code (view sees false s) (view sees (has_halted (run_by (flow m) code n s).outcome) (run_by (flow m) code n s).state)
run_by_flow_reaches m laws sees down code n s =
    let book = the_book (flow m) in
    run_reaches m laws (AnswersBy book) (MeansBy book) (faithful_by book) sees down code (λ q. refl) (run_by_is_run (flow m) code n s)
