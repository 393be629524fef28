-- A run of a running sitting with memory of the opening's lengths is made.
use Rattle.std.proofs.Common.{◌≡◌, ℕ, true, List, Some, None, Option, sym, ap, ◌∙◌, subst}
use Rattle.std.proofs.lemmas.Bool.{cond-true}
use Rattle.labels.specs.declared.cell.Cell.{Cell}
use Rattle.labels.specs.declared.refusal.Refusal.{Refusal}
use Rattle.labels.specs.declared.refusal.Refusal.TheVariants.{WrongLength, WrongState}
use Rattle.image.specs.Load.{check}
use Rattle.execution.specs.Step.{Answers}
use Rattle.execution.specs.Run.{RunsTo, Ran}
use Rattle.sitting.specs.declared.sitting.State.TheVariants.{Running}
use Rattle.sitting.specs.Sitting.{Standing, is_running, machine_state, code_of_sitting, lengths_fit}
use Rattle.sitting.specs.Run.{run_refusal, RunDone, run_made, RunUnless, SittingRuns}

module _ (s : Standing) (image : List ℕ) (cells outputs : List Cell) (running : s.state ≡ Running) (fit : lengths_fit s.opening image cells outputs ≡ true) where
  not_refused : run_refusal s image cells outputs ≡ None
  not_refused =
      ap (λ state. check (is_running state) WrongState (check (lengths_fit s.opening image cells outputs) WrongLength None)) running
      ∙ cond-true (lengths_fit s.opening image cells outputs) None (Some WrongLength) fit

  pub run_is_made : {E : Type 0} (answers : Answers E) (budget : ℕ) (e e' : E) (r : Ran) (done : RunDone) → RunsTo answers (code_of_sitting s image) budget (machine_state s cells outputs) e r.outcome r.granted r.state e' → done ≡ run_made s r → SittingRuns answers s image cells outputs budget e done e'
  run_is_made answers budget e e' r done runs is =
      subst (λ (o : Option Refusal). RunUnless answers o s image cells outputs budget e done e') (sym not_refused) (r, runs, is)
