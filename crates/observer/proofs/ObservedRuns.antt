-- After a run over an engine that means the flow rules, the view is one that the observer's machine reaches by itself.
use Rattle.std.proofs.Common.{◌≡◌, ℕ, zero, suc, Bool, true, false, List, Ok, refl, ap, ◌∙◌, ⊎_elim}
use Rattle.std.proofs.lemmas.Bool.{cases_Bool}
use Rattle.labels.specs.Order.{Meaning, Laws}
use Rattle.labels.specs.declared.cell.Tag.{Tag}
use Rattle.image.specs.declared.entry.CodeEntry.{CodeEntry}
use Rattle.rules.specs.Book.{Book}
use Rattle.rules.specs.Flow.{flow}
use Rattle.machine.specs.declared.progress.Progress.{Progress}
use Rattle.machine.specs.declared.progress.Progress.TheVariants.{GoesOn, Halts}
use Rattle.machine.specs.Effect.{MachineState}
use Rattle.execution.specs.Step.{Outcome, Answers, StepsTo}
use Rattle.execution.specs.Run.{RunsTo, budget_used, halts, ends, goes_on}
use Rattle.execution.proofs.RunsByBook.{Faithful, steps_by_book}
use Rattle.observer.specs.Observer.{Downward}
use Rattle.observer.specs.View.{View, view}
use Rattle.observer.specs.ObserverMachine.{next_view, view_after, Reaches}
use Rattle.observer.specs.ObserverLaws.{has_halted}
use Rattle.observer.proofs.ObservedSteps.{flow_granted, unseen_step, seen_step, ended_step}

module _ (m : Meaning) (sees : Tag → Bool) (code : List CodeEntry) where
  pub reaches_itself : {v w : View} → w ≡ v → Reaches m sees code v w
  unfolding view_after
  reaches_itself e = record { steps = zero; reached = e }

  pub reaches_next : (v : View) {w : View} → w ≡ next_view m sees code v → Reaches m sees code v w
  unfolding view_after
  reaches_next v e = record { steps = suc zero; reached = e }

  after_both : (n k : ℕ) (v : View) → Reaches m sees code v (view_after m sees code k (view_after m sees code n v))
  unfolding view_after
  after_both zero k v = record { steps = k; reached = refl }
  after_both (suc n) k v = let r = after_both n k (next_view m sees code v) in record { steps = suc r.steps; reached = r.reached }

  pub reaches_further : {v w x : View} → Reaches m sees code v w → Reaches m sees code w x → Reaches m sees code v x
  reaches_further {v} first second =
      let both = after_both first.steps second.steps v in
      record { steps = both.steps; reached = second.reached ∙ ap (view_after m sees code second.steps) first.reached ∙ both.reached }

module _ (m : Meaning) (laws : Laws m) {E : Type 0} (answers : Answers E) (means : E → Book → Type 0) (faithful : Faithful answers means) (sees : Tag → Bool) (down : Downward m sees) (code : List CodeEntry) where
  -- a granted step leaves the view or takes it to the next
  pub step_reaches : (s s' : MachineState) (e e' : E) (p : Progress) → means e (flow m) → StepsTo answers code s e (Ok p) s' e' → Reaches m sees code (view sees false s) (view sees (has_halted (Ok p)) s')
  step_reaches s s' e e' p means_flow h =
      let g = flow_granted answers means faithful m code s s' e e' p means_flow h in
      ⊎_elim
      (λ (seen : sees s.held.pc_tag ≡ true). reaches_next m sees code (view sees false s) (seen_step m laws sees down code s s' p g seen))
      (λ (unseen : sees s.held.pc_tag ≡ false). reaches_itself m sees code (unseen_step m laws sees down code s s' p g unseen))
      (cases_Bool (sees s.held.pc_tag))

  pub run_reaches : {n g : ℕ} {s s' : MachineState} {e e' : E} {r : Outcome} → means e (flow m) → RunsTo answers code n s e r g s' e' → Reaches m sees code (view sees false s) (view sees (has_halted r) s')
  run_reaches means_flow budget_used = reaches_itself m sees code refl
  run_reaches means_flow (halts {s = s} {s' = s'} {e = e} {e' = e'} h) = step_reaches s s' e e' Halts means_flow h
  run_reaches means_flow (ends {s = s} {s' = s'} {e = e} {e' = e'} {x = x} h) = reaches_itself m sees code (ended_step answers sees code s s' e e' x h)
  run_reaches means_flow (goes_on {s = s} {s₁ = s₁} {e = e} {e₁ = e₁} h rest) =
      let still = (steps_by_book answers means faithful code (flow m) s s₁ e e₁ (Ok GoesOn) h means_flow).2 in
      reaches_further m sees code (step_reaches s s₁ e e₁ GoesOn means_flow h) (run_reaches still rest)
