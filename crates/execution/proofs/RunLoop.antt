-- The loop of a run: what the rest of the budget comes to, and each way on.
use Rattle.std.proofs.Common.{◌≡◌, ℕ, suc, ◌+◌, ◌-◌, ◌<◌, ◌≤◌, List, Ok, Err, subst, arith}
use Rattle.std.proofs.Math.Nat.{add-zero}
use Rattle.image.specs.declared.entry.CodeEntry.{CodeEntry}
use Rattle.machine.specs.declared.progress.Progress.{Progress}
use Rattle.machine.specs.declared.progress.Progress.TheVariants.{GoesOn, Halts}
use Rattle.execution.specs.declared.outcome.End.{End}
use Rattle.machine.specs.Effect.{MachineState}
use Rattle.execution.specs.Step.{Outcome, Answers, StepsTo}
use Rattle.execution.specs.Run.{RunsTo, budget_used, halts, ends, goes_on}

-- whatever the rest of the budget comes to from here, the whole run comes to from the start
abbrev pub RestOfRun : {E : Type 0} → Answers E → List CodeEntry → ℕ → ℕ → MachineState → E → MachineState → E → Type 0
RestOfRun {E} answers code budget granted s₀ e₀ s e = (r : Outcome) (g : ℕ) (s' : MachineState) (e' : E) → RunsTo answers code (budget - granted) s e r g s' e' → RunsTo answers code budget s₀ e₀ r (granted + g) s' e'

module _ {E : Type 0} {answers : Answers E} {code : List CodeEntry} (budget granted : ℕ) {s₀ s : MachineState} {e₀ e : E} (rest : RestOfRun answers code budget granted s₀ e₀ s e) where
  pub rest_used : budget ≤ granted → granted ≤ budget → RunsTo answers code budget s₀ e₀ (Ok GoesOn) budget s e
  rest_used ge le =
      let none : budget - granted ≡ 0 = omega arith in
      let all : granted + 0 ≡ budget = omega arith in
      subst (λ n. RunsTo answers code budget s₀ e₀ (Ok GoesOn) n s e) all (rest (Ok GoesOn) 0 s e (rw none budget_used))

  module _ (lt : granted < budget) where
    one_less : budget - granted ≡ suc (budget - (granted + 1))
    one_less = omega arith

    pub rest_ends : {x : End} {s' : MachineState} {e' : E} → StepsTo answers code s e (Err x) s' e' → RunsTo answers code budget s₀ e₀ (Err x) granted s' e'
    rest_ends {x} {s'} {e'} h = rw (← add-zero granted) (rest (Err x) 0 s' e' (rw one_less (ends h)))

    pub rest_halts : {p : Progress} {s' : MachineState} {e' : E} → p ≡ Halts → StepsTo answers code s e (Ok p) s' e' → RunsTo answers code budget s₀ e₀ (Ok Halts) (granted + 1) s' e'
    rest_halts {s' = s'} {e' = e'} is h = rest (Ok Halts) 1 s' e' (rw one_less (halts (rw is at h)))

    pub rest_goes_on : {p : Progress} {s₁ : MachineState} {e₁ : E} → p ≡ GoesOn → StepsTo answers code s e (Ok p) s₁ e₁ → RestOfRun answers code budget (granted + 1) s₀ e₀ s₁ e₁
    rest_goes_on is h r g s' e' t =
        let one : granted + 1 + g ≡ granted + suc g = omega arith in
        rw one (rest r (suc g) s' e' (rw one_less (goes_on (rw is at h) t)))
