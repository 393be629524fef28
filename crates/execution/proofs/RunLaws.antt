-- The laws of runs, proved over any engine.
use Rattle.std.proofs.Common.{◌≡◌, ℕ, zero, suc, ◌+◌, ◌≤◌, min, true, cond, eqb, List, [], ◌∷◌, length, Some, None, Ok, Err, sym, refl, ap, ◌∙◌, subst, arith, length-set}
use Rattle.std.proofs.Math.Nat.{suc-add, zero-add, add-zero}
use Rattle.labels.specs.declared.cell.Tag.{Tag}
use Rattle.image.specs.declared.entry.CodeEntry.{CodeEntry}
use Rattle.instructions.specs.declared.instruction.Instruction.{Instruction}
use Rattle.rules.specs.declared.class.Class.{Class}
use Rattle.rules.specs.declared.class.Class.TheVariants.{Const, Mov, Bin, Load, Store, Ret, Out, Raise}
use Rattle.rules.specs.Book.{Verdict}
use Rattle.rules.specs.declared.query.Query.{Query}
use Rattle.machine.specs.declared.frames.Frame.{Frame}
use Rattle.machine.specs.declared.progress.Progress.{Progress}
use Rattle.machine.specs.declared.progress.Progress.TheVariants.{GoesOn, Halts}
use Rattle.execution.specs.declared.outcome.End.{End}
use Rattle.execution.specs.declared.outcome.End.TheVariants.{Faulted, Violated}
use Rattle.machine.specs.declared.fault.Fault.TheVariants.{NoFrame}
use Rattle.machine.specs.Machine.{Held}
use Rattle.machine.specs.Effect.{MachineState, fault, return_by, effect, progress, greatest_count}
use Rattle.execution.specs.Step.{Question, Outcome, Answers, Settles, StepsTo, question, outcome, after}
use Rattle.execution.specs.Run.{RunsTo, budget_used, halts, ends, goes_on}
use Rattle.execution.specs.RunLaws.{TwoRunsTo, halted_first, ended_first, both, SameLengths, counting, questions, RunsLeadTo, no_run, one_run, RunLaws}
use Rattle.execution.proofs.Asked.{asked}
use Rattle.execution.proofs.Steps.{granted, ended_unchanged}

-- ── what one instruction does to the counts and lengths ──

-- a return without a frame is a fault
returned_steps : (fs : List Frame) (next : Tag) (h : Held) → cond (eqb (length fs) 0) (Some NoFrame) None ≡ None → (return_by fs next h).steps ≡ min (h.steps + 1) greatest_count
returned_steps [] next h e = grind arith
returned_steps (f ∷ fs) next h e = refl

effect_steps : (c : Class) (i : Instruction) (next result : Tag) (s : MachineState) → fault c i s ≡ None → (effect c i next result s).held.steps ≡ min (s.held.steps + 1) greatest_count
effect_steps Ret i next result s f = returned_steps s.held.frames next s.held f
effect_steps _ i next result s f = refl

returned_registers : (fs : List Frame) (next : Tag) (h : Held) → length (return_by fs next h).registers ≡ length h.registers
returned_registers [] next h = refl
returned_registers (f ∷ fs) next h = refl

effect_lengths : (c : Class) (i : Instruction) (next result : Tag) (s : MachineState) → SameLengths s (effect c i next result s)
effect_lengths Const i next result s = (length-set _ _ _, refl, refl)
effect_lengths Mov i next result s = (length-set _ _ _, refl, refl)
effect_lengths Bin i next result s = (length-set _ _ _, refl, refl)
effect_lengths Load i next result s = (length-set _ _ _, refl, refl)
effect_lengths Store i next result s = (refl, length-set _ _ _, refl)
effect_lengths Ret i next result s = (returned_registers s.held.frames next s.held, refl, refl)
effect_lengths Out i next result s = (refl, refl, length-set _ _ _)
effect_lengths Raise i next result s = (length-set _ _ _, refl, refl)
effect_lengths _ i next result s = (refl, refl, refl)

-- ── what every granted step keeps ──

module _ {E : Type 0} (answers : Answers E) (code : List CodeEntry) where
  module _ (P : MachineState → E → Type 0) (keeps : (s : MachineState) (e e' : E) (i : Instruction) (q : Query) (v : Verdict) → question code s ≡ Ok (i, q) → answers e q v e' → P s e → P (after i v s) e') where
    settled_keeps : (x : Question) (s s' : MachineState) (e e' : E) (r : Outcome) → question code s ≡ x → Settles answers x s e r s' e' → P s e → P s' e'
    settled_keeps (Ok (i, q)) s s' e e' r asked (v, a, p, c) start = subst (λ t. P t e') (sym c) (keeps s e e' i q v asked a start)
    settled_keeps (Err f) s s' e e' r asked (p, c, d) start = subst (λ t. P t e') (sym c) (subst (P s) (sym d) start)

    step_keeps_both : (s s' : MachineState) (e e' : E) (r : Outcome) → StepsTo answers code s e r s' e' → P s e → P s' e'
    step_keeps_both s s' e e' r h start = settled_keeps (question code s) s s' e e' r refl h start

    -- What every verdict on a question keeps, of the state and the engine, a run keeps.
    pub run_keeps_both : {n g : ℕ} {s s' : MachineState} {e e' : E} {r : Outcome} → RunsTo answers code n s e r g s' e' → P s e → P s' e'
    run_keeps_both budget_used start = start
    run_keeps_both (halts {s = s} {s' = s'} {e = e} {e' = e'} h) start = step_keeps_both s s' e e' (Ok Halts) h start
    run_keeps_both (ends {s = s} {s' = s'} {e = e} {e' = e'} {x = x} h) start = step_keeps_both s s' e e' (Err x) h start
    run_keeps_both (goes_on {s = s} {s₁ = s₁} {e = e} {e₁ = e₁} h rest) start = run_keeps_both rest (step_keeps_both s s₁ e e₁ (Ok GoesOn) h start)

  module _ (P : MachineState → Type 0) (keeps : (s s' : MachineState) (e e' : E) (p : Progress) → StepsTo answers code s e (Ok p) s' e' → P s → P s') where
    verdict_keeps : (s : MachineState) (e e' : E) (i : Instruction) (q : Query) (v : Verdict) → question code s ≡ Ok (i, q) → answers e q v e' → P s → P (after i v s)
    verdict_keeps s e e' i q (Ok tags) asked a start =
        let s' = effect i.class i tags.0 tags.1 s in
        keeps s s' e e' (progress i.class) (subst (λ x. Settles answers x s e (Ok (progress i.class)) s' e') (sym asked) (Ok tags, a, refl, refl)) start
    verdict_keeps s e e' i q (Err v) asked a start = start

    -- What every granted step keeps of the state, a run keeps,
    pub run_keeps : {n g : ℕ} {s s' : MachineState} {e e' : E} {r : Outcome} → RunsTo answers code n s e r g s' e' → P s → P s'
    run_keeps h start = run_keeps_both (λ s _. P s) verdict_keeps h start

    -- and so does any number of runs.
    pub runs_keep : {s s' : MachineState} → RunsLeadTo answers code s s' → P s → P s'
    runs_keep no_run start = start
    runs_keep (one_run h rest) start = runs_keep rest (run_keeps h start)

  pub step_counted : (s s' : MachineState) (e e' : E) (p : Progress) → StepsTo answers code s e (Ok p) s' e' → s'.held.steps ≡ min (s.held.steps + 1) greatest_count
  step_counted s s' e e' p h =
      let g = granted answers code s s' e e' p h in
      let i = g.instruction in
      ap (λ (t : MachineState). t.held.steps) g.changed ∙ effect_steps i.class i g.tags.0 g.tags.1 s (asked code s i g.query g.asked).no_fault

  step_lengths : (s s' : MachineState) (e e' : E) (p : Progress) → StepsTo answers code s e (Ok p) s' e' → SameLengths s s'
  step_lengths s s' e e' p h =
      let g = granted answers code s s' e e' p h in
      let i = g.instruction in
      subst (SameLengths s) (sym g.changed) (effect_lengths i.class i g.tags.0 g.tags.1 s)

  lengths_stay : {n g : ℕ} {s s' : MachineState} {e e' : E} {r : Outcome} → RunsTo answers code n s e r g s' e' → SameLengths s s'
  lengths_stay {s = s₀} h = run_keeps (SameLengths s₀) (λ s s' e e' p step same. let t = step_lengths s s' e e' p step in (t.0 ∙ same.0, t.1 ∙ same.1, t.2 ∙ same.2)) h (refl, refl, refl)

  -- ── counts ──

  within_budget : {n g : ℕ} {s s' : MachineState} {e e' : E} {r : Outcome} → RunsTo answers code n s e r g s' e' → g ≤ n
  within_budget budget_used = omega arith
  within_budget (halts h) = omega arith
  within_budget (ends h) = omega arith
  within_budget (goes_on h rest) = let t = within_budget rest in omega arith

  steps_are_counted : {n g : ℕ} {s s' : MachineState} {e e' : E} {r : Outcome} → RunsTo answers code n s e r g s' e' → s.held.steps ≤ greatest_count → s'.held.steps ≡ min (s.held.steps + g) greatest_count
  steps_are_counted budget_used le = omega arith
  steps_are_counted (halts {s = s} {s' = s'} {e = e} {e' = e'} h) le = step_counted s s' e e' Halts h
  steps_are_counted (ends {s = s} {s' = s'} {e = e} {e' = e'} {x = x} h) le =
      let t = ap (λ (u : MachineState). u.held.steps) (ended_unchanged answers code s s' e e' x h) in
      omega arith
  steps_are_counted (goes_on {s = s} {s₁ = s₁} {e = e} {e₁ = e₁} h rest) le =
      let t = step_counted s s₁ e e₁ GoesOn h in
      let u = steps_are_counted rest (omega arith) in
      omega arith

  -- ── a budget in two parts ──

  longer : (m : ℕ) {n g : ℕ} {s s' : MachineState} {e e' : E} {r : Outcome} → RunsTo answers code n s e r g s' e' → (r ≡ Ok GoesOn → ⊥) → RunsTo answers code (n + m) s e r g s' e'
  longer m budget_used over = absurd (over refl)
  longer m (halts h) over = simp suc-add (halts h)
  longer m (ends h) over = simp suc-add (ends h)
  longer m (goes_on h rest) over = simp suc-add (goes_on h (longer m rest over))

  -- a run that goes on, and then another
  joined : {n m g h : ℕ} {s s₁ s' : MachineState} {e e₁ e' : E} {r₀ r : Outcome} → RunsTo answers code n s e r₀ g s₁ e₁ → r₀ ≡ Ok GoesOn → RunsTo answers code m s₁ e₁ r h s' e' → RunsTo answers code (n + m) s e r (g + h) s' e'
  joined budget_used on second = simp zero-add second
  joined (halts step) on second = grind arith
  joined (ends step) on second = grind arith
  joined (goes_on step rest) on second = simp suc-add (goes_on step (joined rest on second))

  parts_make_a_run : {n m g : ℕ} {s s' : MachineState} {e e' : E} {r : Outcome} → TwoRunsTo answers code n m s e r g s' e' → RunsTo answers code (n + m) s e r g s' e'
  parts_make_a_run {m = m} (halted_first h) = longer m h (λ p. grind arith)
  parts_make_a_run {m = m} (ended_first h) = longer m h (λ p. grind arith)
  parts_make_a_run (both first second) = joined first refl second

  one_more_first : {n m g : ℕ} {s s₁ s' : MachineState} {e e₁ e' : E} {r : Outcome} → StepsTo answers code s e (Ok GoesOn) s₁ e₁ → TwoRunsTo answers code n m s₁ e₁ r g s' e' → TwoRunsTo answers code (suc n) m s e r (suc g) s' e'
  one_more_first step (halted_first h) = halted_first (goes_on step h)
  one_more_first step (ended_first h) = ended_first (goes_on step h)
  one_more_first step (both {g = g} {h = h} first second) = rw (← suc-add g h) (both (goes_on step first) second)

  first_step : {k n m g : ℕ} {s s' : MachineState} {e e' : E} {r : Outcome} → ((g₁ : ℕ) (s₁ : MachineState) (e₁ : E) → RunsTo answers code k s₁ e₁ r g₁ s' e' → TwoRunsTo answers code n m s₁ e₁ r g₁ s' e')
      → RunsTo answers code (suc k) s e r g s' e' → TwoRunsTo answers code (suc n) m s e r g s' e'
  first_step split (halts step) = halted_first (halts step)
  first_step split (ends step) = ended_first (ends step)
  first_step split (goes_on {g = g} {s₁ = s₁} {e₁ = e₁} step rest) = one_more_first step (split g s₁ e₁ rest)

  runs_have_parts : (n m g : ℕ) (s s' : MachineState) (e e' : E) (r : Outcome) → RunsTo answers code (n + m) s e r g s' e' → TwoRunsTo answers code n m s e r g s' e'
  runs_have_parts zero m g s s' e e' r h = rw (← zero-add g) (both budget_used (rw (zero-add m) at h))
  runs_have_parts (suc n) m g s s' e e' r h = first_step (λ g₁ s₁ e₁ rest. runs_have_parts n m g₁ s₁ s' e₁ e' r rest) (rw (suc-add n m) at h)

  -- ── questions ──

  -- how often a step asks
  abbrev asks : Outcome → ℕ
  asks (Ok p) = 1
  asks (Err (Faulted f)) = 0
  asks (Err (Violated v)) = 1

  verdict_asks : (i : Instruction) (v : Verdict) → asks (outcome i v) ≡ 1
  verdict_asks i (Ok tags) = refl
  verdict_asks i (Err v) = refl

  settled_asks : (x : Question) (s s' : MachineState) (e e' : E) (r : Outcome) (k : ℕ) → Settles answers x s e r s' e' → Settles (counting answers) x s (e, k) r s' (e', k + asks r)
  settled_asks (Ok (i, q)) s s' e e' r k (v, a, p, c) = (v, (a, ap (λ n. k + n) (ap asks p ∙ verdict_asks i v)), p, c)
  settled_asks (Err f) s s' e e' r k (p, c, d) =
      let none : k + asks r ≡ k + 0 = ap (λ x. k + asks x) p in
      let same : k + asks r ≡ k = omega arith in
      (p, c, cc)

  step_asks : (s s' : MachineState) (e e' : E) (r : Outcome) (k : ℕ) → StepsTo answers code s e r s' e' → StepsTo (counting answers) code s (e, k) r s' (e', k + asks r)
  step_asks s s' e e' r k h = settled_asks (question code s) s s' e e' r k h

  ended_questions : (x : End) → asks (Err x) ≡ questions (Err x) 0
  ended_questions (Faulted f) = refl
  ended_questions (Violated v) = refl

  more_questions : (r : Outcome) (k g : ℕ) → k + 1 + questions r g ≡ k + questions r (suc g)
  more_questions (Ok p) k g = omega arith
  more_questions (Err (Faulted f)) k g = omega arith
  more_questions (Err (Violated v)) k g = omega arith

  questions_are_counted : {n g : ℕ} {s s' : MachineState} {e e' : E} {r : Outcome} (k : ℕ) → RunsTo answers code n s e r g s' e' → RunsTo (counting answers) code n s (e, k) r g s' (e', k + questions r g)
  questions_are_counted k budget_used = simp add-zero budget_used
  questions_are_counted k (halts h) = halts (step_asks _ _ _ _ _ k h)
  questions_are_counted k (ends {x = x} h) = rw (← ended_questions x) (ends (step_asks _ _ _ _ _ k h))
  questions_are_counted k (goes_on {g = g} {r = r} h rest) = rw (← more_questions r k g) (goes_on (step_asks _ _ _ _ _ k h) (questions_are_counted (k + 1) rest))

pub run_laws : {E : Type 0} (answers : Answers E) → RunLaws answers
run_laws answers = record {
  parts_make_a_run = λ code n m g s s' e e' r. parts_make_a_run answers code;
  runs_have_parts = runs_have_parts answers;
  within_budget = λ code n g s s' e e' r. within_budget answers code;
  steps_are_counted = λ code n g s s' e e' r. steps_are_counted answers code;
  lengths_stay = λ code n g s s' e e' r. lengths_stay answers code;
  questions_are_counted = λ code n g k s s' e e' r. questions_are_counted answers code k;
  runs_keep_what_steps_keep = λ code P keeps s s'. runs_keep answers code (λ t. P t ≡ true) keeps;
}
