-- Over an engine that means a book, a step and a run are functions of the book.
use Rattle.std.proofs.Common.{◌≡◌, ℕ, suc, List, Ok, Err, sym, refl, ap, ◌∙◌, subst}
use Rattle.image.specs.declared.entry.CodeEntry.{CodeEntry}
use Rattle.rules.specs.Book.{Verdict, Book}
use Rattle.rules.specs.declared.query.Query.{Query}
use Rattle.machine.specs.declared.progress.Progress.TheVariants.{GoesOn, Halts}
use Rattle.machine.specs.Effect.{MachineState}
use Rattle.execution.specs.Step.{Question, Outcome, Answers, Settles, StepsTo, question, outcome, after, settle_by, step_by}
use Rattle.execution.specs.Run.{RunsTo, budget_used, halts, ends, goes_on, ran, one_more, continue_by, run_by}

-- an engine that means a book answers by it, and means it afterwards
abbrev pub Faithful : {E : Type 0} → Answers E → (E → Book → Type 0) → Type 0
Faithful {E} answers means = (before : E) (q : Query) (v : Verdict) (after : E) (b : Book) → answers before q v after → means before b → (v ≡ b q) × means after b

module _ {E : Type 0} (answers : Answers E) (means : E → Book → Type 0) (faithful : Faithful answers means) (code : List CodeEntry) (book : Book) where
  abbrev ByBook : Outcome → MachineState → E → Outcome × MachineState → Type 0
  ByBook r s' e' x = (r ≡ x.0) × (s' ≡ x.1) × means e' book

  settles_by_book : (x : Question) (s : MachineState) (e : E) (r : Outcome) (s' : MachineState) (e' : E) → Settles answers x s e r s' e' → means e book → ByBook r s' e' (settle_by book s x)
  settles_by_book (Ok (i, q)) s e r s' e' (v, a, p, c) m =
      let k = faithful e q v e' book a m in
      (p ∙ ap (outcome i) k.0, c ∙ ap (λ w. after i w s) k.0, k.1)
  settles_by_book (Err f) s e r s' e' (p, c, d) m = (p, c, subst (λ x. means x book) (sym d) m)

  pub steps_by_book : (s s' : MachineState) (e e' : E) (r : Outcome) → StepsTo answers code s e r s' e' → means e book → ByBook r s' e' (step_by book code s)
  unfolding step_by
  steps_by_book s s' e e' r h m = settles_by_book (question code s) s e r s' e' h m

  continues : (n : ℕ) (s : MachineState) (r : Outcome) (s₁ : MachineState) → r ≡ (step_by book code s).0 → s₁ ≡ (step_by book code s).1 → continue_by (run_by book code n) r s₁ ≡ run_by book code (suc n) s
  continues n s r s₁ p c = rw (p, c) refl

  pub runs_by_book : {n g : ℕ} {s s' : MachineState} {e e' : E} {r : Outcome} → RunsTo answers code n s e r g s' e' → means e book → (ran r g s' ≡ run_by book code n s) × means e' book
  runs_by_book budget_used m = (refl, m)
  runs_by_book (halts {n = n} {s = s} {s' = s'} {e = e} {e' = e'} h) m =
      let t = steps_by_book s s' e e' (Ok Halts) h m in
      (continues n s (Ok Halts) s' t.0 t.1, t.2)
  runs_by_book (ends {n = n} {s = s} {s' = s'} {e = e} {e' = e'} {x = x} h) m =
      let t = steps_by_book s s' e e' (Err x) h m in
      (continues n s (Err x) s' t.0 t.1, t.2)
  runs_by_book (goes_on {n = n} {s = s} {s₁ = s₁} {e = e} {e₁ = e₁} h rest) m =
      let t = steps_by_book s s₁ e e₁ (Ok GoesOn) h m in
      let u = runs_by_book rest t.2 in
      (ap one_more u.0 ∙ continues n s (Ok GoesOn) s₁ t.0 t.1, u.1)
