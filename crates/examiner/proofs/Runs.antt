-- A run: refused, it changes nothing; made, it comes to a view that the observer's machine reaches.
use Rattle.std.proofs.Common.{◌≡◌, ℕ, Bool, true, false, ◌&&◌, List, Some, None, Ok, Err, Option, sym, refl, ap, subst}
use Rattle.std.proofs.lemmas.Bool.{true≢false, both_ways}
use Rattle.labels.specs.Order.{Meaning, Laws}
use Rattle.labels.specs.declared.refusal.Refusal.{Refusal}
use Rattle.labels.specs.declared.refusal.Refusal.TheVariants.{WrongState, WrongLength}
use Rattle.image.specs.Load.{check}
use Rattle.rules.specs.Book.{Verdict, Book}
use Rattle.rules.specs.Flow.{flow}
use Rattle.rules.specs.declared.query.Query.{Query}
use Rattle.machine.specs.declared.progress.Progress.TheVariants.{GoesOn, Halts}
use Rattle.execution.specs.declared.outcome.End.TheVariants as end
use Rattle.execution.specs.Step.{Outcome, Answers}
use Rattle.execution.specs.Run.{Ran, RunsTo}
use Rattle.execution.proofs.RunLaws.{run_laws}
use Rattle.observer.specs.View.{view}
use Rattle.observer.specs.ObserverMachine.{Reaches}
use Rattle.observer.specs.ObserverLaws.{has_halted}
use Rattle.observer.proofs.ObservedRuns.{reaches_further, run_reaches}
use Rattle.observer.proofs.Unseen.{reader_downward}
use Rattle.sitting.specs.declared.sitting.State.{State}
use Rattle.sitting.specs.declared.sitting.State.TheVariants.{Blank, Running, Halted, Faulted, Violated}
use Rattle.sitting.specs.Sitting.{Standing, is_blank, is_running, is_halted, machine_state, code_of_sitting, lengths_fit}
use Rattle.sitting.specs.Run.{RunDone, run_made, RunUnless, SittingRuns, state_after}
use Rattle.viewing.specs.Page.{reader_of}
use Rattle.examiner.specs.History.{Memory, PageSeen, PeekSeen, MayGet, memory_after_run}
use Rattle.examiner.specs.Guarantee.{In}
use Rattle.examiner.proofs.StandingSides.{first_view, StandsOpened, NotOpened, Stands}

-- of engines: one that means a book answers by it, and means it afterwards
abbrev pub Faithful : {E : Type 0} → Answers E → (E → Book → Type 0) → Type 0
Faithful {E} answers means =
    (before : E) (q : Query) (v : Verdict) (after : E) (b : Book) → answers before q v after → means before b → (v ≡ b q) × means after b

halted_by_outcome : (r : Outcome) → has_halted r ≡ is_halted (state_after r)
halted_by_outcome (Ok GoesOn) = refl
halted_by_outcome (Ok Halts) = refl
halted_by_outcome (Err (end.Faulted fault)) = refl
halted_by_outcome (Err (end.Violated violation)) = refl

not_blank_after : (r : Outcome) → is_blank (state_after r) ≡ false
not_blank_after (Ok GoesOn) = refl
not_blank_after (Ok Halts) = refl
not_blank_after (Err (end.Faulted fault)) = refl
not_blank_after (Err (end.Violated violation)) = refl

running_not_halted : (x : State) → is_running x ≡ true → is_halted x ≡ false
running_not_halted Blank e = refl
running_not_halted Running e = refl
running_not_halted Halted e = absurd (true≢false (sym e))
running_not_halted (Faulted fault) e = refl
running_not_halted (Violated violation) e = refl

module _ (m : Meaning) (laws : Laws m) {E : Type 0} (answers : Answers E) (means : E → Book → Type 0) (faithful : Faithful answers means)
    (s : Standing) (pages : List PageSeen) (peeks : List PeekSeen) (budget : ℕ) (e e' : E) (means_flow : means e (flow m)) where
  abbrev AfterRun : Option Memory → RunDone → Type 0
  AfterRun memory done = Stands m (memory_after_run memory done) done.sitting pages peeks

  -- a sitting that runs was not halted before, so that no page was marked and no peek was made when halted
  run_made_stands : (own : Memory) (r : Ran) → is_running s.state ≡ true → StandsOpened m own s pages peeks
      → RunsTo answers (code_of_sitting s own.image) budget (machine_state s own.cells own.outputs) e r.outcome r.granted r.state e'
      → AfterRun (Some own) (run_made s r)
  run_made_stands own r running stands run =
      let sees = reader_of m s in
      let code = code_of_sitting s own.image in
      let before = machine_state s own.cells own.outputs in
      let not_halted = running_not_halted s.state running in
      let same_lengths = (run_laws answers).lengths_stay code budget r.granted before r.state e e' r.outcome run in
      let so_far : Reaches m sees code (first_view m s own) (view sees false before) =
      subst (λ (b : Bool). Reaches m sees code (first_view m s own) (view sees b before)) not_halted stands.all_shown.reached in
      let further = run_reaches m laws answers means faithful sees (reader_downward m laws s.opening.header.reader) code means_flow run in
      let unmarked : (p : PageSeen) → In p pages → p.marked ≡ true → ⊥ =
      λ p h marked. both_ways (is_halted s.state && sees s.machine.pc_tag) (rw not_halted) (stands.all_shown.marked_when_halted p h marked) in
      let unhalted : (x : PeekSeen) → In x peeks → x.when_halted ≡ true → ⊥ =
      λ x h halted. both_ways (is_halted s.state) not_halted (stands.still_halted x h halted) in
      record {
        header = stands.header;
        named = stands.named;
        lengths = rw (same_lengths.1, same_lengths.2) stands.lengths;
        not_blank = not_blank_after r.outcome;
        still_halted = λ x h halted. absurd (unhalted x h halted);
        all_shown = record {
          reached = subst (λ (b : Bool). Reaches m sees code (first_view m s own) (view sees b r.state)) (halted_by_outcome r.outcome) (reaches_further m sees code so_far further);
          page_shows = stands.all_shown.page_shows;
          marked_when_halted = λ p h marked. absurd (unmarked p h marked);
          peek_shows = λ x h halted. absurd (unhalted x h halted);
        };
      }

  -- a blank sitting is not run
  blank_run : (given : Memory) (b : Bool) (next : Option Refusal) (done : RunDone) → is_running s.state ≡ b → NotOpened s pages peeks
      → RunUnless answers (check b WrongState next) s given.image given.cells given.outputs budget e done e' → AfterRun None done
  blank_run given false next done told stands (same, engine) = subst (AfterRun None) (sym same) stands
  blank_run given true next done told stands run =
      absurd (both_ways (is_running s.state) (ap (λ (x : Standing). is_running x.state) stands.still_blank) told)

  opened_run : (own : Memory) (b fits : Bool) (done : RunDone) → is_running s.state ≡ b → StandsOpened m own s pages peeks
      → RunUnless answers (check b WrongState (check fits WrongLength None)) s own.image own.cells own.outputs budget e done e' → AfterRun (Some own) done
  opened_run own false fits done told stands (same, engine) = subst (AfterRun (Some own)) (sym same) stands
  opened_run own true false done told stands (same, engine) = subst (AfterRun (Some own)) (sym same) stands
  opened_run own true true done told stands (r, run, same) = subst (AfterRun (Some own)) (sym same) (run_made_stands own r told stands run)

  pub run_keeps : (memory : Option Memory) (given : Memory) (done : RunDone) → MayGet memory given → Stands m memory s pages peeks
      → SittingRuns answers s given.image given.cells given.outputs budget e done e' → AfterRun memory done
  run_keeps None given done gets stands run =
      blank_run given (is_running s.state) (check (lengths_fit s.opening given.image given.cells given.outputs) WrongLength None) done refl stands run
  run_keeps (Some own) given done gets stands run =
      opened_run own (is_running s.state) (lengths_fit s.opening own.image own.cells own.outputs) done refl stands
      (subst (λ (x : Memory). SittingRuns answers s x.image x.cells x.outputs budget e done e') gets run)
