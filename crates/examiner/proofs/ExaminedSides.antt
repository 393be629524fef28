-- What is done on one side: the calls in their order, which are a history.
use Rattle.std.proofs.Common.{◌≡◌, ℕ, List, None, Ok, Err, Result, sym, refl, ap, ◌∙◌, subst}
use Rattle.labels.specs.Order.{Meaning}
use Rattle.labels.specs.declared.cell.Cell.{Cell}
use Rattle.labels.specs.declared.refusal.Refusal.{Refusal}
use Rattle.rules.specs.Book.{Book}
use Rattle.rules.specs.Flow.{flow}
use Rattle.execution.specs.Step.{Answers}
use Rattle.viewing.specs.declared.page.Page.{Page}
use Rattle.sitting.specs.Sitting.{Standing, blank}
use Rattle.sitting.specs.Open.{Opened, after_call}
use Rattle.sitting.specs.Run.{RunDone, SittingRuns, sitting_run_by}
use Rattle.examiner.specs.History.{Memory, Side, new_side, History, begins, opens, runs, pages, MayGet, memory_after_open, memory_after_run, after_open, after_run, after_page}
use Rattle.examiner.specs.Examined.{memory, SideDone, side_done, paged_after, opened_with, examined_unless, examined_by, ExaminedUnless, ExaminedFrom, IsHistory}

-- what the calls come to after a granted open, with a run
pub open_granted : (m : Meaning) (s : Standing) (given : Memory) (page : List Cell) (budget : ℕ) (now : Standing) (cells : List Cell) (done : RunDone) (side : SideDone)
    → side ≡ paged_after done.answered m given.image page done → after_call (Ok tt) now cells ≡ opened_with m s given
    → {E : Type 0} (answers : Answers E) (e e' : E) → SittingRuns answers now given.image cells given.outputs budget e done e' → ExaminedFrom answers m s given page budget e side e'
open_granted m s given page budget now cells done side is opening answers e e' run =
    subst (λ (o : Opened). ExaminedUnless answers m o.answered o given page budget e side e') opening (done, run, is)

-- ── they are a history ──

module _ (m : Meaning) {E : Type 0} (answers : Answers E) (means : E → Book → Type 0) (given : Memory) (page : List Cell) (budget : ℕ) (e e' : E) (means_flow : means e (flow m)) where
  abbrev o : Opened
  o = opened_with m blank given

  -- the memory of a granted open, and what a run leaves of it
  abbrev own : Memory
  own = memory given.image o.cells given.outputs

  abbrev opened_side : Side
  opened_side = after_open m new_side given

  module _ (done : RunDone) (told : o.answered ≡ Ok tt) (run : SittingRuns answers o.sitting given.image o.cells given.outputs budget e done e') where
    abbrev own_then : Memory
    own_then = memory given.image done.cells done.outputs

    abbrev run_side : Side
    run_side = after_run opened_side done

    gets_own : MayGet opened_side.memory own
    gets_own = subst (λ (r : Result (Unit {0}) Refusal). MayGet (memory_after_open r None own) own) (sym told) refl

    gets_own_then : MayGet run_side.memory own_then
    gets_own_then = subst (λ (r : Result (Unit {0}) Refusal). MayGet (memory_after_run (memory_after_open r None own) done) own_then) (sym told) refl

    memory_then : run_side.memory ≡ memory_after_open o.answered None own_then
    memory_then = subst (λ (r : Result (Unit {0}) Refusal). memory_after_run (memory_after_open r None own) done ≡ memory_after_open r None own_then) (sym told) refl

    run_history : History m answers means run_side
    run_history = runs (opens begins given) own gets_own budget e e' done means_flow run

    paged_is_history : (r : Result ℕ Refusal) → IsHistory answers m means given (paged_after r m given.image page done)
    paged_is_history (Ok steps) = record {
      came_to = after_page m run_side own_then page;
      history = pages run_history own_then gets_own_then page;
      same_sitting = refl;
      same_memory = memory_then;
      same_pages = refl;
      no_peeks = refl;
    }
    paged_is_history (Err refusal) = record { came_to = run_side; history = run_history; same_sitting = refl; same_memory = memory_then; same_pages = refl; no_peeks = refl }

  by_answer : (side : SideDone) (r : Result (Unit {0}) Refusal) → o.answered ≡ r → ExaminedUnless answers m r o given page budget e side e' → IsHistory answers m means given side
  by_answer side (Ok u) told (done, run, is) = subst (IsHistory answers m means given) (sym is) (paged_is_history done told run done.answered)
  by_answer side (Err refusal) told (is, engine) =
      subst (IsHistory answers m means given) (sym is)
      (record { came_to = opened_side; history = opens begins given; same_sitting = refl; same_memory = refl; same_pages = refl; no_peeks = refl })

  pub examined_is_history : (side : SideDone) → ExaminedFrom answers m blank given page budget e side e' → IsHistory answers m means given side
  examined_is_history side examined = by_answer side o.answered refl examined
