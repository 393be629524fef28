-- What examining one sitting and two side by side does, and how their pages compare.
use Rattle.std.specs.Prelude.{◌≡◌, ℕ, List, [], length, take, Some, None, Ok, Err, Option, Result}
use Rattle.labels.specs.Order.{Meaning}
use Rattle.labels.specs.declared.cell.Cell.{Cell}
use Rattle.labels.specs.declared.refusal.Refusal.{Refusal}
use Rattle.rules.specs.Book.{Book}
use Rattle.rules.specs.Flow.{flow}
use Rattle.execution.specs.Step.{Answers}
use Rattle.viewing.specs.declared.lent.LentMemory.{LentMemory}
use Rattle.viewing.specs.declared.page.Page.{Page}
use Rattle.sitting.specs.Sitting.{Standing, standing, blank}
use Rattle.sitting.specs.Open.{Opened, opened}
use Rattle.sitting.specs.Run.{RunDone, SittingRuns, sitting_run_by}
use Rattle.viewing.specs.Page.{page_answer, page_written}
use Rattle.examiner.specs.History.{Memory, Side, History, memory_after_open, page_added}
use Rattle.examiner.specs.Comparison.{compared}
use Rattle.examiner.specs.declared.compare.Comparison.{Comparison}
use Rattle.examiner.specs.declared.side.SideSeen.{SideSeen}

abbrev pub memory : List ℕ → List Cell → List Cell → Memory
memory image cells outputs = record { image = image; cells = cells; outputs = outputs }

-- what lent memory holds but for its page list
abbrev pub memory_of : LentMemory → Memory
memory_of lent = memory lent.image.now lent.cells.now lent.outputs.now

-- what the calls on one sitting come to: the answer, and what sitting, cells, outputs and page list then hold
pub record SideDone : Type 0 where
  pub answered : Result Page Refusal
  pub sitting : Standing
  pub cells : List Cell
  pub outputs : List Cell
  pub page : List Cell

abbrev pub side_done : Result Page Refusal → Standing → List Cell → List Cell → List Cell → SideDone
side_done r s cells outputs page = record { answered = r; sitting = s; cells = cells; outputs = outputs; page = page }

abbrev pub side_of : SideSeen → List Cell → List Cell → List Cell → SideDone
side_of seen cells outputs page = side_done seen.page (standing seen.sitting) cells outputs page

-- the same of what lent memory then holds
abbrev pub side_with : Result Page Refusal → Standing → LentMemory → SideDone
side_with r s lent = side_done r s lent.cells.now lent.outputs.now lent.page.now

abbrev pub side_in : SideSeen → LentMemory → SideDone
side_in seen lent = side_with seen.page (standing seen.sitting) lent

-- After a granted run the sitting is paged; a refused run is the answer, and the page list stays.
abbrev pub paged_after : Result ℕ Refusal → Meaning → List ℕ → List Cell → RunDone → SideDone
paged_after (Ok steps) m image page done =
    side_done (page_answer m done.sitting image done.cells done.outputs page) done.sitting done.cells done.outputs
    (page_written m done.sitting image done.cells done.outputs page)
paged_after (Err refusal) m image page done = side_done (Err refusal) done.sitting done.cells done.outputs page

abbrev pub opened_with : Meaning → Standing → Memory → Opened
opened_with m s given = opened m s given.image given.cells (length given.outputs)

-- A sitting is opened and, where that is granted, run by a book and paged; a refused open is the answer.
abbrev pub examined_unless : Result (Unit {0}) Refusal → Book → Meaning → Opened → Memory → List Cell → ℕ → SideDone
examined_unless (Ok u) book m o given page budget =
    let done : RunDone = sitting_run_by book o.sitting given.image o.cells given.outputs budget in
    paged_after done.answered m given.image page done
examined_unless (Err refusal) book m o given page budget = side_done (Err refusal) o.sitting o.cells given.outputs page

abbrev pub examined_by : Book → Meaning → Standing → Memory → List Cell → ℕ → SideDone
examined_by book m s given page budget = examined_unless (opened_with m s given).answered book m (opened_with m s given) given page budget

module _ {E : Type 0} (answers : Answers E) (m : Meaning) where
  -- The same over any engine: what it answers decides the run.
  abbrev pub ExaminedUnless : Result (Unit {0}) Refusal → Opened → Memory → List Cell → ℕ → E → SideDone → E → Type 0
  ExaminedUnless (Ok u) o given page budget e side e' =
      (done : RunDone) × SittingRuns answers o.sitting given.image o.cells given.outputs budget e done e'
      × (side ≡ paged_after done.answered m given.image page done)
  ExaminedUnless (Err refusal) o given page budget e side e' =
      (side ≡ side_done (Err refusal) o.sitting o.cells given.outputs page) × (e' ≡ e)

  abbrev pub ExaminedFrom : Standing → Memory → List Cell → ℕ → E → SideDone → E → Type 0
  ExaminedFrom s given page budget e side e' =
      ExaminedUnless (opened_with m s given).answered (opened_with m s given) given page budget e side e'

  -- What was done on one side is a history: its sitting, its memory if it was opened, the page if one was granted, and no peek.
  pub record IsHistory (means : E → Book → Type 0) (given : Memory) (side : SideDone) : Type 0 where
    pub came_to : Side
    pub history : History m answers means came_to
    pub same_sitting : came_to.standing ≡ side.sitting
    pub same_memory : came_to.memory ≡ memory_after_open (opened_with m blank given).answered None (memory given.image side.cells side.outputs)
    pub same_pages : came_to.pages ≡ page_added side.answered side.page []
    pub no_peeks : came_to.peeks ≡ []

  -- All that is promised of one side over an engine, which may change: what its calls come to, which is what each book that
  -- the engine means makes of them, and a history where the engine means the order's flow rules.
  pub record SideExamined (means : E → Book → Type 0) (given : Memory) (page : List Cell) (budget : ℕ) (e : E) (side : SideDone) (e' : E) : Type 0 where
    pub examined : ExaminedFrom blank given page budget e side e'
    pub by_book : (book : Book) → means e book → (side ≡ examined_by book m blank given page budget) × means e' book
    pub history : means e (flow m) → IsHistory means given side

-- how the records written on both sides compare, where both pages were granted
abbrev pub pages_compared : Result Page Refusal → List Cell → Result Page Refusal → List Cell → Option Comparison
pages_compared (Ok left) left_page (Ok right) right_page = Some (compared (take left.outputs left_page) (take right.outputs right_page))
pages_compared (Ok left) left_page (Err refusal) right_page = None
pages_compared (Err refusal) left_page right right_page = None
