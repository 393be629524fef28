-- Histories: what any calls of open, run, page and peek make of one sitting, and what they show.
use Rattle.std.specs.Prelude.{◌≡◌, ℕ, Bool, List, [], ◌∷◌, length, take, Some, None, Ok, Err, Option, Result}
use Rattle.labels.specs.Order.{Meaning}
use Rattle.labels.specs.declared.cell.Cell.{Cell}
use Rattle.labels.specs.declared.refusal.Refusal.{Refusal}
use Rattle.rules.specs.Book.{Book}
use Rattle.rules.specs.Flow.{flow}
use Rattle.execution.specs.Step.{Answers}
use Rattle.viewing.specs.declared.page.Page.{Page}
use Rattle.viewing.specs.declared.peek.Location.{Location}
use Rattle.sitting.specs.Sitting.{Standing, blank, is_halted}
use Rattle.sitting.specs.Open.{Opened, opened}
use Rattle.sitting.specs.Run.{RunDone, SittingRuns}
use Rattle.viewing.specs.Page.{page_answer, page_written}
use Rattle.viewing.specs.Peek.{peek_answer}

-- what a caller hands in: an image, cells and an output list
pub record Memory : Type 0 where
  pub image : List ℕ
  pub cells : List Cell
  pub outputs : List Cell

-- a granted page: the records written, tags included, and the end mark
pub record PageSeen : Type 0 where
  pub outputs : List Cell
  pub marked : Bool

-- a peek, granted or refused: where, what it answered (none is hidden), and whether the sitting was halted then
pub record PeekSeen : Type 0 where
  pub location : Location
  pub answered : Result (Option Cell) Refusal
  pub when_halted : Bool

-- one side: where its sitting stands, the memory of its granted open as it now is, and all that was seen of it
pub record Side : Type 0 where
  pub standing : Standing
  pub memory : Option Memory
  pub pages : List PageSeen
  pub peeks : List PeekSeen

-- a new sitting, of which nothing was seen
abbrev pub new_side : Side
new_side = record { standing = blank; memory = None; pages = []; peeks = [] }

-- Until an open is granted, a call may get any memory; from then on run, page and peek get that open's.
abbrev pub MayGet : Option Memory → Memory → Type 0
MayGet None given = Unit {0}
MayGet (Some own) given = given ≡ own

-- ── what each call makes of a side ──

-- the memory of a granted open becomes the side's own
abbrev pub memory_after_open : Result (Unit {0}) Refusal → Option Memory → Memory → Option Memory
memory_after_open (Ok u) before given = Some given
memory_after_open (Err refusal) before given = before

abbrev pub after_open : Meaning → Side → Memory → Side
after_open m h given =
    let o : Opened = opened m h.standing given.image given.cells (length given.outputs) in
    record {
      standing = o.sitting;
      memory = memory_after_open o.answered h.memory (record { image = given.image; cells = o.cells; outputs = given.outputs });
      pages = h.pages;
      peeks = h.peeks;
    }

-- what a run leaves in the side's own memory
abbrev pub memory_after_run : Option Memory → RunDone → Option Memory
memory_after_run None done = None
memory_after_run (Some own) done = Some (record { image = own.image; cells = done.cells; outputs = done.outputs })

abbrev pub after_run : Side → RunDone → Side
after_run h done = record {
  standing = done.sitting;
  memory = memory_after_run h.memory done;
  pages = h.pages;
  peeks = h.peeks;
}

-- a granted page is what stands at the front of the page list at the return, as much as was answered, with the mark
abbrev pub page_added : Result Page Refusal → List Cell → List PageSeen → List PageSeen
page_added (Ok page) written seen = record { outputs = take page.outputs written; marked = page.end_mark } ∷ seen
page_added (Err refusal) written seen = seen

abbrev pub after_page : Meaning → Side → Memory → List Cell → Side
after_page m h given page_list = record {
  standing = h.standing;
  memory = h.memory;
  pages = page_added (page_answer m h.standing given.image given.cells given.outputs page_list)
      (page_written m h.standing given.image given.cells given.outputs page_list) h.pages;
  peeks = h.peeks;
}

abbrev pub after_peek : Meaning → Side → Memory → Location → Side
after_peek m h given at = record {
  standing = h.standing;
  memory = h.memory;
  pages = h.pages;
  peeks = record {
    location = at;
    answered = peek_answer m h.standing given.image given.cells given.outputs at;
    when_halted = is_halted h.standing.state;
  } ∷ h.peeks;
}

-- A history of one side: from a new sitting, any calls of open, run, page and peek in any order, granted or refused.
-- The engine given to each run, which may be another each time, means the order's flow rules.
pub data History (m : Meaning) {E : Type 0} (answers : Answers E) (means : E → Book → Type 0) : Side → Type 0 where
  begins : History m answers means new_side
  opens : {h : Side} → History m answers means h → (given : Memory) → History m answers means (after_open m h given)
  runs : {h : Side} → History m answers means h → (given : Memory) → MayGet h.memory given → (budget : ℕ) (e e' : E) (done : RunDone)
      → means e (flow m) → SittingRuns answers h.standing given.image given.cells given.outputs budget e done e' → History m answers means (after_run h done)
  pages : {h : Side} → History m answers means h → (given : Memory) → MayGet h.memory given → (page_list : List Cell) → History m answers means (after_page m h given page_list)
  peeks : {h : Side} → History m answers means h → (given : Memory) → MayGet h.memory given → (at : Location) → History m answers means (after_peek m h given at)
