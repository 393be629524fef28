-- The worked images: their histories, and what is seen of them, by computing.
use Rattle.std.proofs.Common.{ℕ, zero, suc, ◌<◌, List, [], ◌∷◌, refl, inl, inr, arith}
use Rattle.labels.specs.Order.{tag}
use Rattle.orders.specs.Makes.{two_point}
use Rattle.labels.specs.declared.cell.Cell.{Cell}
use Rattle.rules.specs.Flow.{flow}
use Rattle.rules.specs.Engines.{AnswersBy, MeansBy}
use Rattle.machine.specs.Machine.{zero_cell}
use Rattle.machine.specs.Effect.{cell_at}
use Rattle.execution.specs.Step.{instruction_of, question, step_by}
use Rattle.observer.specs.Observer.{reader, Alike}
use Rattle.execution.specs.Run.{run_by}
use Rattle.image.specs.Layout.{cells_of}
use Rattle.sitting.specs.Sitting.{machine_state, code_of_sitting}
use Rattle.sitting.specs.Run.{RunDone, SittingRuns, sitting_run_by}
use Rattle.viewing.specs.declared.peek.Location.TheVariants.{RegisterNumber, CellNumber}
use Rattle.examiner.specs.History.{Memory, Side, new_side, after_open, after_run, after_page, after_peek, History, begins, opens, runs, pages, peeks}
use Rattle.examiner.specs.Guarantee.{In, AlikeImages}
use Rattle.examiner.specs.Worked.{worked_image, worked_page, TwoPointEngine, two_point_book, ShowsWorkedPage, worked_peek, hidden_peek}
use Rattle.examiner.proofs.RunsOfBooks.{makes_run_of_book}

-- the only cell has a tag that the reader does not see
alike_at : (n : ℕ) → n < 1 → Alike (reader two_point (tag 0)) (cell_at (cells_of (worked_image 42)) n) (cell_at (cells_of (worked_image 0)) n)
alike_at zero h = inl (refl, refl)
alike_at (suc n) h = absurd (omega arith)

pub alike_worked : AlikeImages two_point (worked_image 42) (worked_image 0)
alike_worked = record { same_reader = refl; same_code = refl; alike_cells = (refl, alike_at) }

-- room for the cell, for an output, and for a page
abbrev room : List Cell
room = zero_cell ∷ []

abbrev engine : TwoPointEngine
engine = record { order = record {} }

-- opening, one run of at most 20 steps, a page and two peeks
module _ (secret : ℕ) where
  abbrev image : List ℕ
  image = worked_image secret

  abbrev opened_side : Side
  opened_side = after_open two_point new_side (record { image = image; cells = room; outputs = room })

  abbrev own : Memory
  own = record { image = image; cells = cells_of image; outputs = room }

  abbrev done : RunDone
  done = sitting_run_by (flow two_point) opened_side.standing image own.cells own.outputs 20

  abbrev own_then : Memory
  own_then = record { image = image; cells = done.cells; outputs = done.outputs }

  abbrev paged_side : Side
  paged_side = after_page two_point (after_run opened_side done) own_then room

  abbrev peeked_side : Side
  peeked_side = after_peek two_point (after_peek two_point paged_side own_then (RegisterNumber 4)) own_then (CellNumber 0)

  worked_run : SittingRuns (AnswersBy two_point_book) opened_side.standing image own.cells own.outputs 20 engine done engine
  worked_run = (
    run_by (flow two_point) (code_of_sitting opened_side.standing image) 20 (machine_state opened_side.standing own.cells own.outputs),
    makes_run_of_book two_point_book (code_of_sitting opened_side.standing image) engine 20 (machine_state opened_side.standing own.cells own.outputs),
    refl,
  )

  worked_history : History two_point (AnswersBy two_point_book) (MeansBy two_point_book) peeked_side
  worked_history =
      let opening = opens begins (record { image = image; cells = room; outputs = room }) in
      let paged = pages (runs opening own refl 20 engine engine done (λ q. refl) worked_run) own_then refl room in
      peeks (peeks paged own_then refl (RegisterNumber 4)) own_then refl (CellNumber 0)

  shows_worked_page : In worked_page peeked_side.pages → In worked_peek peeked_side.peeks → In hidden_peek peeked_side.peeks → ShowsWorkedPage image
  shows_worked_page seen shown hidden = record {
    side = peeked_side;
    own = own_then;
    history = worked_history;
    opened = refl;
    with_image = refl;
    seen = seen;
    shown = shown;
    hidden = hidden;
  }

pub left_marked : ShowsWorkedPage (worked_image 42)
unfolding flow instruction_of question step_by
left_marked = shows_worked_page 42 (inl refl) (inr (inl refl)) (inl refl)

pub right_marked : ShowsWorkedPage (worked_image 0)
unfolding flow instruction_of question step_by
right_marked = shows_worked_page 0 (inl refl) (inr (inl refl)) (inl refl)
