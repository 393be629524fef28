-- The worked image with two secrets: the guarantee has something to say.
use Rattle.std.specs.Prelude.{◌≡◌, ℕ, true, List, [], ◌∷◌, Some, None, Ok}
use Rattle.labels.specs.Order.{tag}
use Rattle.orders.specs.Makes.{two_point}
use Rattle.orders.specs.declared.two_point.TwoPoint.{TwoPoint}
use Rattle.rules.specs.Book.{Book}
use Rattle.rules.specs.Flow.{flow}
use Rattle.rules.specs.Engines.{AnswersBy, MeansBy}
use Rattle.rules.specs.declared.flow_engine.FlowEngine.{FlowEngine}
use Rattle.machine.specs.Machine.{cell, word}
use Rattle.viewing.specs.declared.peek.Location.TheVariants.{RegisterNumber, CellNumber}
use Rattle.examiner.specs.History.{Memory, PageSeen, PeekSeen, Side, History}
use Rattle.examiner.specs.Guarantee.{AlikeImages, In, Guarantee}

-- the worked image of 74 bytes, with a byte as the word of its secret cell
abbrev pub worked_image : ℕ → List ℕ
worked_image secret =
    0x11 ∷ 0x00 ∷ 0x00 ∷ 0x0A ∷ 0x00 ∷ 0x01 ∷ 0x00 ∷ 0x00
    ∷ 0 ∷ 0 ∷ 0x11 ∷ 0x00 ∷ 0x00 ∷ 0x00
    ∷ 0 ∷ 0 ∷ 0x42 ∷ 0x10 ∷ 0x00 ∷ 0x00
    ∷ 0 ∷ 1 ∷ 0x13 ∷ 0x00 ∷ 0x00 ∷ 0x07
    ∷ 0 ∷ 0 ∷ 0x90 ∷ 0x00 ∷ 0x00 ∷ 0x07
    ∷ 0 ∷ 0 ∷ 0x14 ∷ 0x00 ∷ 0x00 ∷ 0x05
    ∷ 0 ∷ 0 ∷ 0xB0 ∷ 0x40 ∷ 0x00 ∷ 0x00
    ∷ 0 ∷ 0 ∷ 0xD0 ∷ 0x00 ∷ 0x00 ∷ 0x00
    ∷ 0 ∷ 0 ∷ 0x70 ∷ 0x20 ∷ 0x00 ∷ 0x09
    ∷ 0 ∷ 0 ∷ 0x13 ∷ 0x00 ∷ 0x00 ∷ 0x01
    ∷ 0 ∷ 0 ∷ 0xA0 ∷ 0x00 ∷ 0x00 ∷ 0x00
    ∷ 0 ∷ 1 ∷ 0x00 ∷ 0x00 ∷ 0x00 ∷ secret
    ∷ []

-- the flow engine over the two-point order
abbrev pub TwoPointEngine : Type 0
TwoPointEngine = FlowEngine TwoPoint

abbrev pub two_point_book : TwoPointEngine → Book
two_point_book e = flow two_point

-- the page of the worked image: the word 5 with tag 0, and the end mark
abbrev pub worked_page : PageSeen
worked_page = record { outputs = cell (word 5) (tag 0) ∷ []; marked = true }

-- the peeks at the end: register 4 holds the word 5 with tag 0, and the secret cell is hidden
abbrev pub worked_peek : PeekSeen
worked_peek = record { location = RegisterNumber 4; answered = Ok (Some (cell (word 5) (tag 0))); when_halted = true }

abbrev pub hidden_peek : PeekSeen
hidden_peek = record { location = CellNumber 0; answered = Ok None; when_halted = true }

-- some history that was opened with an image has the worked page and both peeks
pub record ShowsWorkedPage (image : List ℕ) : Type 0 where
  pub side : Side
  pub own : Memory
  pub history : History two_point (AnswersBy two_point_book) (MeansBy two_point_book) side
  pub opened : side.memory ≡ Some own
  pub with_image : own.image ≡ image
  pub seen : In worked_page side.pages
  pub shown : In worked_peek side.peeks
  pub hidden : In hidden_peek side.peeks

-- The guarantee holds of the flow engine over the two-point order, and is not empty:
-- with 42 and with 0 as its secret the worked image is alike to its reader, and both come to the marked page and the same peeks.
pub record GuaranteeAtWork : Type 0 where
  pub guarantee : Guarantee two_point (AnswersBy two_point_book) (MeansBy two_point_book) (AnswersBy two_point_book) (MeansBy two_point_book)
  pub alike : AlikeImages two_point (worked_image 42) (worked_image 0)
  pub left_marked : ShowsWorkedPage (worked_image 42)
  pub right_marked : ShowsWorkedPage (worked_image 0)
