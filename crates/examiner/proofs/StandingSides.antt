-- What every history keeps: a side that was not opened shows nothing, and an opened one shows views of its image.
use Rattle.std.proofs.Common.{◌≡◌, true, false, List, [], Some, None, Option}
use Rattle.labels.specs.Order.{Meaning, is_named}
use Rattle.image.specs.Layout.{header_of, cells_of}
use Rattle.observer.specs.View.{View, view}
use Rattle.observer.specs.ObserverLaws.{at_start}
use Rattle.sitting.specs.Sitting.{Standing, blank, is_blank, is_halted, machine_state, code_of_sitting, lengths_fit}
use Rattle.viewing.specs.Page.{reader_of}
use Rattle.examiner.specs.History.{Memory, PageSeen, PeekSeen, Side}
use Rattle.examiner.specs.Guarantee.{In}
use Rattle.examiner.proofs.ShownViews.{Shown}

module _ (m : Meaning) (s : Standing) (own : Memory) where
  -- what the reader of a sitting sees of it now
  abbrev pub view_now : View
  view_now = view (reader_of m s) (is_halted s.state) (machine_state s own.cells own.outputs)

  -- and what he saw of it first
  abbrev pub first_view : View
  first_view = view (reader_of m s) false (at_start (cells_of own.image) [])

-- A sitting that was opened with a memory, as that now is, and all that was seen of it.
-- A halted sitting stays as it is, so that it is still halted if it was at a peek.
pub record StandsOpened (m : Meaning) (own : Memory) (s : Standing) (pages : List PageSeen) (peeks : List PeekSeen) : Type 0 where
  pub header : s.opening.header ≡ header_of own.image
  pub named : is_named m s.opening.header.order ≡ true
  pub lengths : lengths_fit s.opening own.image own.cells own.outputs ≡ true
  pub not_blank : is_blank s.state ≡ false
  pub still_halted : (x : PeekSeen) → In x peeks → x.when_halted ≡ true → is_halted s.state ≡ true
  pub all_shown : Shown m (reader_of m s) (code_of_sitting s own.image) (first_view m s own) s.opening.header.counts.cells (view_now m s own) pages peeks

-- a sitting that was not opened, of which nothing was seen
pub record NotOpened (s : Standing) (pages : List PageSeen) (peeks : List PeekSeen) : Type 0 where
  pub still_blank : s ≡ blank
  pub no_page : (p : PageSeen) → In p pages → ⊥
  pub no_peek_when_halted : (x : PeekSeen) → In x peeks → x.when_halted ≡ true → ⊥

abbrev pub Stands : Meaning → Option Memory → Standing → List PageSeen → List PeekSeen → Type 0
Stands m None s pages peeks = NotOpened s pages peeks
Stands m (Some own) s pages peeks = StandsOpened m own s pages peeks

abbrev pub SideStands : Meaning → Side → Type 0
SideStands m h = Stands m h.memory h.standing h.pages h.peeks
