-- A peek: its answer at an opened sitting is told by the view, and a blank sitting is not halted.
use Rattle.std.proofs.Common.{◌≡◌, List, ◌∷◌, Some, None, Option, sym, refl, ap, ◌∙◌, subst, ⊎_elim}
use lib.ListN.{get_or-map}
use Rattle.std.proofs.lemmas.Bool.{both_ways}
use Rattle.labels.specs.Order.{Meaning}
use Rattle.machine.specs.Machine.{zero_cell}
use Rattle.observer.specs.Observer.{shown}
use Rattle.viewing.specs.declared.peek.Location.{Location}
use Rattle.viewing.specs.declared.peek.Location.TheVariants.{RegisterNumber, CellNumber}
use Rattle.sitting.specs.Sitting.{Standing, is_halted, machine_state}
use Rattle.viewing.specs.Page.{reader_of}
use Rattle.viewing.specs.Peek.{cell_there, in_range, peek_answer}
use Rattle.examiner.specs.History.{Memory, PageSeen, PeekSeen, MayGet}
use Rattle.examiner.proofs.ShownViews.{in_range_of, seen_there, view_peek}
use Rattle.examiner.proofs.StandingSides.{view_now, StandsOpened, NotOpened, Stands}

module _ (m : Meaning) (s : Standing) where
  seen_there_now : (own : Memory) (at : Location)
      → shown (reader_of m s) (cell_there (machine_state s own.cells own.outputs) at) ≡ seen_there (reader_of m s) (view_now m s own) at
  seen_there_now own (RegisterNumber n) = sym (get_or-map (shown (reader_of m s)) s.machine.registers n zero_cell)
  seen_there_now own (CellNumber n) = sym (get_or-map (shown (reader_of m s)) own.cells n zero_cell)

  range_by_count : (at : Location) → in_range s.opening at ≡ in_range_of s.opening.header.counts.cells at
  range_by_count (RegisterNumber n) = refl
  range_by_count (CellNumber n) = refl

  module _ (pages : List PageSeen) (peeks : List PeekSeen) (at : Location) where
    peek_by_view : (own : Memory) → StandsOpened m own s pages peeks
        → peek_answer m s own.image own.cells own.outputs at ≡ view_peek (reader_of m s) s.opening.header.counts.cells (view_now m s own) at
    peek_by_view own stands = rw (stands.not_blank, stands.named, stands.lengths, seen_there_now own at, range_by_count at)

    abbrev peek_now : Memory → PeekSeen
    peek_now given = record {
      location = at;
      answered = peek_answer m s given.image given.cells given.outputs at;
      when_halted = is_halted s.state;
    }

    blank_peek : (given : Memory) → NotOpened s pages peeks → NotOpened s pages (peek_now given ∷ peeks)
    blank_peek given stands = record {
      still_blank = stands.still_blank;
      no_page = stands.no_page;
      no_peek_when_halted = λ x. ⊎_elim
          (λ same halted. both_ways (is_halted s.state) (ap (λ (y : Standing). is_halted y.state) stands.still_blank) (sym (ap (λ (y : PeekSeen). y.when_halted) same) ∙ halted))
          (stands.no_peek_when_halted x);
    }

    opened_peek : (own : Memory) → StandsOpened m own s pages peeks → StandsOpened m own s pages (peek_now own ∷ peeks)
    opened_peek own stands =
        let by_view = λ (l : Location). view_peek (reader_of m s) s.opening.header.counts.cells (view_now m s own) l in
        record {
          header = stands.header;
          named = stands.named;
          lengths = stands.lengths;
          not_blank = stands.not_blank;
          still_halted = λ x. ⊎_elim (λ same halted. sym (ap (λ (y : PeekSeen). y.when_halted) same) ∙ halted) (stands.still_halted x);
          all_shown = record {
            reached = stands.all_shown.reached;
            page_shows = stands.all_shown.page_shows;
            marked_when_halted = stands.all_shown.marked_when_halted;
            peek_shows = λ x. ⊎_elim
                (λ same halted. ap (λ (y : PeekSeen). y.answered) same ∙ peek_by_view own stands ∙ sym (ap (λ (y : PeekSeen). by_view y.location) same))
                (stands.all_shown.peek_shows x);
          };
        }

    pub peek_keeps : (memory : Option Memory) (given : Memory) → MayGet memory given → Stands m memory s pages peeks → Stands m memory s pages (peek_now given ∷ peeks)
    peek_keeps None given gets stands = blank_peek given stands
    peek_keeps (Some own) given gets stands = subst (λ (x : Memory). StandsOpened m own s pages (peek_now x ∷ peeks)) (sym gets) (opened_peek own stands)
