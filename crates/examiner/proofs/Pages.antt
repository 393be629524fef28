-- A page: a blank sitting gives none, and an opened one shows its view.
use Rattle.std.proofs.Common.{◌≡◌, Bool, true, false, not, List, length, take, Some, None, Option, sym, refl, ap, ◌∙◌, subst, ⊎_elim}
use lib.Seq.{take-append_seam}
use Rattle.std.proofs.lemmas.Bool.{both_ways}
use Rattle.labels.specs.Order.{Meaning}
use Rattle.labels.specs.declared.cell.Cell.{Cell}
use Rattle.labels.specs.declared.refusal.Refusal.{Refusal}
use Rattle.labels.specs.declared.refusal.Refusal.TheVariants.{WrongState}
use Rattle.image.specs.Load.{check, answer, unless_refused}
use Rattle.sitting.specs.Sitting.{Standing, is_blank, code_of_sitting}
use Rattle.observer.specs.Visible.{written_over}
use Rattle.viewing.specs.Page.{reader_of, visible_outputs, has_end_mark, page_refusal}
use Rattle.examiner.specs.History.{Memory, PageSeen, PeekSeen, MayGet, page_added}
use Rattle.examiner.proofs.ShownViews.{ShowsView}
use Rattle.examiner.proofs.StandingSides.{view_now, first_view, StandsOpened, NotOpened, Stands}

module _ (m : Meaning) (s : Standing) (page_list : List Cell) (pages : List PageSeen) (peeks : List PeekSeen) where
  -- what stands after a page of some outputs, with a refusal or none
  abbrev AfterPage : Option Memory → List Cell → Option Refusal → Type 0
  AfterPage memory outputs refusal =
      let visible : List Cell = visible_outputs (reader_of m s) s outputs in
      Stands m memory s
      (page_added (answer refusal (record { outputs = length visible; end_mark = has_end_mark (reader_of m s) s })) (unless_refused refusal page_list (written_over visible page_list)) pages)
      peeks

  blank_page : (outputs : List Cell) (b : Bool) (next : Option Refusal) → is_blank s.state ≡ b → NotOpened s pages peeks → AfterPage None outputs (check (not b) WrongState next)
  blank_page outputs true next told stands = stands
  blank_page outputs false next told stands =
      absurd (both_ways (is_blank s.state) told (ap (λ (x : Standing). is_blank x.state) stands.still_blank))

  module _ (own : Memory) (stands : StandsOpened m own s pages peeks) where
    abbrev Shows : PageSeen → Type 0
    Shows = ShowsView m (reader_of m s) (code_of_sitting s own.image) (first_view m s own)

    -- the first records of the page list, as many as are visible, are the visible outputs
    shows_now : Shows (record { outputs = take (length (view_now m s own).outputs) (written_over (view_now m s own).outputs page_list); marked = has_end_mark (reader_of m s) s })
    shows_now = record {
      at = view_now m s own;
      reached = stands.all_shown.reached;
      outputs = take-append_seam (view_now m s own).outputs _;
      mark = refl;
    }

    opened_page : (refusal : Option Refusal) → AfterPage (Some own) own.outputs refusal
    opened_page (Some refusal) = stands
    opened_page None = record {
      header = stands.header;
      named = stands.named;
      lengths = stands.lengths;
      not_blank = stands.not_blank;
      still_halted = stands.still_halted;
      all_shown = record {
        reached = stands.all_shown.reached;
        page_shows = λ p. ⊎_elim (λ same. subst Shows (sym same) shows_now) (stands.all_shown.page_shows p);
        marked_when_halted = λ p. ⊎_elim (λ same marked. sym (ap (λ (x : PageSeen). x.marked) same) ∙ marked) (stands.all_shown.marked_when_halted p);
        peek_shows = stands.all_shown.peek_shows;
      };
    }

  pub page_keeps : (memory : Option Memory) (given : Memory) → MayGet memory given → Stands m memory s pages peeks
      → AfterPage memory given.outputs (page_refusal m s given.image given.cells given.outputs page_list)
  page_keeps None given gets stands = blank_page given.outputs (is_blank s.state) _ refl stands
  page_keeps (Some own) given gets stands =
      subst (λ (x : Memory). AfterPage (Some own) x.outputs (page_refusal m s x.image x.cells x.outputs page_list)) (sym gets)
      (opened_page own stands (page_refusal m s own.image own.cells own.outputs page_list))
