-- The guarantee: the views of two sides over alike images are all reached from one view.
use Rattle.std.proofs.Common.{◌≡◌, ℕ, Bool, false, List, [], Some, None, Option, sym, refl, ◌∙◌, subst}
use Rattle.labels.specs.Order.{Meaning, Laws}
use Rattle.labels.specs.declared.cell.Tag.{Tag}
use Rattle.image.specs.Layout.{header_of, code_of, cells_of}
use Rattle.image.specs.declared.header.Header.{Header}
use Rattle.image.specs.declared.entry.CodeEntry.{CodeEntry}
use Rattle.rules.specs.Book.{Book}
use Rattle.execution.specs.Step.{Answers, code_entries}
use Rattle.observer.specs.Observer.{reader}
use Rattle.observer.specs.View.{View, view}
use Rattle.observer.specs.ObserverLaws.{at_start}
use Rattle.observer.proofs.ObservedRuns.{reaches_itself}
use Rattle.observer.proofs.Starts.{alike_starts_look_equal}
use Rattle.examiner.specs.History.{Memory, Side}
use Rattle.examiner.specs.Guarantee.{AlikeImages, AlikeIfOpened, Agree, Guarantee}
use Rattle.examiner.proofs.ShownViews.{Shown, agreeing}
use Rattle.examiner.proofs.StandingSides.{view_now, StandsOpened, NotOpened, Stands}
use Rattle.examiner.proofs.Opens.{length_cells_of}
use Rattle.examiner.proofs.Runs.{Faithful}
use Rattle.examiner.proofs.Histories.{stands_after}

-- all that was seen of a side, by views that are reached from a first view
record SideShown (m : Meaning) (sees : Tag → Bool) (code : List CodeEntry) (first : View) (cell_count : ℕ) (h : Side) : Type 0 where
  now : View
  all_shown : Shown m sees code first cell_count now h.pages h.peeks

both_shown : (m : Meaning) (sees : Tag → Bool) (code : List CodeEntry) (first : View) (cell_count : ℕ) (left right : Side)
    → SideShown m sees code first cell_count left → SideShown m sees code first cell_count right → Agree left right
both_shown m sees code first cell_count left right l r = agreeing m sees code first cell_count left right l.now r.now l.all_shown r.all_shown

-- a side that was not opened shows nothing, whatever view is first
not_opened_shown : (m : Meaning) (sees : Tag → Bool) (code : List CodeEntry) (first : View) (cell_count : ℕ) (h : Side)
    → NotOpened h.standing h.pages h.peeks → SideShown m sees code first cell_count h
not_opened_shown m sees code first cell_count h stands = record {
  now = first;
  all_shown = record {
    reached = reaches_itself m sees code refl;
    page_shows = λ p i. absurd (stands.no_page p i);
    marked_when_halted = λ p i marked. absurd (stands.no_page p i);
    peek_shows = λ x i halted. absurd (stands.no_peek_when_halted x i halted);
  };
}

-- a side that was opened with an image shows views that are reached from the image's start
abbrev ImageShown : Meaning → List ℕ → Side → Type 0
ImageShown m image h =
    let sees : Tag → Bool = reader m (header_of image).reader in
    SideShown m sees (code_of image) (view sees false (at_start (cells_of image) [])) (header_of image).counts.cells h

opened_shown : (m : Meaning) (own : Memory) (h : Side) → StandsOpened m own h.standing h.pages h.peeks → ImageShown m own.image h
opened_shown m own h stands =
    subst (λ (x : Header). SideShown m (reader m x.reader) (code_entries own.image x.counts.code) (view (reader m x.reader) false (at_start (cells_of own.image) [])) x.counts.cells h)
    stands.header (record { now = view_now m h.standing own; all_shown = stands.all_shown })

-- alike images have the same reader, the same code, equal first views and equally many cells
shown_as_alike : (m : Meaning) (left right : List ℕ) (h : Side) → AlikeImages m left right → ImageShown m right h → ImageShown m left h
shown_as_alike m left right h alike shown =
    let first = alike_starts_look_equal (reader m (header_of left).reader) (cells_of left) (cells_of right) [] [] alike.alike_cells in
    let count : (header_of left).counts.cells ≡ (header_of right).counts.cells = sym (length_cells_of left) ∙ alike.alike_cells.0 ∙ length_cells_of right in
    rw (alike.same_code, first, count)
    (subst (λ (t : Tag). SideShown m (reader m t) (code_of right) (view (reader m t) false (at_start (cells_of right) [])) (header_of right).counts.cells h) (sym alike.same_reader) shown)

two_sides : (m : Meaning) (left_memory right_memory : Option Memory) (left right : Side)
    → Stands m left_memory left.standing left.pages left.peeks → Stands m right_memory right.standing right.pages right.peeks
    → AlikeIfOpened m left_memory right_memory → Agree left right
two_sides m None None left right l r alike =
    let sees : Tag → Bool = λ t. false in
    let first = view sees false (at_start [] []) in
    both_shown m sees [] first 0 left right (not_opened_shown m sees [] first 0 left l) (not_opened_shown m sees [] first 0 right r)
two_sides m None (Some other) left right l r alike = both_shown m _ _ _ _ left right (not_opened_shown m _ _ _ _ left l) (opened_shown m other right r)
two_sides m (Some own) None left right l r alike = both_shown m _ _ _ _ left right (opened_shown m own left l) (not_opened_shown m _ _ _ _ right r)
two_sides m (Some own) (Some other) left right l r alike =
    both_shown m _ _ _ _ left right (opened_shown m own left l) (shown_as_alike m own.image other.image right alike (opened_shown m other right r))

pub guarantee : (m : Meaning) → Laws m → {L R : Type 0} (left_answers : Answers L) (left_means : L → Book → Type 0) (right_answers : Answers R) (right_means : R → Book → Type 0)
    → Faithful left_answers left_means → Faithful right_answers right_means → Guarantee m left_answers left_means right_answers right_means
guarantee m laws left_answers left_means right_answers right_means left_faithful right_faithful left right left_history right_history alike =
    two_sides m left.memory right.memory left right
    (stands_after m laws left_answers left_means left_faithful left_history) (stands_after m laws right_answers right_means right_faithful right_history) alike
