-- An open: the first that is granted stands at the image's start, and a further one is refused.
use Rattle.std.proofs.Common.{◌≡◌, ℕ, Bool, true, false, ◌&&◌, eqb, leb, List, length, Some, None, Option, sym, refl, ◌∙◌}
use Rattle.std.proofs.lemmas.Bool.{both_ways, eq-eqb, eqb-true}
use Rattle.std.proofs.lemmas.List.FromFn.{length-map-range_with_len}
use Rattle.labels.specs.Order.{Meaning, is_named}
use Rattle.labels.specs.declared.refusal.Refusal.{Refusal}
use Rattle.labels.specs.declared.refusal.Refusal.TheVariants.{WrongState, WrongOrder, WrongLength, ImageTooShort, UnknownVersion, CountOutsideLimits, WrongImageLength}
use Rattle.image.specs.Layout.{header_of, cells_of, counts_fit, length_of_image}
use Rattle.image.specs.Load.{check, load_refusal}
use Rattle.observer.proofs.ObservedRuns.{reaches_itself}
use Rattle.sitting.specs.Sitting.{Standing, is_blank}
use Rattle.sitting.specs.Open.{Opened, opened_unless, open_refusal, just_opened}
use Rattle.examiner.specs.History.{Memory, PageSeen, PeekSeen, memory_after_open}
use Rattle.examiner.proofs.StandingSides.{StandsOpened, NotOpened, Stands}

passed : (b : Bool) (refusal : Refusal) (next : Option Refusal) → check b refusal next ≡ None → (b ≡ true) × (next ≡ None)
passed true refusal next e = (refl, e)
passed false refusal next e = (cc, cc)

-- an image without a refusal: its name is the order's, and the cells are as many as its header counts
record Loaded (m : Meaning) (image : List ℕ) (cells : ℕ) : Type 0 where
  named : is_named m (header_of image).order ≡ true
  counted : cells ≡ (header_of image).counts.cells

loaded : (m : Meaning) (image : List ℕ) (cells : ℕ) → load_refusal m image cells ≡ None → Loaded m image cells
loaded m image cells e =
    let h = header_of image in
    let long_enough = passed (leb 8 (length image)) ImageTooShort _ e in
    let version = passed (eqb h.version 1) UnknownVersion _ long_enough.1 in
    let name = passed (is_named m h.order) WrongOrder _ version.1 in
    let counts = passed (counts_fit h.counts) CountOutsideLimits _ name.1 in
    let image_fits = passed (eqb (length image) (length_of_image h.counts)) WrongImageLength _ counts.1 in
    let cells_fit = passed (eqb cells h.counts.cells) WrongLength _ image_fits.1 in
    record { named = name.0; counted = eqb-true cells h.counts.cells cells_fit.0 }

pub length_cells_of : (image : List ℕ) → length (cells_of image) ≡ (header_of image).counts.cells
length_cells_of image = length-map-range_with_len _ 0 (header_of image).counts.cells

equal_lengths : {A B C : Type 0} (xs : List A) (ys : List B) (zs : List C) (a b c : ℕ) → length xs ≡ a → length ys ≡ b → length zs ≡ c
    → (eqb (length xs) a && eqb (length ys) b && eqb (length zs) c) ≡ true
equal_lengths xs ys zs a b c p q r = rw (eq-eqb (length xs) a p, eq-eqb (length ys) b q, eq-eqb (length zs) c r)

module _ (m : Meaning) (s : Standing) (given : Memory) (pages : List PageSeen) (peeks : List PeekSeen) where
  just_opened_stands : NotOpened s pages peeks → load_refusal m given.image (length given.cells) ≡ None
      → StandsOpened m (record { image = given.image; cells = cells_of given.image; outputs = given.outputs })
      (just_opened given.image (length given.cells) (length given.outputs)) pages peeks
  just_opened_stands stands e =
      let l = loaded m given.image (length given.cells) e in
      record {
        header = refl;
        named = l.named;
        lengths = equal_lengths given.image (cells_of given.image) given.outputs _ _ _ refl (length_cells_of given.image ∙ sym l.counted) refl;
        not_blank = refl;
        still_halted = λ x h halted. absurd (stands.no_peek_when_halted x h halted);
        all_shown = record {
          reached = reaches_itself m _ _ refl;
          page_shows = λ p h. absurd (stands.no_page p h);
          marked_when_halted = λ p h marked. absurd (stands.no_page p h);
          peek_shows = λ x h halted. absurd (stands.no_peek_when_halted x h halted);
        };
      }

  abbrev AfterOpen : Option Memory → Option Refusal → Type 0
  AfterOpen memory refusal =
      let o : Opened = opened_unless refusal s given.image given.cells (length given.outputs) in
      Stands m (memory_after_open o.answered memory (record { image = given.image; cells = o.cells; outputs = given.outputs })) o.sitting pages peeks

  first_open : (b : Bool) (refusal : Option Refusal) → load_refusal m given.image (length given.cells) ≡ refusal → NotOpened s pages peeks → AfterOpen None (check b WrongState refusal)
  first_open false refusal e stands = stands
  first_open true (Some refusal) e stands = stands
  first_open true None e stands = just_opened_stands stands e

  -- an opened sitting is not blank, whatever memory is given
  further_open : (own : Memory) (b : Bool) (next : Option Refusal) → is_blank s.state ≡ b → StandsOpened m own s pages peeks → AfterOpen (Some own) (check b WrongState next)
  further_open own false next e stands = stands
  further_open own true next e stands = absurd (both_ways (is_blank s.state) stands.not_blank e)

  pub open_keeps : (memory : Option Memory) → Stands m memory s pages peeks → AfterOpen memory (open_refusal m s given.image (length given.cells))
  open_keeps None stands = first_open (is_blank s.state) (load_refusal m given.image (length given.cells)) refl stands
  open_keeps (Some own) stands = further_open own (is_blank s.state) (load_refusal m given.image (length given.cells)) refl stands
