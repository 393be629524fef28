-- Checks that pass: one by one, and those of loading as a whole.
use Rattle.std.proofs.Common.{◌≡◌, ℕ, ◌+◌, Bool, true, false, cond, eqb, leb, List, [], ◌∷◌, ◌++◌, map, length, Some, None, Ok, Err, Option, Result, refl, ap, ◌∙◌, arith}
use Rattle.std.proofs.lemmas.Bool.{cond-true}
use Rattle.std.proofs.lemmas.List.{length-map}
use Rattle.labels.specs.Order.{Meaning, is_named}
use Rattle.labels.specs.declared.cell.Tag.{Tag}
use Rattle.labels.specs.declared.cell.Cell.{Cell}
use Rattle.labels.specs.declared.refusal.Refusal.{Refusal}
use Rattle.labels.specs.declared.refusal.Refusal.TheVariants.{ImageTooShort, UnknownVersion, WrongOrder, CountOutsideLimits, WrongImageLength, NotALabel, WrongLength}
use Rattle.image.specs.declared.entry.CodeEntry.{CodeEntry}
use Rattle.image.specs.Entry.{cell_entry}
use Rattle.image.specs.declared.header.Header.{Header}
use Rattle.image.specs.Layout.{header_of, counts_fit, length_of_image}
use Rattle.image.specs.Load.{check, answer, EntriesChecked, tags_of, check_labels, entry_tags, load_refusal}
use Rattle.image.proofs.TagChecks.{passed, refused_before, passed_before, was_refused, was_passed}

pub passes : (b : Bool) (refusal : Refusal) (next : Option Refusal) → b ≡ true → next ≡ None → check b refusal next ≡ None
passes b refusal next holds none = cond-true b next (Some refusal) holds ∙ none

-- checks of the code and then of the cells are those of the tags of both
module _ (m : Meaning) (code : List CodeEntry) (cells : List Cell) where
  abbrev code_tags : List Tag
  code_tags = map (λ (e : CodeEntry). e.tag) code

  abbrev cell_tags : List Tag
  cell_tags = map (λ (c : Cell). c.tag) cells

  abbrev CodeChecked : Result (Unit {0}) Refusal → Type 0
  CodeChecked r = EntriesChecked (λ (e entry : CodeEntry). entry ≡ e) m 0 code r

  abbrev CellsChecked : Result (Unit {0}) Refusal → Type 0
  CellsChecked r = EntriesChecked (λ (c : Cell) (entry : CodeEntry). entry ≡ cell_entry c) m (length code) cells r

  pub code_refused : (refusal : Refusal) → CodeChecked (Err refusal) → check_labels m.label 1 (tags_of code cells) ≡ Some refusal
  code_refused refusal checked = refused_before m.label refusal 1 code_tags cell_tags (was_refused _ refusal (checked (λ e. e) (λ e entry is. is)))

  code_passed : CodeChecked (Ok tt) → check_labels m.label 1 (tags_of code cells) ≡ check_labels m.label (length code + 1) cell_tags
  code_passed checked =
      let place : 1 + length code_tags ≡ length code + 1 = omega (arith, length-map code (λ (e : CodeEntry). e.tag)) in
      passed_before m.label 1 code_tags cell_tags (was_passed _ (checked (λ e. e) (λ e entry is. is)))
      ∙ ap (λ (p : ℕ). check_labels m.label p cell_tags) place

  pub cells_refused : (refusal : Refusal) → CodeChecked (Ok tt) → CellsChecked (Err refusal) → check_labels m.label 1 (tags_of code cells) ≡ Some refusal
  cells_refused refusal before checked = code_passed before ∙ was_refused _ refusal (checked cell_entry (λ c entry is. is))

  pub all_passed : CodeChecked (Ok tt) → CellsChecked (Ok tt) → check_labels m.label 1 (tags_of code cells) ≡ None
  all_passed before checked = code_passed before ∙ was_passed _ (checked cell_entry (λ c entry is. is))

-- what the checks of loading ask of a header, a length, a number of cells and tags
pub record Loadable (m : Meaning) (h : Header) (bytes cells : ℕ) (tags : List Tag) : Type 0 where
  pub long_enough : leb 8 bytes ≡ true
  pub version : eqb h.version 1 ≡ true
  pub named : is_named m h.order ≡ true
  pub counts : counts_fit h.counts ≡ true
  pub image_fits : eqb bytes (length_of_image h.counts) ≡ true
  pub cells_fit : eqb cells h.counts.cells ≡ true
  pub reader : m.label h.reader ≡ true
  pub labels : check_labels m.label 1 tags ≡ None

module _ (m : Meaning) (image : List ℕ) (cells : ℕ) where
  abbrev Loads : Type 0
  Loads = Loadable m (header_of image) (length image) cells (entry_tags image)

  pub loadable : load_refusal m image cells ≡ None → Loads
  loadable e =
      let h = header_of image in
      let a = passed (leb 8 (length image)) ImageTooShort _ e in
      let b = passed (eqb h.version 1) UnknownVersion _ a.1 in
      let c = passed (is_named m h.order) WrongOrder _ b.1 in
      let d = passed (counts_fit h.counts) CountOutsideLimits _ c.1 in
      let f = passed (eqb (length image) (length_of_image h.counts)) WrongImageLength _ d.1 in
      let g = passed (eqb cells h.counts.cells) WrongLength _ f.1 in
      let r = passed (m.label h.reader) (NotALabel 0) _ g.1 in
      record {
        long_enough = a.0;
        version = b.0;
        named = c.0;
        counts = d.0;
        image_fits = f.0;
        cells_fit = g.0;
        reader = r.0;
        labels = r.1;
      }

  pub loads : Loads → load_refusal m image cells ≡ None
  loads l =
      passes _ _ _ l.long_enough (passes _ _ _ l.version (passes _ _ _ l.named (passes _ _ _ l.counts
      (passes _ _ _ l.image_fits (passes _ _ _ l.cells_fit (passes _ _ _ l.reader l.labels))))))
