-- The round trips both ways, of what a write answers and leaves.
use Rattle.std.proofs.Common.{◌≡◌, ℕ, List, length, IfOk, Some, None, Option, Result, sym, refl, ap, ◌∙◌, subst}
use Rattle.labels.specs.Order.{Meaning, Laws}
use Rattle.labels.specs.declared.cell.Tag.{Tag}
use Rattle.labels.specs.declared.cell.Cell.{Cell}
use Rattle.labels.specs.declared.refusal.Refusal.{Refusal}
use Rattle.image.specs.declared.entry.CodeEntry.{CodeEntry}
use Rattle.image.specs.Layout.{header_of, code_of, cells_of}
use Rattle.image.specs.Load.{answer, unless_refused}
use Rattle.writing.specs.Write.{write_refusal, written_image, entries, EntriesFit}
use Rattle.writing.specs.RoundTrip.{LoadsBack, OwnBytes}
use Rattle.writing.proofs.Checks.{loadable}
use Rattle.writing.proofs.LoadsBack.{writable, loads_back}
use Rattle.writing.proofs.OwnBytes.{granted, written_own}

abbrev answered : Option Refusal → Result (Unit {0}) Refusal
answered o = answer o tt

module _ (m : Meaning) (reader : Tag) (code : List CodeEntry) (cells : List Cell) (before : List ℕ) where
  abbrev refusal : Option Refusal
  refusal = write_refusal m reader code cells (length before)

  abbrev after : List ℕ
  after = unless_refused refusal before (written_image m reader code cells)

  -- what was granted loads back
  pub granted_loads_back : Laws m → (r : Result (Unit {0}) Refusal) → r ≡ answered refusal → IfOk r (λ _. EntriesFit (entries code cells))
      → (now : List ℕ) → now ≡ after → IfOk r (λ _. LoadsBack m reader code cells now)
  granted_loads_back laws r same fits now written =
      subst (λ (r : Result (Unit {0}) Refusal). IfOk r (λ _. EntriesFit (entries code cells)) → IfOk r (λ _. LoadsBack m reader code cells now)) (sym same)
      (subst (λ (xs : List ℕ). IfOk (answered refusal) (λ _. EntriesFit (entries code cells)) → IfOk (answered refusal) (λ _. LoadsBack m reader code cells xs)) (sym written)
      (go refusal refl)) fits
    where
      go : (o : Option Refusal) → refusal ≡ o → IfOk (answered o) (λ _. EntriesFit (entries code cells))
          → IfOk (answered o) (λ _. LoadsBack m reader code cells (unless_refused o before (written_image m reader code cells)))
      go (Some x) e fits = tt
      go None e fits = loads_back m laws reader code cells (writable m reader code cells (length before) e) fits

  -- the parts of an image are granted, and are its own bytes
  pub writes_own_bytes : OwnBytes m reader code cells (length before) (answered refusal) after
  writes_own_bytes image p same =
      let l = loadable m image (length cells) p.loads in
      let none : refusal ≡ None =
      ap (λ (t : Tag). write_refusal m t code cells (length before)) p.reader_same
      ∙ ap (λ (es : List CodeEntry). write_refusal m (header_of image).reader es cells (length before)) p.code_same
      ∙ ap (λ (cs : List Cell). write_refusal m (header_of image).reader (code_of image) cs (length before)) p.cells_same
      ∙ ap (write_refusal m (header_of image).reader (code_of image) (cells_of image)) same
      ∙ granted image p.bytes m (length cells) l in
      let own : written_image m reader code cells ≡ image =
      ap (λ (t : Tag). written_image m t code cells) p.reader_same
      ∙ ap (λ (es : List CodeEntry). written_image m (header_of image).reader es cells) p.code_same
      ∙ ap (written_image m (header_of image).reader (code_of image)) p.cells_same
      ∙ written_own image p.bytes m (length cells) l in
      (ap answered none, ap (λ (o : Option Refusal). unless_refused o before (written_image m reader code cells)) none ∙ own)
