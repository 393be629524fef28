-- The entries of an image as chunks of its bytes.
use Rattle.std.proofs.lemmas.Bool.{and_parts, leb-true}
use Rattle.image.specs.declared.header.Counts.{Counts}
use Rattle.image.specs.declared.header.Header.{Header}
use Rattle.std.proofs.Common.{◌≡◌, ℕ, true, leb, ◌&&◌, zero, suc, ◌+◌, ◌-◌, ◌*◌, ◌/◌, ◌<◌, ◌≤◌, List, Result, ◌∷◌, ◌++◌, map, length, get_or, take, drop, sym, refl, ap, ◌∙◌, ap₂, subst, arith}
use Rattle.std.specs.List.{range_with_len}
use Rattle.std.specs.Simd.{first_chunks}
use Rattle.std.proofs.lemmas.List.{get_or-take, get_or-drop, drop-drop}
use Rattle.std.proofs.lemmas.Simd.{map-map}
use Rattle.labels.specs.Order.{Meaning}
use Rattle.labels.specs.declared.cell.Tag.{Tag}
use Rattle.labels.specs.declared.refusal.Refusal.{Refusal}
use Rattle.labels.specs.declared.cell.Cell.{Cell}
use Rattle.image.specs.declared.entry.CodeEntry.{CodeEntry}
use Rattle.image.specs.Entry.{entry_of_bytes, entry_cell}
use Rattle.image.specs.Layout.{header_of, counts_fit, length_of_image, tag_at, code_entry_at, cell_entry_at, cells_of}
use Rattle.image.specs.Load.{answer, EntriesChecked, check_labels, entry_tags, entries_refusal}
use Rattle.image.proofs.Ranges.{in_parts, shifted}

module _ (image : List ℕ) where
  -- the bytes of an entry
  abbrev bytes_of : ℕ → List ℕ
  bytes_of k = take 6 (drop (8 + 6 * k) image)

  byte : (k j at : ℕ) → j < 6 → 8 + 6 * k + j ≡ at → get_or (bytes_of k) j 0 ≡ get_or image at 0
  byte k j at h e = get_or-take 6 (drop (8 + 6 * k) image) j 0 h ∙ get_or-drop (8 + 6 * k) image j 0 ∙ ap (λ (n : ℕ). get_or image n 0) e

  entry_read : (k : ℕ) → entry_of_bytes (bytes_of k) ≡ code_entry_at image k
  entry_read k =
      let at = 8 + 6 * k in
      let a = byte k 0 at (omega arith) (omega arith) in
      let b = byte k 1 (at + 1) (omega arith) refl in
      let c = byte k 2 (at + 2) (omega arith) refl in
      let d = byte k 3 (at + 2 + 1) (omega arith) (omega arith) in
      let e = byte k 4 (at + 2 + 2) (omega arith) (omega arith) in
      let f = byte k 5 (at + 2 + 2 + 1) (omega arith) (omega arith) in
      cc

  -- what is made of each chunk is made of each entry
  chunks_read : {A : Type 0} (f : CodeEntry → A) (k n : ℕ)
      → map (λ (e : List ℕ). f (entry_of_bytes e)) (first_chunks 6 n (drop (8 + 6 * k) image)) ≡ map (λ i. f (code_entry_at image i)) (range_with_len k n)
  chunks_read f k zero = refl
  chunks_read f k (suc n) =
      let next : 8 + 6 * k + 6 ≡ 8 + 6 * (k + 1) = omega arith in
      ap₂ ◌∷◌ (ap f (entry_read k))
      (ap (λ (xs : List ℕ). map (λ (e : List ℕ). f (entry_of_bytes e)) (first_chunks 6 n xs)) (drop-drop 6 (8 + 6 * k) image ∙ ap (λ (at : ℕ). drop at image) next)
      ∙ chunks_read f (k + 1) n)

  abbrev code : ℕ
  code = (header_of image).counts.code

  abbrev cells : ℕ
  cells = (header_of image).counts.cells

  tags_in_parts : map (tag_at image) (range_with_len 0 (code + cells)) ≡ entry_tags image
  tags_in_parts =
      in_parts (tag_at image) code cells
      ∙ ap₂ (λ (xs ys : List Tag). xs ++ ys) (sym (map-map (λ (e : CodeEntry). e.tag) (code_entry_at image) (range_with_len 0 code)))
      (sym (map-map (λ (c : Cell). c.tag) (λ i. cell_entry_at image (code + i)) (range_with_len 0 cells)))

  module _ (fits : length image ≡ length_of_image (header_of image).counts) where
    -- the tags of all entries
    tags_read : map (λ (e : List ℕ). (entry_of_bytes e).tag) (first_chunks 6 ((length image - 8) / 6) (drop 8 image)) ≡ entry_tags image
    tags_read =
        let n : (length image - 8) / 6 ≡ code + cells = omega arith in
        ap (λ (k : ℕ). map (λ (e : List ℕ). (entry_of_bytes e).tag) (first_chunks 6 k (drop 8 image))) n
        ∙ chunks_read (λ (e : CodeEntry). e.tag) 0 (code + cells)
        ∙ tags_in_parts

    -- the entries behind the code, as cells
    cells_read : map (λ (e : List ℕ). entry_cell (entry_of_bytes e)) (first_chunks 6 ((length image - (8 + 6 * code)) / 6) (drop (8 + 6 * code) image)) ≡ cells_of image
    cells_read =
        let n : (length image - (8 + 6 * code)) / 6 ≡ cells = omega arith in
        let from : code + 0 ≡ code = omega arith in
        ap (λ (k : ℕ). map (λ (e : List ℕ). entry_cell (entry_of_bytes e)) (first_chunks 6 k (drop (8 + 6 * code) image))) n
        ∙ chunks_read entry_cell code cells
        ∙ sym (shifted (cell_entry_at image) code 0 cells ∙ ap (λ (k : ℕ). map (cell_entry_at image) (range_with_len k cells)) from)

-- a check of all entries is that of the image's
pub entries_checked : (m : Meaning) (image : List ℕ) (entries : List (List ℕ)) (answered : Result (Unit {0}) Refusal) → length image ≡ length_of_image (header_of image).counts
    → entries ≡ first_chunks 6 ((length image - 8) / 6) (drop 8 image) → EntriesChecked (λ (e : List ℕ) (entry : CodeEntry). entry ≡ entry_of_bytes e) m 0 entries answered
    → answered ≡ answer (entries_refusal m image) tt
entries_checked m image entries answered fits read checked =
    checked entry_of_bytes (λ e entry is. is)
    ∙ ap (λ (ts : List Tag). answer (check_labels m.label 1 ts) tt) (ap (λ (es : List (List ℕ)). map (λ (e : List ℕ). (entry_of_bytes e).tag) es) read ∙ tags_read image fits)

-- the entries behind the code that the header counts, as cells
pub cells_copied : (image : List ℕ) (h : Header) (entries : List (List ℕ)) → h ≡ header_of image → length image ≡ length_of_image h.counts
    → entries ≡ first_chunks 6 ((length image - (8 + 6 * h.counts.code)) / 6) (drop (8 + 6 * h.counts.code) image)
    → map (λ (e : List ℕ). entry_cell (entry_of_bytes e)) entries ≡ cells_of image
cells_copied image h entries is =
    subst
    (λ (h : Header). length image ≡ length_of_image h.counts
    → entries ≡ first_chunks 6 ((length image - (8 + 6 * h.counts.code)) / 6) (drop (8 + 6 * h.counts.code) image)
    → map (λ (e : List ℕ). entry_cell (entry_of_bytes e)) entries ≡ cells_of image)
    (sym is)
    (λ fits read. ap (λ (es : List (List ℕ)). map (λ (e : List ℕ). entry_cell (entry_of_bytes e)) es) read ∙ cells_read image fits)

-- at the most entries
pub few_entries : (n : Counts) → counts_fit n ≡ true → n.code + n.cells ≤ 5120
few_entries n fit =
    let p = and_parts (leb 1 n.code && leb n.code 1024) (leb n.cells 4096) fit in
    let q = and_parts (leb 1 n.code) (leb n.code 1024) p.0 in
    omega (arith, leb-true _ _ p.1, leb-true _ _ q.1)
