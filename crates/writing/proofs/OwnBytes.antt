-- The parts of an image that loads, written out, give its own bytes.
use Rattle.std.proofs.Common.{◌≡◌, ℕ, zero, suc, ◌+◌, ◌*◌, ◌/◌, ◌%◌, ◌<◌, ◌≤◌, true, ◌&&◌, eqb, List, [], ◌∷◌, ◌++◌, map, length, get_or, drop, None, sym, refl, ap, ◌∙◌, subst, arith}
use Rattle.std.specs.List.{range_with_len, flat_map}
use Rattle.std.proofs.lemmas.List.FromFn.{length-map-range_with_len}
use Rattle.std.proofs.lemmas.List.{drop_more, drop_all}
use Rattle.std.proofs.lemmas.Bool.{and_parts, eqb-true}
use Rattle.labels.specs.Order.{Meaning, name_of}
use Rattle.labels.specs.declared.refusal.Refusal.TheVariants.{CountOutsideLimits, NotALabel, WrongLength}
use Rattle.image.specs.declared.header.Counts.{Counts}
use Rattle.image.specs.Layout.{header_of, length_of_image, counts_fit, u16_at, u32_at, code_entry_at, cell_entry_at, code_of, cells_of}
use Rattle.image.specs.Load.{check, check_labels, entry_tags}
use Rattle.image.specs.Entry.{cell_entry, u16_bytes, u32_bytes, entry_bytes}
use Rattle.writing.specs.Write.{counts_of, write_refusal, header_bytes, entries, written_image}
use Rattle.std.proofs.lemmas.Simd.{map-map}
use Rattle.image.specs.declared.entry.CodeEntry.{CodeEntry}
use Rattle.image.proofs.Ranges.{in_parts}
use Rattle.writing.proofs.Checks.{passes, Loadable}
use Rattle.writing.proofs.Numerals.{first_of_two, second_of_two, first_of_four, second_of_four, third_of_four, fourth_of_four}

-- the bytes from a place on, so many of them one by one
one_by_one : (xs : List ℕ) (at n : ℕ) → at + n ≤ length xs → drop at xs ≡ map (λ j. get_or xs j 0) (range_with_len at n) ++ drop (at + n) xs
one_by_one xs at zero h = ap (λ (n : ℕ). drop n xs) (omega arith)
one_by_one xs at (suc n) h =
    let next : at + 1 + n ≡ at + suc n = omega arith in
    drop_more xs at 0 (omega arith)
    ∙ ap (λ (ys : List ℕ). get_or xs at 0 ∷ ys)
    (one_by_one xs (at + 1) n (omega arith) ∙ ap (λ (k : ℕ). map (λ j. get_or xs j 0) (range_with_len (at + 1) n) ++ drop k xs) next)

module _ (image : List ℕ) (bytes : (k : ℕ) → get_or image k 0 < 256) where
  abbrev byte : ℕ → ℕ
  byte k = get_or image k 0

  two : (at next : ℕ) → at + 1 ≡ next → u16_bytes (u16_at image at) ≡ byte at ∷ byte next ∷ []
  two at next e =
      let there : byte (at + 1) ≡ byte next = ap byte e in
      let a = first_of_two (byte at) (byte (at + 1)) (bytes at) (bytes (at + 1)) in
      let b = second_of_two (byte at) (byte (at + 1)) (bytes at) (bytes (at + 1)) in
      cc

  four : (at b c d : ℕ) → at + 1 ≡ b → at + 2 ≡ c → at + 2 + 1 ≡ d → u32_bytes (u32_at image at) ≡ byte at ∷ byte b ∷ byte c ∷ byte d ∷ []
  four at b c d e f g =
      let e' : byte (at + 1) ≡ byte b = ap byte e in
      let f' : byte (at + 2) ≡ byte c = ap byte f in
      let g' : byte (at + 2 + 1) ≡ byte d = ap byte g in
      let p = first_of_four (byte at) (byte (at + 1)) (byte (at + 2)) (byte (at + 2 + 1)) (bytes at) (bytes (at + 1)) (bytes (at + 2)) (bytes (at + 2 + 1)) in
      let q = second_of_four (byte at) (byte (at + 1)) (byte (at + 2)) (byte (at + 2 + 1)) (bytes at) (bytes (at + 1)) (bytes (at + 2)) (bytes (at + 2 + 1)) in
      let r = third_of_four (byte at) (byte (at + 1)) (byte (at + 2)) (byte (at + 2 + 1)) (bytes at) (bytes (at + 1)) (bytes (at + 2)) (bytes (at + 2 + 1)) in
      let s = fourth_of_four (byte at) (byte (at + 1)) (byte (at + 2)) (byte (at + 2 + 1)) (bytes at) (bytes (at + 1)) (bytes (at + 2)) (bytes (at + 2 + 1)) in
      cc

  entry_own : (i : ℕ) → entry_bytes (code_entry_at image i) ≡ map byte (range_with_len (8 + 6 * i) 6)
  entry_own i =
      let at = 8 + 6 * i in
      let a = two at (at + 1) refl in
      let b = four (at + 2) (at + 1 + 1 + 1) (at + 1 + 1 + 1 + 1) (at + 1 + 1 + 1 + 1 + 1) (omega arith) (omega arith) (omega arith) in
      let there : byte (at + 2) ≡ byte (at + 1 + 1) = ap byte (omega arith) in
      ap (λ (xs : List ℕ). xs ++ u32_bytes (u32_at image (at + 2))) a
      ∙ ap (λ (xs : List ℕ). byte at ∷ byte (at + 1) ∷ xs)
      (b ∙ ap (λ (x : ℕ). x ∷ byte (at + 1 + 1 + 1) ∷ byte (at + 1 + 1 + 1 + 1) ∷ byte (at + 1 + 1 + 1 + 1 + 1) ∷ []) there)

  -- the entries from one on are the bytes from its place on
  entries_own : (n i : ℕ) → length image ≡ 8 + 6 * (i + n) → flat_map entry_bytes (map (code_entry_at image) (range_with_len i n)) ≡ drop (8 + 6 * i) image
  entries_own zero i h = sym (drop_all (8 + 6 * i) image (omega arith))
  entries_own (suc n) i h =
      let at = 8 + 6 * i in
      let next : 8 + 6 * (i + 1) ≡ at + 6 = omega arith in
      let rest = entries_own n (i + 1) (omega arith) ∙ ap (λ (k : ℕ). drop k image) next in
      ap (λ (xs : List ℕ). xs ++ flat_map entry_bytes (map (code_entry_at image) (range_with_len (i + 1) n))) (entry_own i)
      ∙ ap (λ (xs : List ℕ). map byte (range_with_len at 6) ++ xs) rest
      ∙ sym (one_by_one image at 6 (omega arith))

  module _ (m : Meaning) (cells : ℕ) (l : Loadable m (header_of image) (length image) cells (entry_tags image)) where
    abbrev counts : Counts
    counts = (header_of image).counts

    image_length_is : length image ≡ 8 + 6 * (counts.code + counts.cells)
    image_length_is = eqb-true (length image) (length_of_image counts) l.image_fits

    code_length : length (code_of image) ≡ counts.code
    code_length = length-map-range_with_len (code_entry_at image) 0 counts.code

    cells_length : length (cells_of image) ≡ counts.cells
    cells_length = length-map-range_with_len (λ i. cell_entry_at image (counts.code + i)) 0 counts.cells

    counts_own : counts_of (code_of image) (cells_of image) ≡ counts
    counts_own =
        let counts_with : ℕ → ℕ → Counts = λ a b. record { code = a; cells = b } in
        ap (λ (n : ℕ). counts_with n (length (cells_of image))) code_length ∙ ap (counts_with counts.code) cells_length

    named : (eqb m.kind (byte 0 % 16) ≡ true) × (eqb m.p (byte 1 / 16) ≡ true) × (eqb m.q (byte 1 % 16) ≡ true)
    named =
        let a = and_parts (eqb m.kind (byte 0 % 16) && eqb m.p (byte 1 / 16)) (eqb m.q (byte 1 % 16)) l.named in
        let b = and_parts (eqb m.kind (byte 0 % 16)) (eqb m.p (byte 1 / 16)) a.0 in
        (b.0, b.1, a.1)

    header_own : header_bytes (name_of m) counts (header_of image).reader ≡ map byte (range_with_len 0 8)
    header_own =
        let version = eqb-true (byte 0 / 16) 1 l.version in
        let kind = eqb-true m.kind (byte 0 % 16) named.0 in
        let p = eqb-true m.p (byte 1 / 16) named.1 in
        let q = eqb-true m.q (byte 1 % 16) named.2 in
        let first : 16 + m.kind ≡ byte 0 = omega arith in
        let second : m.p * 16 + m.q ≡ byte 1 = omega arith in
        let c = two 2 3 refl in
        let n = two 4 5 refl in
        let r = two 6 7 refl in
        cc

    -- the entries of code and cells are those of the image, one after the other
    entries_are : entries (code_of image) (cells_of image) ≡ map (code_entry_at image) (range_with_len 0 (counts.code + counts.cells))
    entries_are =
        ap (λ (xs : List CodeEntry). code_of image ++ xs) (map-map cell_entry (λ i. cell_entry_at image (counts.code + i)) (range_with_len 0 counts.cells))
        ∙ sym (in_parts (code_entry_at image) counts.code counts.cells)

    pub written_own : written_image m (header_of image).reader (code_of image) (cells_of image) ≡ image
    written_own =
        let n = image_length_is in
        ap (λ (c : Counts). header_bytes (name_of m) c (header_of image).reader ++ flat_map entry_bytes (entries (code_of image) (cells_of image))) counts_own
        ∙ ap (λ (xs : List ℕ). xs ++ flat_map entry_bytes (entries (code_of image) (cells_of image))) header_own
        ∙ ap (λ (xs : List ℕ). map byte (range_with_len 0 8) ++ xs)
        (ap (flat_map entry_bytes) entries_are ∙ entries_own (counts.code + counts.cells) 0 (omega arith))
        ∙ sym (one_by_one image 0 8 (omega arith))

    pub granted : write_refusal m (header_of image).reader (code_of image) (cells_of image) (length image) ≡ None
    granted =
        let labels = passes _ (NotALabel 0) _ l.reader l.labels in
        subst (λ (c : Counts). check (counts_fit c) CountOutsideLimits (check (eqb (length image) (length_of_image c)) WrongLength (check (m.label (header_of image).reader) (NotALabel 0) (check_labels m.label 1 (entry_tags image)))) ≡ None)
        (sym counts_own)
        (passes _ _ _ l.counts (passes _ _ _ l.image_fits labels))
