-- What is read of a written image: its header and its entries.
use Rattle.std.proofs.Common.{◌≡◌, ℕ, zero, suc, ◌+◌, ◌*◌, ◌<◌, List, [], ◌∷◌, ◌++◌, length, get_or, drop, sym, refl, ap, ◌∙◌, arith}
use Rattle.std.specs.List.{flat_map}
use Rattle.std.proofs.lemmas.List.{drop-drop, drop_all, drop_more, drop_at, get_or-drop}
use Rattle.image.specs.declared.entry.CodeEntry.{CodeEntry}
use Rattle.image.specs.Entry.{entry_bytes}
use Rattle.image.specs.Layout.{u16_at, u32_at, code_entry_at}
use Rattle.writing.proofs.Numerals.{two_bytes, four_bytes}

drop_joined : (es : List CodeEntry) (i : ℕ) → drop (6 * i) (flat_map entry_bytes es) ≡ flat_map entry_bytes (drop i es)
drop_joined es zero = refl
drop_joined [] (suc i) = drop_all (6 * suc i) [] (omega arith)
drop_joined (e ∷ es) (suc i) =
    let rest = flat_map entry_bytes (e ∷ es) in
    let more : 6 * suc i ≡ 6 + 6 * i = omega arith in
    ap (λ (n : ℕ). drop n rest) more ∙ sym (drop-drop (6 * i) 6 rest) ∙ drop_joined es i

pub joined_length : (es : List CodeEntry) → length (flat_map entry_bytes es) ≡ 6 * length es
joined_length [] = refl
joined_length (e ∷ es) = let n = joined_length es in omega arith

-- an image is a header of eight bytes with entries behind it
module _ (header : List ℕ) (eight : length header ≡ 8) (es : List CodeEntry) (i : ℕ) (e : CodeEntry) (here : i < length es) (is : get_or es i e ≡ e) where
  abbrev image : List ℕ
  image = header ++ flat_map entry_bytes es

  abbrev from_entry : List ℕ
  from_entry = entry_bytes e ++ flat_map entry_bytes (drop (i + 1) es)

  behind : drop (8 + 6 * i) image ≡ from_entry
  behind =
      sym (drop-drop (6 * i) 8 image)
      ∙ ap (drop (6 * i)) (drop_at header (flat_map entry_bytes es) 8 eight)
      ∙ drop_joined es i
      ∙ ap (flat_map entry_bytes) (drop_more es i e here)
      ∙ ap (λ (x : CodeEntry). flat_map entry_bytes (x ∷ drop (i + 1) es)) is

  byte : (j k : ℕ) → 8 + 6 * i + j ≡ k → get_or image k 0 ≡ get_or from_entry j 0
  byte j k at = ap (λ (n : ℕ). get_or image n 0) (sym at) ∙ sym (get_or-drop (8 + 6 * i) image j 0) ∙ ap (λ (xs : List ℕ). get_or xs j 0) behind

  tag_read : e.tag.0 < 65536 → u16_at image (8 + 6 * i) ≡ e.tag.0
  tag_read fits =
      let a = byte 0 (8 + 6 * i) (omega arith) in
      let b = byte 1 (8 + 6 * i + 1) refl in
      cc (two_bytes e.tag.0 fits)

  bits_read : e.bits < 4294967296 → u32_at image (8 + 6 * i + 2) ≡ e.bits
  bits_read fits =
      let a = byte 2 (8 + 6 * i + 2) refl in
      let b = byte 3 (8 + 6 * i + 2 + 1) (omega arith) in
      let c = byte 4 (8 + 6 * i + 2 + 2) (omega arith) in
      let d = byte 5 (8 + 6 * i + 2 + 2 + 1) (omega arith) in
      cc (four_bytes e.bits fits)

  pub entry_read : e.tag.0 < 65536 → e.bits < 4294967296 → code_entry_at image i ≡ e
  entry_read tag_Fits bits_fit =
      let made : ℕ → ℕ → CodeEntry = λ t b. record { tag = record { 0 = t }; bits = b } in
      ap (λ (t : ℕ). made t (u32_at image (8 + 6 * i + 2))) (tag_read tag_Fits) ∙ ap (made e.tag.0) (bits_read bits_fit)
