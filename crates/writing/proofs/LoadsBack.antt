-- A written image loads, and gives back what was written.
use Rattle.std.proofs.Common.{◌≡◌, ℕ, ◌+◌, ◌-◌, ◌<◌, ◌≤◌, true, ◌&&◌, eqb, leb, List, map, length, get_or, None, sym, refl, ap, ◌∙◌, subst, arith}
use Rattle.std.specs.List.{range_with_len, flat_map}
use Rattle.std.proofs.lemmas.List.FromFn.{fill_by_all}
use Rattle.std.proofs.lemmas.List.{length-append, get_or_default, get_or_append_left, get_or-append_right, get_or-map}
use Rattle.std.proofs.lemmas.Bool.{and_parts, and_from, eq-eqb, leb-true, le-leb}
use Rattle.labels.specs.Order.{Meaning, Laws, tag, name_of, is_named}
use Rattle.labels.specs.declared.cell.Tag.{Tag}
use Rattle.labels.specs.declared.cell.Cell.{Cell}
use Rattle.labels.specs.declared.refusal.Refusal.TheVariants.{CountOutsideLimits, NotALabel, WrongLength}
use Rattle.image.specs.declared.header.Header.{Header}
use Rattle.image.specs.declared.entry.CodeEntry.{CodeEntry}
use Rattle.image.specs.Layout.{header_of, counts_fit, length_of_image, code_entry_at, cell_entry_at, code_of, cells_of}
use Rattle.image.specs.Load.{check_labels, tags_of, entry_tags}
use Rattle.image.specs.Entry.{cell_entry, entry_bytes}
use Rattle.writing.specs.Write.{counts_of, write_refusal, header_bytes, entries, written_image, EntriesFit}
use Rattle.writing.specs.RoundTrip.{LoadsBack}
use Rattle.writing.proofs.Checks.{Loadable, loads}
use Rattle.image.proofs.TagChecks.{passed}
use Rattle.writing.proofs.Entries.{entries_length}
use Rattle.writing.proofs.Numerals.{two_bytes}
use Rattle.writing.proofs.Reading.{joined_length, entry_read}

-- what the checks of writing ask
pub record Writable (m : Meaning) (reader : Tag) (code : List CodeEntry) (cells : List Cell) : Type 0 where
  pub counts : counts_fit (counts_of code cells) ≡ true
  pub label : m.label reader ≡ true
  pub labels : check_labels m.label 1 (tags_of code cells) ≡ None

pub writable : (m : Meaning) (reader : Tag) (code : List CodeEntry) (cells : List Cell) (bytes : ℕ) → write_refusal m reader code cells bytes ≡ None → Writable m reader code cells
writable m reader code cells bytes e =
    let a = passed (counts_fit (counts_of code cells)) CountOutsideLimits _ e in
    let b = passed (eqb bytes (length_of_image (counts_of code cells))) WrongLength _ a.1 in
    let c = passed (m.label reader) (NotALabel 0) _ b.1 in
    record { counts = a.0; label = c.0; labels = c.1 }

-- a header of these numbers
abbrev header_with : ℕ → ℕ → ℕ → ℕ → ℕ → ℕ → ℕ → Header
header_with version kind p q code cells reader = record {
  version = version;
  order = record { kind = kind; parameters = record { p = p; q = q } };
  counts = record { code = code; cells = cells };
  reader = tag reader;
}

same_header : {v k p q c n r v' k' p' q' c' n' r' : ℕ} → v ≡ v' → k ≡ k' → p ≡ p' → q ≡ q' → c ≡ c' → n ≡ n' → r ≡ r'
    → header_with v k p q c n r ≡ header_with v' k' p' q' c' n' r'
same_header a b c d e f g = cc

own_name : (m : Meaning) → is_named m (name_of m) ≡ true
own_name m = and_from _ _ (and_from _ _ (eq-eqb m.kind m.kind refl) (eq-eqb m.p m.p refl)) (eq-eqb m.q m.q refl)

module _ (m : Meaning) (laws : Laws m) (reader : Tag) (code : List CodeEntry) (cells : List Cell) (w : Writable m reader code cells)
    (fit : EntriesFit (entries code cells)) where
  abbrev image : List ℕ
  image = written_image m reader code cells

  abbrev head : List ℕ
  head = header_bytes (name_of m) (counts_of code cells) reader

  abbrev header : Header
  header = record { version = 1; order = name_of m; counts = counts_of code cells; reader = reader }

  code_limit : length code ≤ 1024
  code_limit =
      leb-true (length code) 1024 (and_parts (leb 1 (length code)) (leb (length code) 1024) (and_parts _ (leb (length cells) 4096) w.counts).0).1

  cell_limit : length cells ≤ 4096
  cell_limit = leb-true (length cells) 4096 (and_parts (leb 1 (length code) && leb (length code) 1024) (leb (length cells) 4096) w.counts).1

  image_length_is : length image ≡ length_of_image (counts_of code cells)
  image_length_is =
      let a = length-append head (flat_map entry_bytes (entries code cells)) in
      let b = joined_length (entries code cells) in
      let c = entries_length code cells in
      omega arith

  header_is : header_of image ≡ header
  header_is =
      let fits = laws.name_fits in
      let below = laws.below_bound reader w.label in
      let bound = laws.bound_fits in
      let n = code_limit in
      let k = cell_limit in
      same_header (omega arith) (omega arith) (omega arith) (omega arith) (two_bytes (length code) (omega arith)) (two_bytes (length cells) (omega arith)) (two_bytes reader.0 (omega arith))

  -- an entry that is read is the one that was written
  read : (i : ℕ) (d : CodeEntry) → i < length code + length cells → code_entry_at image i ≡ get_or (entries code cells) i d
  read i d h =
      let es = entries code cells in
      let n = entries_length code cells in
      let here : i < length es = omega arith in
      let e = get_or es i d in
      entry_read head refl es i e here (get_or_default es i e d here) (fit i d here).0 (fit i d here).1

  code_is : code_of image ≡ code
  code_is =
      let d = code_entry_at image 0 in
      ap (λ (h : Header). map (code_entry_at image) (range_with_len 0 h.counts.code)) header_is
      ∙ sym (fill_by_all (code_entry_at image) code (length code) d refl
      (λ k h. sym (read k d (omega arith) ∙ get_or_append_left code (map cell_entry cells) d k h)))

  cell_of_entry : CodeEntry → Cell
  cell_of_entry e = record { word = record { 0 = e.bits }; tag = e.tag }

  cell_is : (k : ℕ) (d : Cell) → k < length cells → get_or cells k d ≡ cell_entry_at image (length code + k)
  unfolding cell_of_entry
  cell_is k d h =
      let i = length code + k in
      let at : i - length code ≡ k = omega arith in
      let es_at : get_or (entries code cells) i (cell_entry d) ≡ cell_entry (get_or cells k d) =
      get_or-append_right code (map cell_entry cells) (length code) i (cell_entry d) refl (omega arith)
      ∙ ap (λ (j : ℕ). get_or (map cell_entry cells) j (cell_entry d)) at
      ∙ get_or-map cell_entry cells k d (cell_entry d) h in
      sym (ap cell_of_entry (read i (cell_entry d) (omega arith) ∙ es_at))

  cells_are : cells_of image ≡ cells
  cells_are =
      let d = cell_entry_at image 0 in
      ap (λ (h : Header). map (λ i. cell_entry_at image (h.counts.code + i)) (range_with_len 0 h.counts.cells)) header_is
      ∙ sym (fill_by_all (λ i. cell_entry_at image (length code + i)) cells (length cells) d refl (λ k h. cell_is k d h))

  tags_are : entry_tags image ≡ tags_of code cells
  tags_are = ap (λ (es : List CodeEntry). tags_of es (cells_of image)) code_is ∙ ap (tags_of code) cells_are

  loads_with : Loadable m header (length_of_image (counts_of code cells)) (length cells) (tags_of code cells)
  loads_with = record {
    long_enough = le-leb 8 (length_of_image (counts_of code cells)) (omega arith);
    version = refl;
    named = own_name m;
    counts = w.counts;
    image_fits = eq-eqb (length_of_image (counts_of code cells)) _ refl;
    cells_fit = eq-eqb (length cells) _ refl;
    reader = w.label;
    labels = w.labels;
  }

  pub loads_back : LoadsBack m reader code cells image
  loads_back = record {
    loads = loads m image (length cells)
        (subst (λ (h : Header). Loadable m h (length image) (length cells) (entry_tags image)) (sym header_is)
        (subst (λ (n : ℕ). Loadable m header n (length cells) (entry_tags image)) (sym image_length_is)
        (subst (λ (ts : List Tag). Loadable m header (length_of_image (counts_of code cells)) (length cells) ts) (sym tags_are) loads_with)));
    header = header_is;
    code_same = code_is;
    cells_same = cells_are;
  }
