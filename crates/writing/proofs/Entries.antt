-- The entries, code and then cells, one by one.
use Rattle.std.proofs.Common.{◌≡◌, ℕ, ◌+◌, ◌*◌, ◌<◌, ◌≤◌, List, [], ◌∷◌, ◌++◌, map, length, get_or, take, sym, ap, ◌∙◌, subst, below_more, arith}
use Rattle.std.specs.List.{flat_map, enumerate_from}
use Rattle.std.proofs.lemmas.List.FromFn.{length-enumerate_from, get_or-enumerate_from}
use Rattle.std.proofs.lemmas.List.{length-append, length-map, get_or_default, take_more, flat_map_more}
use Rattle.std.proofs.lemmas.Slice.{take-put_mid}
use Rattle.labels.specs.declared.cell.Cell.{Cell}
use Rattle.image.specs.declared.entry.CodeEntry.{CodeEntry}
use Rattle.image.specs.Entry.{cell_entry, entry_bytes}
use Rattle.writing.specs.Write.{entries, replaced}

module _ (code : List CodeEntry) (cells : List Cell) where
  pub entries_length : length (entries code cells) ≡ length code + length cells
  entries_length = length-append code (map cell_entry cells) ∙ ap (λ n. length code + n) (length-map cells cell_entry)

-- the pair that an enumeration gives
pub enumerated : {X : Type 0} (xs : List X) (n i : ℕ) (x : X) → n < length (enumerate_from 0 xs) → (i, x) ≡ get_or (enumerate_from 0 xs) n (i, x) → (n < length xs) × (i ≡ n) × (x ≡ get_or xs n x)
enumerated xs n i x h is =
    let here : n < length xs = omega (arith, length-enumerate_from 0 xs) in
    let e = is ∙ get_or-enumerate_from 0 xs n (i, x) here in
    (here, ap (λ p. p.0) e ∙ omega arith, ap (λ p. p.1) e)

-- one entry more, the n-th, is written behind those so far
module _ (es : List CodeEntry) (n i m : ℕ) (e : CodeEntry) (same : i ≡ n) (more : m ≡ n + 1) (here : n < length es) (is : e ≡ get_or es n e) where
  pub one_entry_more : (start buffer after : List ℕ) → 8 + 6 * i ≤ length buffer → after ≡ replaced buffer (8 + 6 * i) 6 (entry_bytes e)
      → take (8 + 6 * n) buffer ≡ start ++ flat_map entry_bytes (take n es) → take (8 + 6 * m) after ≡ start ++ flat_map entry_bytes (take m es)
  one_entry_more start buffer after room written before =
      let next : take m es ≡ take n es ++ e ∷ [] = ap (λ (k : ℕ). take k es) more ∙ take_more es n e here ∙ ap (λ (x : CodeEntry). take n es ++ x ∷ []) (sym is) in
      let place : 8 + 6 * i ≡ 8 + 6 * n = omega arith in
      ap (take (8 + 6 * m)) written
      ∙ take-put_mid (8 + 6 * i) 6 buffer (entry_bytes e) (8 + 6 * m) (omega arith) room
      ∙ ap (λ (bs : List ℕ). bs ++ entry_bytes e) (ap (λ (k : ℕ). take k buffer) place ∙ before)
      ∙ flat_map_more entry_bytes start (take n es) e
      ∙ ap (λ (xs : List CodeEntry). start ++ flat_map entry_bytes xs) (sym next)

  pub one_more_fits : (e.tag.0 < 65536) × (e.bits < 4294967296) → ((k : ℕ) (d : CodeEntry) → k < n → ((get_or es k d).tag.0 < 65536) × ((get_or es k d).bits < 4294967296))
      → (k : ℕ) (d : CodeEntry) → k < m → ((get_or es k d).tag.0 < 65536) × ((get_or es k d).bits < 4294967296)
  one_more_fits fits before k d h =
      let Fits : CodeEntry → Type 0 = λ x. (x.tag.0 < 65536) × (x.bits < 4294967296) in
      below_more (λ (k : ℕ). Fits (get_or es k d)) n (λ k h. before k d h) (subst Fits (is ∙ get_or_default es n e d here) fits) k (omega arith)
