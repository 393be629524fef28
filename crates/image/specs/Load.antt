-- What loading an image does: the checks in their order, and what they come to.
use Rattle.std.specs.Prelude.{◌≡◌, ℕ, ◌+◌, Bool, true, cond, List, [], ◌∷◌, ◌++◌, map, length, Some, None, Ok, Err, Option, Result, ◌==◌, nat_le}
use Rattle.labels.specs.Order.{Meaning, is_named}
use Rattle.labels.specs.declared.cell.Tag.{Tag}
use Rattle.labels.specs.declared.cell.Cell.{Cell}
use Rattle.labels.specs.declared.refusal.Refusal.{Refusal}
use Rattle.labels.specs.declared.refusal.Refusal.TheVariants.{ImageTooShort, UnknownVersion, WrongOrder, CountOutsideLimits, WrongImageLength, NotALabel, WrongLength}
use Rattle.image.specs.declared.header.Counts.{Counts}
use Rattle.image.specs.declared.header.Header.{Header}
use Rattle.image.specs.declared.entry.CodeEntry.{CodeEntry}
use Rattle.image.specs.Layout.{header_of, counts_fit, length_of_image, code_of, cells_of}

-- a check that holds leads to the next, and one that fails is the refusal
abbrev pub check : Bool → Refusal → Option Refusal → Option Refusal
check holds refusal next = cond holds next (Some refusal)

-- what is answered where there is a refusal, and where there is none
abbrev pub answer : {A : Type 0} → Option Refusal → A → Result A Refusal
answer (Some refusal) a = Err refusal
answer None a = Ok a

-- what memory then holds: at a refusal what it held
abbrev pub unless_refused : {A : Type 0} → Option Refusal → A → A → A
unless_refused (Some refusal) before after = before
unless_refused None before after = after

abbrev pub header_read : List ℕ → Result Header Refusal
header_read image = answer (check (nat_le 8 (length image)) ImageTooShort None) (header_of image)

abbrev pub version_checked : Header → Result (Unit {0}) Refusal
version_checked h = answer (check (h.version == 1) UnknownVersion None) tt

abbrev pub counts_checked : Counts → Result Counts Refusal
counts_checked n = answer (check (counts_fit n) CountOutsideLimits None) n

-- A tag that is no label is refused by its place.
abbrev pub label_check : (Tag → Bool) → Tag → ℕ → Option Refusal → Option Refusal
label_check label t place next = check (label t) (NotALabel place) next

abbrev pub tag_checked : Meaning → Tag → ℕ → Result (Unit {0}) Refusal
tag_checked m t place = answer (label_check m.label t place None) tt

-- the tags of entries, the code's and then the cells'
abbrev pub tags_of : List CodeEntry → List Cell → List Tag
tags_of code cells = map (λ (e : CodeEntry). e.tag) code ++ map (λ (c : Cell). c.tag) cells

abbrev pub entry_tags : List ℕ → List Tag
entry_tags image = tags_of (code_of image) (cells_of image)

-- the first of some tags that is no label
abbrev pub check_labels : (Tag → Bool) → ℕ → List Tag → Option Refusal
check_labels label place [] = None
check_labels label place (t ∷ ts) = label_check label t place (check_labels label (place + 1) ts)

-- What a check of a list answers, behind so many entries, whatever its elements are read as entries by.
abbrev pub EntriesChecked : {E : Type 0} → (E → CodeEntry → Type 0) → Meaning → ℕ → List E → Result (Unit {0}) Refusal → Type 0
EntriesChecked {E} reads_as m before es answered =
    (read : E → CodeEntry) → ((e : E) (entry : CodeEntry) → reads_as e entry → entry ≡ read e) → answered ≡ answer (check_labels m.label (before + 1) (map (λ (e : E). (read e).tag) es)) tt

-- What a test of a list answers, whatever its elements are read as entries by: if it passes, no check of the list refuses.
abbrev pub AllLabelled : {E : Type 0} → (E → CodeEntry → Type 0) → Meaning → List E → Bool → Type 0
AllLabelled {E} reads_as m es passed =
    (read : E → CodeEntry) → ((e : E) (entry : CodeEntry) → reads_as e entry → entry ≡ read e) → passed ≡ true → (place : ℕ) → check_labels m.label place (map (λ (e : E). (read e).tag) es) ≡ None

-- the checks of the entries' labels, whose places are counted from 1
abbrev pub entries_refusal : Meaning → List ℕ → Option Refusal
entries_refusal m image = check_labels m.label 1 (entry_tags image)

-- The checks of an image that is to be loaded in an order into so many cells.
abbrev pub load_refusal : Meaning → List ℕ → ℕ → Option Refusal
load_refusal m image cells =
    let h : Header = header_of image in
    check (nat_le 8 (length image)) ImageTooShort
    (check (h.version == 1) UnknownVersion
    (check (is_named m h.order) WrongOrder
    (check (counts_fit h.counts) CountOutsideLimits
    (check (length image == length_of_image h.counts) WrongImageLength
    (check (cells == h.counts.cells) WrongLength
    (label_check m.label h.reader 0
    (entries_refusal m image)))))))

-- Loading answers the header, or the first refusal.
abbrev pub load_answer : Meaning → List ℕ → List Cell → Result Header Refusal
load_answer m image cells = answer (load_refusal m image (length cells)) (header_of image)

-- Loading copies the image's cells, or leaves the cells as they were.
abbrev pub load_cells : Meaning → List ℕ → List Cell → List Cell
load_cells m image cells = unless_refused (load_refusal m image (length cells)) cells (cells_of image)
