-- Observers: which tags they see, what they see of cells, and which cells are alike to them.
use Rattle.std.specs.Prelude.{◌≡◌, ℕ, ◌<◌, Bool, true, false, cond, ◌⊎◌, List, length, Some, None, filter, Option}
use Rattle.labels.specs.Order.{Meaning, Flows}
use Rattle.labels.specs.declared.cell.Tag.{Tag}
use Rattle.labels.specs.declared.cell.Cell.{Cell}
use Rattle.machine.specs.Effect.{cell_at}
use Rattle.observer.specs.declared.reader.Reader.{Reader}

-- An observer is a set of tags, those that he sees. It is closed downward: what flows to a seen tag is seen.
-- A join of two seen tags need not be seen.
abbrev pub Downward : Meaning → (Tag → Bool) → Type 0
Downward m sees = (a b : Tag) → Flows m a b → sees b ≡ true → sees a ≡ true

-- A reader is the observer who sees what flows to his label.
abbrev pub reader : Meaning → Tag → Tag → Bool
reader m label t = m.flows t label

-- the observer that a reader of an order is
abbrev pub observer_of : {O : Type 0} → (O → Meaning) → Reader O → Tag → Bool
observer_of meaning r = reader (meaning r.order.now) r.label

-- A cell whose tag is seen is seen whole, any other is blank: neither its word nor its tag is seen.
abbrev pub shown : (Tag → Bool) → Cell → Option Cell
shown sees c = cond (sees c.tag) (Some c) None

abbrev pub sees_cell : (Tag → Bool) → Cell → Bool
sees_cell sees c = sees c.tag

-- the seen ones among some cells, in their order
abbrev pub seen_cells : (Tag → Bool) → List Cell → List Cell
seen_cells sees cs = filter (sees_cell sees) cs

-- Two cells are alike to an observer if he sees neither tag, or if tags and words are equal.
abbrev pub Alike : (Tag → Bool) → Cell → Cell → Type 0
Alike sees c d = ((sees c.tag ≡ false) × (sees d.tag ≡ false)) ⊎ ((c.tag ≡ d.tag) × (c.word ≡ d.word))

-- Lists of cells are alike if they are equally long and alike at each place.
abbrev pub AlikeCells : (Tag → Bool) → List Cell → List Cell → Type 0
AlikeCells sees cs ds = (length cs ≡ length ds) × ((n : ℕ) → n < length cs → Alike sees (cell_at cs n) (cell_at ds n))
