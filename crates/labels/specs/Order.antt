-- What an order of labels means, and the laws that it keeps.
use Rattle.std.specs.Prelude.{◌≡◌, ℕ, ◌<◌, ◌≤◌, Bool, true, false, ◌&&◌, ◌==◌}
use Rattle.labels.specs.declared.cell.Tag.{Tag}
use Rattle.labels.specs.declared.name.Parameters.{Parameters}
use Rattle.labels.specs.declared.name.OrderName.{OrderName}

-- the tag of a number
abbrev pub tag : ℕ → Tag
tag n = record { 0 = n }

pub record Meaning : Type 0 where
  pub kind : ℕ
  pub p : ℕ
  pub q : ℕ
  pub bound : ℕ
  pub label : Tag → Bool
  pub flows : Tag → Tag → Bool
  pub join : Tag → Tag → Tag

abbrev pub Label : Meaning → Tag → Type 0
Label m t = m.label t ≡ true

abbrev pub Flows : Meaning → Tag → Tag → Type 0
Flows m a b = m.flows a b ≡ true

-- Flowing is an order on the labels with 0 at the bottom, and a join is the least label to which both parts flow.
-- Of a tag that is no label flowing says no, and a join with it is 0.
pub record Laws (m : Meaning) : Type 0 where
  pub name_fits : (m.kind < 16) × (m.p < 16) × (m.q < 16)
  pub bound_fits : (1 ≤ m.bound) × (m.bound ≤ 65536)
  pub below_bound : (a : Tag) → Label m a → a.0 < m.bound
  pub zero_is_label : Label m (tag 0)
  pub reflexive : (a : Tag) → Label m a → Flows m a a
  pub antisymmetric : (a b : Tag) → Label m a → Label m b → Flows m a b → Flows m b a → a ≡ b
  pub transitive : (a b c : Tag) → Label m a → Label m b → Label m c → Flows m a b → Flows m b c → Flows m a c
  pub zero_is_least : (a : Tag) → Label m a → Flows m (tag 0) a
  pub join_is_label : (a b : Tag) → Label m a → Label m b → Label m (m.join a b)
  pub left_flows_to_join : (a b : Tag) → Label m a → Label m b → Flows m a (m.join a b)
  pub right_flows_to_join : (a b : Tag) → Label m a → Label m b → Flows m b (m.join a b)
  pub join_is_least : (a b c : Tag) → Label m a → Label m b → Label m c → Flows m a c → Flows m b c → Flows m (m.join a b) c
  pub only_labels_flow : (a b : Tag) → (m.label a && m.label b) ≡ false → m.flows a b ≡ false
  pub only_labels_join : (a b : Tag) → (m.label a && m.label b) ≡ false → m.join a b ≡ tag 0

abbrev pub parameters_of : Meaning → Parameters
parameters_of m = record { p = m.p; q = m.q }

abbrev pub name_of : Meaning → OrderName
name_of m = record { kind = m.kind; parameters = parameters_of m }

-- a name is the order's if kind and parameters are
abbrev pub is_named : Meaning → OrderName → Bool
is_named m n = (m.kind == n.kind && m.p == n.parameters.p) && m.q == n.parameters.q
