-- The makes of order, and the order that a name stands for.
use Rattle.std.specs.Prelude.{ℕ, ◌+◌, ◌*◌, ◌/◌, ◌%◌, ◌^◌, max, Bool, cond, ◌&&◌, leb, Ok, Err, Result, ◌==◌, bit_and, bit_or, nat_le, nat_lt}
use Rattle.labels.specs.Order.{Meaning, tag}
use Rattle.labels.specs.declared.name.Parameters.{Parameters}
use Rattle.labels.specs.declared.name.OrderName.{OrderName}
use Rattle.labels.specs.declared.refusal.Refusal.{Refusal}
use Rattle.labels.specs.declared.refusal.Refusal.TheVariants.{WrongOrder}

abbrev pub both : (ℕ → Bool) → ℕ → ℕ → Bool
both label a b = label a && label b

-- an order from what it says of the numbers that are labels
abbrev pub order_on : ℕ → ℕ → ℕ → ℕ → (ℕ → Bool) → (ℕ → ℕ → Bool) → (ℕ → ℕ → ℕ) → Meaning
order_on kind p q bound label below union = record {
  kind = kind;
  p = p;
  q = q;
  bound = bound;
  label = λ t. label t.0;
  flows = λ a b. both label a.0 b.0 && below a.0 b.0;
  join = λ a b. tag (cond (both label a.0 b.0) (union a.0 b.0) 0);
}

-- every number below n is a label
abbrev pub below_all : ℕ → ℕ → Bool
below_all n a = nat_lt a n

-- two-point: of 0 and 1 only 1 to 0 does not flow
abbrev pub two_point : Meaning
two_point = order_on 1 0 0 2 (below_all 2) leb max

-- all bits of a are bits of b
abbrev pub subset : ℕ → ℕ → Bool
subset a b = bit_and a b == a

-- barred sets of p + 1 readers: bit i bars reader i, and a label flows to one that has all its bits
abbrev pub barred_sets : ℕ → Meaning
barred_sets p = order_on 2 p 0 (2 ^ (p + 1)) (below_all (2 ^ (p + 1))) subset bit_or

-- a clearance is level · 2 ^ q + set
abbrev pub level : ℕ → ℕ → ℕ
level q a = a / 2 ^ q

abbrev pub compartments : ℕ → ℕ → ℕ
compartments q a = a % 2 ^ q

-- no lower level, and a set that contains its own
abbrev pub cleared_for : ℕ → ℕ → ℕ → Bool
cleared_for q a b = nat_le (level q a) (level q b) && subset (compartments q a) (compartments q b)

-- the higher level and the union
abbrev pub clearance_join : ℕ → ℕ → ℕ → ℕ
clearance_join q a b = max (level q a) (level q b) * 2 ^ q + bit_or (compartments q a) (compartments q b)

-- clearances of p + 1 levels and q compartments
abbrev pub clearances : ℕ → ℕ → Meaning
clearances p q = order_on 3 p q ((p + 1) * 2 ^ q) (below_all ((p + 1) * 2 ^ q)) (cleared_for q) (clearance_join q)

-- an order whose parameters are as they must be
abbrev pub made_if : Bool → Meaning → Result Meaning Refusal
made_if b m = cond b (Ok m) (Err WrongOrder)

abbrev pub two_point_of : Parameters → Result Meaning Refusal
two_point_of n = made_if (n.p == 0 && n.q == 0) two_point

abbrev pub barred_sets_of : Parameters → Result Meaning Refusal
barred_sets_of n = made_if (nat_lt n.p 16 && n.q == 0) (barred_sets n.p)

abbrev pub clearances_of : Parameters → Result Meaning Refusal
clearances_of n = made_if (nat_lt n.p 16 && nat_le n.q 12) (clearances n.p n.q)

-- the order that a name stands for, if it stands for one
abbrev pub order_named : OrderName → Result Meaning Refusal
order_named n =
    cond (n.kind == 1) (two_point_of n.parameters)
    (cond (n.kind == 2) (barred_sets_of n.parameters)
    (cond (n.kind == 3) (clearances_of n.parameters) (Err WrongOrder)))
