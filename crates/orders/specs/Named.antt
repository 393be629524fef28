-- What an order chosen by its name means.
use Rattle.labels.specs.Order.{Meaning}
use Rattle.orders.specs.Makes.{two_point, barred_sets, clearances}
use Rattle.orders.specs.declared.named.NamedOrder.{NamedOrder}
use Rattle.orders.specs.declared.named.NamedOrder.TheVariants.{TwoPoint, BarredSets, Clearances}

abbrev pub meaning_of : NamedOrder → Meaning
meaning_of (TwoPoint o) = two_point
meaning_of (BarredSets o) = barred_sets o.p
meaning_of (Clearances o) = clearances o.p o.q
