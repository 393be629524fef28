-- The checks have passed, so the order is the one that the header names.
use Rattle.std.proofs.Common.{◌≡◌, Some, None, Ok, Option, ap, ◌∙◌}
use Rattle.orders.specs.Makes.{order_named}
use Rattle.labels.specs.declared.refusal.Refusal.{Refusal}
use Rattle.image.specs.declared.header.Header.{Header}
use Rattle.image.specs.Layout.{header_of}
use Rattle.image.specs.Load.{answer}
use Rattle.sitting.specs.Sitting.{standing}
use Rattle.sitting.specs.Open.{start_refusal, found_unless}
use Rattle.sitting.proofs.sitting.Sitting.find_order.Goals as goal

passed : (o : Option Refusal) (header read : Header) → Ok header ≡ answer o read → order_named header.order ≡ found_unless o (order_named read.order)
passed (Some refusal) header read h = cc
passed None header read h = let same : header ≡ read = cc in ap (λ (x : Header). order_named x.order) same

pub returns : goal.returns
returns c =
    let image = c.args.image.now in
    c.try_from.ensures ∙ passed (start_refusal (standing c.args.self.now) image) c.in_ok-header.header (header_of image) c.in_ok-header.ensures
