-- Each byte is the list's at its place.
use Rattle.std.proofs.Common.{◌+◌, slice_index, rules, tests, arith}
use Rattle.alike.proofs.Bytes.{made_by}
use Rattle.alike.proofs.read.bytes_at.Goals as goal

pub returns : goal.returns
returns g c k l = made_by _ _ (λ i. slice_index c.args.image.now (c.args.at + i)) (λ i y q a. search (rules, tests)) c.from_fn.result 0 g.row.N c.from_fn.ensures.items.each k (omega arith) (omega arith)
