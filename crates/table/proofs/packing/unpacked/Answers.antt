-- A row with a cause is a violation, and any other a grant.
use Rattle.std.proofs.Common.{Ok, ◌∙◌, ap₂}
use Rattle.table.proofs.PackedRows.{unpack_cause, unpack_grant}
use Rattle.table.proofs.packing.unpacked.Goals as goal

pub returns-then-cause-gt0 : goal.returns-then-cause-gt0
returns-then-cause-gt0 c = unpack_cause c.args.row _

pub returns : goal.returns
returns c = ap₂ (λ x y. Ok (x, y)) c.next_tag.ensures c.result_tag.ensures ∙ unpack_grant c.args.row c.if-cause-gt0.false
