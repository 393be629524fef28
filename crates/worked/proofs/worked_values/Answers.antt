-- The worked values follow by computation.
use Rattle.std.proofs.Common.{refl}
use lib.Count.{ones, ones_in}
use Rattle.rules.specs.Flow.{flow}
use Rattle.table.specs.Numbering.{row_count}
use Rattle.table.specs.Compiled.{rows_below}
use Rattle.worked.specs.Worked.{WorkedValuesFollow}
use Rattle.worked.proofs.worked_values.Goals as goal

values_follow : WorkedValuesFollow
unfolding ones ones_in flow row_count rows_below
values_follow = refl

pub returns : goal.returns
returns c = record { number = c.number_of_values.ensures; follow = values_follow }
