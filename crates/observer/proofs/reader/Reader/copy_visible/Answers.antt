-- Writing all that is seen leaves the whole at the start.
use Rattle.std.proofs.Common.{arith}
use Rattle.observer.proofs.SeenLists.{writes_all}
use Rattle.observer.proofs.reader.Reader.copy_visible.Goals as goal

pub loop-cell-init : goal.loop-cell-init
loop-cell-init g c = (writes_all _ _ c.requires, omega arith)
