-- The latest frame stands in the last slot that is filled.
use Rattle.std.proofs.Common.{sym, ap, arith}
use Rattle.machine.specs.Frames.{latest}
use Rattle.machine.proofs.FrameLists.{taken_off}
use Rattle.machine.proofs.frames.Frames.latest.Goals as goal

pub returns : goal.returns
returns c =
    let f = c.args.self.now in
    sym (ap latest (taken_off f.slots f.depth _ (omega arith) (omega arith)))
