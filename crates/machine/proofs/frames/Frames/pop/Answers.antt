-- The frame taken off is the first of the list.
use Rattle.std.proofs.Common.{sym, ap, arith}
use Rattle.machine.specs.Frames.{latest, earlier}
use Rattle.machine.proofs.FrameLists.{counted_fewer, taken_off}
use Rattle.machine.proofs.frames.Frames.pop.Goals as goal

pub invariant_of-self : goal.invariant_of-self
invariant_of-self c =
    let f = c.args.self.now in
    record { depth_fits = omega arith; depth_counts = counted_fewer f.slots f.depth f.depth_counts }

pub returns : goal.returns
returns c =
    let f = c.args.self.now in
    let list = taken_off f.slots f.depth _ (omega arith) (omega arith) in
    record { answer = sym (ap latest list); left = sym (ap earlier list) }
