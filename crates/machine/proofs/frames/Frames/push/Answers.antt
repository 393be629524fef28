-- A frame in the slot behind the latest is one more in front of the list.
use Rattle.std.proofs.Common.{◌+◌, set, arith, length-set}
use Rattle.machine.proofs.FrameLists.{counted, put_on}
use Rattle.machine.proofs.frames.Frames.push.Goals as goal

pub invariant_of-self : goal.invariant_of-self
invariant_of-self c =
    let f = c.args.self.now in
    record {
      depth_fits = omega arith;
      depth_counts = counted (set f.slots f.depth c.args.frame) (f.depth + 1) (simp length-set (omega arith));
    }

pub returns : goal.returns
returns c = let f = c.args.self.now in put_on f.slots f.depth c.args.frame (omega arith)
