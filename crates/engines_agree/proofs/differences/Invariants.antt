-- At most two differences for each query so far.
use Rattle.std.proofs.Common.{◌+◌, ◌*◌, ◌≤◌}
use Rattle.engines_agree.proofs.differences.Given as goal

abbrev pub invariant-loop-number : goal.invariant-loop-number
invariant-loop-number g l = l.count ≤ 2 * l.number

abbrev pub invariant-loop : goal.invariant-loop
invariant-loop g l = l.count ≤ 2 * l.number + l.counter
