-- No count is above the number of queries judged so far.
use Rattle.std.proofs.Common.{◌≡◌, ℕ, ◌≤◌, length, get_or}
use Rattle.engines_agree.proofs.verdicts.Given as goal

abbrev pub invariant-loop-number : goal.invariant-loop-number
invariant-loop-number g l = (length l.counts ≡ 16) × ((k : ℕ) → get_or l.counts k 0 ≤ l.number)
