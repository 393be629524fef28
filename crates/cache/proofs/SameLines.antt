-- Two tables are equal where their lists are.
use Rattle.std.proofs.Common.{◌≡◌, length}
use mathlib.Core.HLevel.{is_prop→PathP}
use native.Mathlib.Nat.{ℕ_set}
use Rattle.cache.specs.declared.lines.Lines.{Lines}

pub same_lines : (s t : Lines) → s.all ≡ t.all → s ≡ t
same_lines s t e = λ i. record { all = e i; sized = is_prop→PathP (λ k. length (e k) ≡ 64) (λ k. ℕ_set _ _) s.sized t.sized i }
