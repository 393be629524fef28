-- What is written to the lent record is what the table then has there.
use Rattle.std.proofs.Common.{refl}
use Rattle.cache.specs.Lines.{with_record}
use Rattle.cache.proofs.SameLines.{same_lines}
use Rattle.cache.proofs.lines.Lines.lend.Goals as goal

pub returns : goal.returns
unfolding with_record
returns g = ((refl, λ w. same_lines _ _ refl), tt)
