-- The weight of each of the six tags of a query.
use Rattle.std.specs.Prelude.{ℕ}
use Rattle.rules.specs.Rules as rules
use Rattle.rules.specs.declared.mask.QueryTag.{QueryTag}
use Rattle.rules.specs.declared.mask.QueryTag.TheVariants.{Pc, Instruction, D, A, B, Memory}

-- as a tag that the rules speak of
abbrev pub input_of : QueryTag → rules.Input
input_of Pc = rules.P
input_of Instruction = rules.I
input_of D = rules.D
input_of A = rules.A
input_of B = rules.B
input_of Memory = rules.M

abbrev pub weight_of : QueryTag → ℕ
weight_of which = rules.weight (input_of which)
