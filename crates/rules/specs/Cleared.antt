-- A query with 0 in the place of each tag that its rule does not use.
use Rattle.std.specs.Prelude.{ℕ, cond, ◌==◌, bit_and}
use Rattle.labels.specs.Order.{tag}
use Rattle.labels.specs.declared.cell.Tag.{Tag}
use Rattle.rules.specs.Rules.{rule, ruled}
use Rattle.rules.specs.declared.query.Query.{Query}

-- a used tag stays, an unused one becomes 0
abbrev pub kept : ℕ → ℕ → Tag → Tag
kept mask weight t = tag (cond (bit_and mask weight == 0) 0 t.0)

abbrev pub cleared_by : ℕ → Query → Query
cleared_by mask q = record {
  class = q.class;
  pc = kept mask 32 q.pc;
  instruction = kept mask 16 q.instruction;
  d = kept mask 8 q.d;
  a = kept mask 4 q.a;
  b = kept mask 2 q.b;
  memory = kept mask 1 q.memory;
}

-- a query of a class with no rule stays as it is
abbrev pub cleared : Query → Query
cleared q = cond (ruled q.class) (cleared_by (rule q.class).mask q) q
