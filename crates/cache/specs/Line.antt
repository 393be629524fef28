-- A line of the rule cache, and the number of the line that a query goes by.
use Rattle.std.specs.Prelude.{ℕ, ◌+◌, ◌*◌, ◌%◌, Bool, cond, ◌&&◌, Some, None, Option, ◌==◌}
use Rattle.labels.specs.declared.cell.Tag.{Tag}
use Rattle.rules.specs.declared.query.Query.{Query}
use Rattle.cache.specs.declared.line.Line.{Line}

abbrev pub line_number : Query → ℕ
line_number q =
    (q.class + 3 * q.pc.0 + 5 * q.instruction.0 + 7 * q.d.0 + 11 * q.a.0 + 13 * q.b.0 + 17 * q.memory.0) % 64

-- whether class and all six tags are equal
abbrev pub same_query : Query → Query → Bool
same_query p q =
    (p.class == q.class) && (p.pc.0 == q.pc.0 && (p.instruction.0 == q.instruction.0 && (p.d.0 == q.d.0 && (p.a.0 == q.a.0 && (p.b.0 == q.b.0 && p.memory.0 == q.memory.0)))))

abbrev pub empty : Line
empty = record { held = None }

abbrev pub line_with : Query → Tag × Tag → Line
line_with q grant = record { held = Some (q, grant) }

-- the grant that is held for a query
abbrev pub grant_for : Option (Query × (Tag × Tag)) → Query → Option (Tag × Tag)
grant_for None q = None
grant_for (Some held) q = cond (same_query held.0 q) (Some held.1) None

abbrev pub grant_in : Line → Query → Option (Tag × Tag)
grant_in l q = grant_for l.held q
