-- Verdicts, and books: what a policy says of each query.
use Rattle.std.specs.Prelude.{Result}
use Rattle.labels.specs.declared.cell.Tag.{Tag}
use Rattle.rules.specs.declared.query.Query.{Query}
use Rattle.rules.specs.declared.violation.Violation.{Violation}

-- a grant of the next pc tag and the result tag, or a violation
abbrev pub Verdict : Type 0
Verdict = Result (Tag × Tag) Violation

-- A book gives one verdict for each query.
abbrev pub Book : Type 0
Book = Query → Verdict
