-- What one call of the rule cache does, and which books it means.
use Rattle.std.specs.Prelude.{◌≡◌, ℕ, ◌+◌, min, Some, None, Ok, Err, Option, slice_index_or}
use Rattle.labels.specs.declared.cell.Tag.{Tag}
use Rattle.rules.specs.Book.{Verdict, Book}
use Rattle.rules.specs.declared.query.Query.{Query}
use Rattle.cache.specs.Lines.{with_record, all_alike}
use Rattle.cache.specs.Line.{line_number, empty, line_with, grant_in}
use Rattle.cache.specs.declared.line.Line.{Line}
use Rattle.cache.specs.declared.lines.Lines.{Lines}
use Rattle.cache.specs.declared.rule_cache.Counts.{Counts}
use Rattle.cache.specs.declared.rule_cache.RuleCache.{RuleCache}

-- a count goes up by one and stops at the greatest number of 32 bits
abbrev pub one_more_counted : ℕ → ℕ
one_more_counted n = min (n + 1) 4294967295

-- a new cache: all lines empty, both counts 0
abbrev pub new_cache : {E : Type 0} → E → RuleCache E
new_cache e = record { engine = e; lines = all_alike empty; counts = record { hits = 0; misses = 0 } }

abbrev pub counts_of : {E : Type 0} → RuleCache E → Counts
counts_of c = c.counts

-- the hit test: the grant that the line of a query holds for it
abbrev pub grant_held : {E : Type 0} → RuleCache E → Query → Option (Tag × Tag)
grant_held c q = grant_in (slice_index_or c.lines.all (line_number q) empty) q

-- after a hit only the hits have changed
abbrev pub after_hit : {E : Type 0} → RuleCache E → RuleCache E
after_hit c = record { engine = c.engine; lines = c.lines; counts = record { hits = one_more_counted c.counts.hits; misses = c.counts.misses } }

-- a grant takes the line of its query, a violation leaves it
abbrev pub refilled : Lines → Query → Verdict → Lines
refilled t q (Ok grant) = with_record t (line_number q) (line_with q grant)
refilled t q (Err x) = t

-- after a miss that the engine below answered
abbrev pub after_miss : {E : Type 0} → RuleCache E → Query → Verdict → E → RuleCache E
after_miss c q v below = record { engine = below; lines = refilled c.lines q v; counts = record { hits = c.counts.hits; misses = one_more_counted c.counts.misses } }

-- a hit: the line's grant is the answer, and the engine below is not asked
pub record Hit {E : Type 0} (before : RuleCache E) (grant : Tag × Tag) (v : Verdict) (after : RuleCache E) : Type 0 where
  pub answer : v ≡ Ok grant
  pub exit : after ≡ after_hit before

-- a miss: the engine below is asked once, and its verdict is the answer
pub record Miss {E : Type 0} (answers : E → Query → Verdict → E → Type 0) (before : RuleCache E) (q : Query) (v : Verdict) (after : RuleCache E) : Type 0 where
  pub asked : answers before.engine q v after.engine
  pub exit : after ≡ after_miss before q v after.engine

abbrev pub AskedBy : {E : Type 0} → (E → Query → Verdict → E → Type 0) → Option (Tag × Tag) → RuleCache E → Query → Verdict → RuleCache E → Type 0
AskedBy answers (Some grant) before q v after = Hit before grant v after
AskedBy answers None before q v after = Miss answers before q v after

-- one call: a hit or a miss as the hit test says
abbrev pub Asked : {E : Type 0} → (E → Query → Verdict → E → Type 0) → RuleCache E → Query → Verdict → RuleCache E → Type 0
Asked answers before q v after = AskedBy answers (grant_held before q) before q v after

-- what is held is the book's grant
abbrev pub HeldBy : Book → Option (Query × (Tag × Tag)) → Type 0
HeldBy b None = Unit {0}
HeldBy b (Some held) = b held.0 ≡ Ok held.1

-- a line is empty, or holds the book's grant
abbrev pub Right : Book → Line → Type 0
Right b l = HeldBy b l.held

-- The cache means a book when the engine below means it and each filled line holds the book's grant.
abbrev pub Means : {E : Type 0} → (E → Book → Type 0) → RuleCache E → Book → Type 0
Means means c b = means c.engine b × ((i : ℕ) → Right b (slice_index_or c.lines.all i empty))
