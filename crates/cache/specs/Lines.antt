-- The table of sixty-four lines.
use Rattle.std.specs.Prelude.{ℕ, replicate, slice_set}
use Rattle.std.proofs.Common.{◌∙◌, length-set}
use Rattle.std.proofs.lemmas.List.{length-replicate}
use Rattle.cache.specs.declared.line.Line.{Line}
use Rattle.cache.specs.declared.lines.Lines.{Lines}

-- the table with another line at a number
unfoldable pub with_record : Lines → ℕ → Line → Lines
with_record t i x = record { all = slice_set t.all i x; sized = length-set t.all i x ∙ t.sized }

-- the table with one line everywhere
abbrev pub all_alike : Line → Lines
all_alike x = record { all = replicate 64 x; sized = length-replicate 64 x }
