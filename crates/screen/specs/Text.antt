-- What is printed of a report.
use Rattle.std.specs.Prelude.{Bool, true, false, ℕ, List, [], ◌++◌, codes, decimal}
use Rattle.cache.specs.declared.rule_cache.Counts.{Counts}
use Rattle.sitting.specs.State.{state_text}
use Rattle.screen.specs.declared.session.Report.{Report}

-- a line, where the end mark is set
abbrev pub mark_text : Bool → List ℕ
mark_text true = codes "end\n"
mark_text false = []

-- how a sitting stands: its state, pc and steps
abbrev pub standing_text : Report → List ℕ
standing_text r = state_text r.state ++ (codes " pc " ++ (decimal r.pc ++ (codes " steps " ++ (decimal r.steps ++ codes "\n"))))

abbrev pub counts_text : Counts → List ℕ
counts_text c = codes "cache hits " ++ (decimal c.hits ++ (codes " misses " ++ decimal c.misses))

abbrev pub report_text : Report → List ℕ
report_text r = mark_text r.page.end_mark ++ (standing_text r ++ counts_text r.cache)
