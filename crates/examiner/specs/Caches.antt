-- Examining with rule caches over flow engines.
use Rattle.std.specs.Prelude.{◌≡◌, ℕ, List}
use Rattle.labels.specs.Order.{Meaning}
use Rattle.labels.specs.declared.cell.Cell.{Cell}
use Rattle.rules.specs.Book.{Book}
use Rattle.rules.specs.Flow.{flow}
use Rattle.rules.specs.Engines.{AnswersBy, MeansBy, flow_book}
use Rattle.rules.specs.declared.flow_engine.FlowEngine.{FlowEngine}
use Rattle.cache.specs.RuleCache.{new_cache, counts_of, Asked, Means}
use Rattle.cache.specs.declared.rule_cache.Counts.{Counts}
use Rattle.cache.specs.declared.rule_cache.RuleCache.{RuleCache}
use Rattle.execution.specs.Step.{Answers}
use Rattle.sitting.specs.Sitting.{blank}
use Rattle.examiner.specs.History.{Memory}
use Rattle.examiner.specs.Examined.{SideDone, examined_by, ExaminedFrom, IsHistory}

module _ {O : Type 0} (meaning : O → Meaning) where
  abbrev pub cache_answers : Answers (RuleCache (FlowEngine O))
  cache_answers = Asked (AnswersBy (flow_book meaning))

  abbrev pub cache_means : RuleCache (FlowEngine O) → Book → Type 0
  cache_means = Means (MeansBy (flow_book meaning))

  -- One side over a new cache: what its calls come to by the order's flow rules, which is a history, and the cache's counts.
  pub record SideExaminedWithCache (order : O) (given : Memory) (page : List Cell) (budget : ℕ) (side : SideDone) (counts : Counts) : Type 0 where
    pub by_flow_rules : side ≡ examined_by (flow (meaning order)) (meaning order) blank given page budget
    pub history : IsHistory cache_answers (meaning order) cache_means given side
    pub cache : RuleCache (FlowEngine O)
    pub examined : ExaminedFrom cache_answers (meaning order) blank given page budget (new_cache (record { order = order })) side cache
    pub counted : counts ≡ counts_of cache
