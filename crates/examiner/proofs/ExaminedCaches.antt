-- One side over a cache that is new and means the flow rules.
use Rattle.std.proofs.Common.{◌≡◌, ℕ, List, ap, ◌∙◌, subst}
use Rattle.labels.specs.Order.{Meaning}
use Rattle.labels.specs.declared.cell.Cell.{Cell}
use Rattle.rules.specs.Flow.{flow}
use Rattle.rules.specs.declared.flow_engine.FlowEngine.{FlowEngine}
use Rattle.cache.specs.RuleCache.{new_cache, counts_of}
use Rattle.cache.specs.declared.rule_cache.Counts.{Counts}
use Rattle.cache.specs.declared.rule_cache.RuleCache.{RuleCache}
use Rattle.sitting.specs.Sitting.{blank}
use Rattle.examiner.specs.History.{Memory}
use Rattle.examiner.specs.Examined.{SideDone, ExaminedFrom, SideExamined}
use Rattle.examiner.specs.Caches.{cache_answers, cache_means, SideExaminedWithCache}

module _ {O : Type 0} (meaning : O → Meaning) (order : O) (given : Memory) (page : List Cell) (budget : ℕ) where
  pub side_with_cache : (before after : RuleCache (FlowEngine O)) (side : SideDone) (counts : Counts)
      → before.engine.order ≡ order → before ≡ new_cache before.engine → cache_means meaning before (flow (meaning order))
      → SideExamined (cache_answers meaning) (meaning order) (cache_means meaning) given page budget before side after
      → counts ≡ counts_of after → SideExaminedWithCache meaning order given page budget side counts
  side_with_cache before after side counts holds empty means done counted = record {
    by_flow_rules = (done.by_book (flow (meaning order)) means).0;
    history = done.history means;
    cache = after;
    examined = subst (λ (x : RuleCache (FlowEngine O)). ExaminedFrom (cache_answers meaning) (meaning order) blank given page budget x side after)
        (empty ∙ ap (λ (o : O). new_cache {E = FlowEngine O} (record { order = o })) holds) done.examined;
    counted = counted;
  }
