-- A new cache means what the engine below means, by the lemma on its definition.
use Rattle.std.proofs.Common.{sym, subst}
use Rattle.cache.specs.RuleCache.{Means}
use Rattle.cache.specs.FaithfulCache.{new_means}
use Rattle.cache.proofs.rule_cache.RuleCache.new.Goals as goal

pub returns-clause-means_what_the_engine_means : goal.returns-clause-means_what_the_engine_means
returns-clause-means_what_the_engine_means g c = λ b m.
    subst (λ lines. Means g.E.Engine.means (record { engine = c.args.engine; lines = lines; counts = record { hits = 0; misses = 0 } }) b) (sym c.new.ensures)
    (new_means g.E.Engine.means c.args.engine b m)
