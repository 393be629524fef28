-- A new cache means what the cache below it means.
use Rattle.rules.specs.Flow.{flow}
use Rattle.engines_agree.proofs.twice_cached.Goals as goal

pub returns : goal.returns
returns g c = c.new.ensures.means_what_the_engine_means (flow (g.O.Order.meaning c.args.order)) c.flow_cache.ensures.means_flow_rules
