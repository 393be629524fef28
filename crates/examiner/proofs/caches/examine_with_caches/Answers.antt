-- Both caches are new and mean the flow rules.
use Rattle.examiner.specs.Examined.{memory}
use Rattle.examiner.proofs.ExaminedCaches.{side_with_cache}
use Rattle.examiner.proofs.caches.examine_with_caches.Goals as goal

pub returns-clause-left : goal.returns-clause-left
returns-clause-left g c =
    let args = c.args in
    let cache = c.flow_cache-left_cache in
    let done = c.examine-examined in
    side_with_cache g.O.Order.meaning args.order (memory args.left_image.now args.left_cells.now args.left_outputs.now) args.left_page.now args.budget cache.result done.new.left_engine _ c.counts.result
    cache.ensures.holds_order cache.ensures.empty cache.ensures.means_flow_rules done.ensures.left c.counts.ensures

pub returns-clause-right : goal.returns-clause-right
returns-clause-right g c =
    let args = c.args in
    let cache = c.flow_cache-right_cache in
    let done = c.examine-examined in
    side_with_cache g.O.Order.meaning args.order (memory args.right_image.now args.right_cells.now args.right_outputs.now) args.right_page.now args.budget cache.result done.new.right_engine _ c.counts-2.result
    cache.ensures.holds_order cache.ensures.empty cache.ensures.means_flow_rules done.ensures.right c.counts-2.ensures
