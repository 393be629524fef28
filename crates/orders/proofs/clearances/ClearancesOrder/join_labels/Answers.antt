-- The join of two clearances fits a tag.
use Rattle.std.proofs.Common.{rules, ◌+◌, ◌*◌, ◌^◌, ◌<◌}
use Rattle.std.proofs.lemmas.Bool.{ltb-true}
use Rattle.orders.specs.Makes.{clearance_join}
use Rattle.orders.specs.LawfulMakes.{clearance_join_fits}
use Rattle.orders.proofs.clearances.ClearancesOrder.join_labels.Goals as goal

fits : (c : goal.After-sets) → clearance_join c.args.self.now.q c.args.a.0 c.args.b.0 < 65536
fits c =
    let o = c.args.self.now in
    let bound = (o.p + 1) * 2 ^ o.q in
    clearance_join_fits o.p o.q c.args.a.0 c.args.b.0 o.p_fits o.q_fits (ltb-true _ bound c.requires.0) (ltb-true _ bound c.requires.1)

pub overflow_add-result : goal.overflow_add-result
overflow_add-result c = let f = fits c in search rules

pub overflow_cast-result : goal.overflow_cast-result
overflow_cast-result c = let f = fits c in search rules
