-- The verdict is that of the flow rules, case by case.
use Rattle.std.proofs.Common.{◌≡◌, ◌<◌, true, false, rules}
use Rattle.rules.specs.Class.{class_number}
use Rattle.rules.specs.Rules.{rule}
use Rattle.rules.specs.Flow.{each_used}
use Rattle.rules.proofs.Classes.{class_ruled, no_class_ruled}
use Rattle.rules.proofs.Judged.{flow_no_class, flow_no_label, flow_rule}
use Rattle.rules.proofs.flow.judge.Goals as goal

pub returns-in_err-class : goal.returns-in_err-class
returns-in_err-class g c =
    let q = c.args.query.now in
    let high : 13 < q.class = search rules in
    let verdict = flow_no_class (g.O.Order.meaning c.args.order.now) q (no_class_ruled q.class high) in
    search rules

pub returns-then-not-each_used : goal.returns-then-not-each_used
returns-then-not-each_used g c =
    let m = g.O.Order.meaning c.args.order.now in
    let q = c.args.query.now in
    let named : class_number c.in_ok-class.class ≡ q.class = search rules in
    let labels : each_used m.label (rule q.class).mask q ≡ false = search rules in
    let verdict = flow_no_label m q (class_ruled c.in_ok-class.class q.class named) labels in
    search rules

pub returns : goal.returns
returns g c =
    let m = g.O.Order.meaning c.args.order.now in
    let q = c.args.query.now in
    let named : class_number c.in_ok-class.class ≡ q.class = search rules in
    let labels : each_used m.label (rule q.class).mask q ≡ true = search rules in
    let verdict = flow_rule m q (class_ruled c.in_ok-class.class q.class named) labels in
    search rules
