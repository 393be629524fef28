-- The first refusal is shown, or what the page came to.
use Rattle.std.proofs.Common.{Ok, refl, ap, ◌∙◌}
use Rattle.std.proofs.lemmas.Result.{err_from_is_err_and}
use Rattle.rules.specs.Flow.{flow}
use Rattle.sitting.specs.Sitting.{standing}
use Rattle.screen.specs.Screen.{report_with, session}
use Rattle.screen.proofs.Sessions.{opening_refused, run_refused, paged_after_run}
use Rattle.screen.proofs.session.show_sitting.Goals as goal

pub returns-in_err-open : goal.returns-in_err-open
returns-in_err-open g c =
    let p = err_from_is_err_and c.from_residual.result c.from_residual.ensures.1 in
    rw (p.1, p.2)
    (opening_refused (g.O.Order.meaning c.args.order) c.args.budget c.args.image.now c.args.page.now c.args.cells.now c.args.outputs.now _ _ _ _ c.in_err-open.ensures.opened)

pub returns-in_err-run : goal.returns-in_err-run
returns-in_err-run g c =
    let p = err_from_is_err_and c.from_residual-in_err-run.result c.from_residual-in_err-run.ensures.1 in
    let m = g.O.Order.meaning c.args.order in
    let by = c.in_err-run.ensures.by_book (flow m) c.flow_cache-cache.ensures.means_flow_rules in
    rw (p.1, p.2)
    (run_refused m c.args.budget c.args.image.now c.args.page.now c.args.cells.now c.args.outputs.now _ _ _ c.in_ok-open.ensures.opened _ by.0 _ refl)

pub returns-in_err-page : goal.returns-in_err-page
returns-in_err-page g c =
    let p = err_from_is_err_and c.from_residual-in_err-page.result c.from_residual-in_err-page.ensures.1 in
    let m = g.O.Order.meaning c.args.order in
    let by = c.in_ok-run.ensures.by_book (flow m) c.flow_cache-cache.ensures.means_flow_rules in
    let page = c.in_err-page.ensures in
    rw (p.1, p.2)
    (paged_after_run m c.args.budget c.args.image.now c.args.page.now c.args.cells.now c.args.outputs.now _ _ _ c.in_ok-open.ensures.opened _ by.0 _ (record { hits = 0; misses = 0 }) _ _ refl page.answer page.written)

pub returns : goal.returns
returns g c =
    let m = g.O.Order.meaning c.args.order in
    let by = c.in_ok-run.ensures.by_book (flow m) c.flow_cache-cache.ensures.means_flow_rules in
    let page = c.in_ok-page.ensures in
    ap (λ r. session (report_with (Ok r) c.page.new.page) (standing c.run.new.self)) c.new.ensures
    ∙ paged_after_run m c.args.budget c.args.image.now c.args.page.now c.args.cells.now c.args.outputs.now _ _ _ c.in_ok-open.ensures.opened _ by.0 _ c.counts.result _ _ refl page.answer page.written
