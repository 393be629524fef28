-- Each class fills the part of the rows that is its own.
use Rattle.std.proofs.Common.{◌+◌, length, refl, ap, ◌∙◌, arith, rules}
use Rattle.rules.proofs.Classes.{all_in_turn}
use Rattle.table.specs.Numbering.{class_start}
use Rattle.table.specs.Compiled.{rows_below, class_rows}
use Rattle.table.proofs.RowCounts.{Part, part_of}
use Rattle.table.proofs.CompiledRows.{filled_more, filled_all}
use Rattle.table.proofs.compile.fill.Given as given
use Rattle.table.proofs.compile.fill.Goals as goal

part : (g : given.Over) (c : goal.After-end g) → Part c.args.layout.now.labels c.loop-class.class-index c.start.result c.end.result (length c.loop-class.rows)
part g c =
    let here = all_in_turn _ c.loop-class.class-index c.loop-class-test.true in
    let n = c.args.layout.now.labels in
    part_of n c.loop-class.class-index c.start.result c.end.result (length c.loop-class.rows) (omega arith)
    (c.start.ensures.value ∙ ap (class_start n) here)
    (c.end.ensures ∙ ap (λ k. class_start n (k + 1)) here)
    (c.loop-class.auto.rows ∙ c.requires)

pub slice_bounds-fill_class-start : goal.slice_bounds-fill_class-start
slice_bounds-fill_class-start g c = let p = part g c in search rules

pub slice_bounds-fill_class-end : goal.slice_bounds-fill_class-end
slice_bounds-fill_class-end g c = let p = part g c in search rules

pub loop-class-init : goal.loop-class-init
unfolding rows_below
loop-class-init g c = refl

pub loop-class-preserved : goal.loop-class-preserved
loop-class-preserved g c =
    let n = c.args.layout.now.labels in
    let m = g.O.Order.meaning c.args.order.now in
    let k = c.loop-class.class-index in
    let here = all_in_turn _ k c.loop-class-test.true in
    let p = part_of n k c.start.result c.end.result (length c.loop-class.rows) (omega arith)
    (c.start.ensures.value ∙ ap (class_start n) here)
    (c.end.ensures ∙ ap (λ k. class_start n (k + 1)) here)
    (c.loop-class.auto.rows ∙ c.requires) in
    filled_more n m k c.start.result c.end.result c.loop-class.rows c.fill_class.new.rows
    p.start (omega arith) (c.fill_class.ensures ∙ ap (class_rows n m) here) c.loop-class.invariant

pub returns : goal.returns
returns g c =
    filled_all c.args.layout.now.labels (g.O.Order.meaning c.args.order.now) c.loop-class.class-index c.loop-class.rows
    (omega arith) (c.loop-class.auto.rows ∙ c.requires) c.loop-class.invariant
