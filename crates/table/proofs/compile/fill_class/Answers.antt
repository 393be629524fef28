-- Each row is written from the query of its number.
use Rattle.std.proofs.Common.{◌≡◌, ℕ, ◌+◌, ◌<◌, get_or, set, sym, ap, ◌∙◌, subst, arith}
use Rattle.std.proofs.lemmas.List.Edits.{fill_by_more}
use Rattle.std.proofs.lemmas.List.FromFn.{fill_by_all}
use Rattle.rules.specs.Class.{class_number}
use Rattle.rules.specs.Flow.{flow}
use Rattle.table.specs.Packing.{pack}
use Rattle.table.specs.Numbering.{query_of, class_size}
use Rattle.table.proofs.compile.fill_class.Goals as goal

pub loop-i-preserved : goal.loop-i-preserved
loop-i-preserved g c =
    let m = g.O.Order.meaning c.args.order.now in
    let i = c.loop-i.i in
    let row : ℕ → ℕ = λ k. pack (flow m (query_of c.args.layout.now.labels (class_number c.args.class) k)) in
    let written : c.packed.result ≡ row i = c.packed.ensures ∙ ap pack (c.judge.ensures ∙ ap (flow m) c.query_of.ensures) in
    subst (λ (x : ℕ). (k : ℕ) → k < i + 1 → get_or (set c.loop-i.rows i x) k 0 ≡ row k) (sym written)
    (fill_by_more row c.loop-i.rows i 0 (omega arith) c.loop-i.invariant)

pub returns : goal.returns
returns g c =
    let m = g.O.Order.meaning c.args.order.now in
    let n = c.args.layout.now.labels in
    let class = class_number c.args.class in
    fill_by_all (λ k. pack (flow m (query_of n class k))) c.loop-i.rows (class_size n class) 0
    (c.loop-i.auto.rows ∙ c.requires) (λ k h. c.loop-i.invariant k (omega (arith, c.requires)))
