-- The first cell that is not alike is the difference.
use Rattle.std.proofs.Common.{ℕ, ◌+◌, Bool, refl, ap, ap₂, ◌∙◌, rules, tests}
use Rattle.labels.specs.declared.cell.Cell.{Cell}
use Rattle.image.specs.declared.header.Header.{Header}
use Rattle.image.specs.Layout.{header_of, cell_entry_at}
use Rattle.observer.specs.Observer.{observer_of}
use Rattle.alike.specs.Difference.{alike_to, first_other}
use Rattle.alike.proofs.Places.{by_place}
use Rattle.alike.proofs.difference.cell_difference.Goals as goal

pub returns : goal.returns
returns g c =
    let same = alike_to (observer_of g.O.Order.meaning c.args.reader.now) in
    let left = c.args.left.now in
    let right = c.args.right.now in
    let f : ℕ → Cell = λ k. cell_entry_at left ((header_of left).counts.code + k) in
    let h : ℕ → Cell = λ k. cell_entry_at right ((header_of right).counts.code + k) in
    let test : ℕ → Bool = λ k. same (f k) (h k) in
    let n = ap (λ (h : Header). h.counts.cells) c.read_header.ensures in
    let m = ap (λ (h : Header). h.counts.cells) c.read_header-2.ensures in
    let from = ap (λ (h : Header). h.counts.code) c.read_header.ensures in
    let from' = ap (λ (h : Header). h.counts.code) c.read_header-2.ensures in
    c.first_other.ensures test (λ k r a. search (rules, tests)) ∙ ap₂ (first_other test) n m
    ∙ by_place same f h test (λ k. refl) (header_of left).counts.cells (header_of right).counts.cells
