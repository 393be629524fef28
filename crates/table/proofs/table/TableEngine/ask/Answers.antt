-- The verdict is that of the table's book, case by case.
use Rattle.std.proofs.Common.{◌≡◌, ◌+◌, sym, refl, ap, ap₂, ◌∙◌, true, false, slice_index, rules}
use Rattle.rules.specs.Class.{class_number}
use Rattle.rules.specs.Rules.{rule}
use Rattle.rules.specs.Flow.{each_used}
use Rattle.rules.proofs.Classes.{class_ruled}
use Rattle.table.specs.Packing.{unpack}
use Rattle.table.specs.Numbering.{class_start, number}
use Rattle.table.specs.Layout.{row_of}
use Rattle.table.specs.Table.{below}
use Rattle.table.proofs.CompiledRows.{book_row}
use Rattle.table.proofs.table.TableEngine.ask.Goals as goal

pub returns-then-not-covers : goal.returns-then-not-covers
returns-then-not-covers c =
    let q = c.args.query in
    let n = c.args.self.now.layout.labels in
    let named : class_number c.in_ok-class.class ≡ q.class = search rules in
    let ruled = class_ruled c.in_ok-class.class q.class named in
    let labels : each_used (below n) (rule q.class).mask q ≡ false = search rules in
    search rules

pub returns : goal.returns
returns c =
    let q = c.args.query in
    let n = c.args.self.now.layout.labels in
    let rows = c.args.self.now.rows.now in
    let named : class_number c.in_ok-class.class ≡ q.class = search rules in
    let labels : each_used (below n) (rule q.class).mask q ≡ true = search rules in
    let start : c.start.result ≡ class_start n q.class = c.start.ensures.value ∙ ap (class_start n) named in
    let place : c.number.result ≡ number n (rule q.class).mask q = search rules in
    let read : c.unwrap_or.result ≡ slice_index rows (c.start.result + c.number.result) = search rules in
    let row : c.unwrap_or.result ≡ slice_index rows (row_of n q) = read ∙ ap₂ (λ s p. slice_index rows (s + p)) start place in
    (c.unpacked.ensures ∙ ap unpack row ∙ sym (book_row n rows q (class_ruled c.in_ok-class.class q.class named) labels), refl)
