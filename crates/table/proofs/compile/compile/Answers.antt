-- A table over the compiled rows means the flow rules.
use Rattle.std.proofs.Common.{sym, ◌∙◌, ap₂}
use Rattle.table.specs.Table.{table_book}
use Rattle.table.proofs.CompiledRows.{compile_judges}
use Rattle.table.proofs.compile.compile.Goals as goal

pub returns : goal.returns
returns g c =
    let m = g.O.Order.meaning c.args.order.now in
    let done = c.fill_if_fitting.ensures in
    record {
      answer = done.answer;
      filled = done.filled;
      table_means_flow_rules = λ granted t layout rows q.
          compile_judges m (g.met.O.Order.lawful c.args.order.now) c.args.rows.now c.fill_if_fitting.new.rows (sym granted ∙ done.answer) done.filled q
          ∙ ap₂ (λ l r. table_book l r q) (sym layout) (sym rows);
    }
