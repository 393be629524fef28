-- A write that is granted loads back, and the parts of an image give its own bytes.
use Rattle.std.proofs.Common.{ℕ, List, length, Result, sym, subst}
use Rattle.labels.specs.declared.refusal.Refusal.{Refusal}
use Rattle.writing.specs.Write.{write_answer}
use Rattle.writing.specs.RoundTrip.{OwnBytes}
use Rattle.writing.proofs.RoundTrips.{granted_loads_back, writes_own_bytes}
use Rattle.writing.proofs.write.write.Goals as goal

pub returns : goal.returns
returns g c =
    let m = g.O.Order.meaning c.args.order.now in
    let code = c.args.code.now in
    let cells = c.args.cells.now in
    let before = c.args.buffer.now in
    let call = c.check_and_fill in
    let own : List ℕ → Result (Unit {0}) Refusal → Type 0 = λ xs r. OwnBytes m c.args.reader code cells (length before) r xs in
    record {
      answer = call.ensures.answer;
      bytes = call.ensures.bytes;
      loads_back = granted_loads_back m c.args.reader code cells before (g.met.O.Order.lawful c.args.order.now) call.result call.ensures.answer call.ensures.fits call.new.buffer call.ensures.bytes;
      own_bytes =
          subst (own call.new.buffer) (sym call.ensures.answer)
          (subst (λ (xs : List ℕ). own xs (write_answer m c.args.reader code cells before)) (sym call.ensures.bytes)
          (writes_own_bytes m c.args.reader code cells before));
    }
