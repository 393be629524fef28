-- Each turn writes one entry more, and after the last all are written.
use Rattle.std.proofs.Common.{length, take, arith, rules}
use Rattle.std.proofs.lemmas.Iterator.{YieldsList-from_slice, YieldsList-from_map}
use Rattle.std.proofs.lemmas.Iterator.Consumers.{YieldsList-at, YieldsList-from_copied, YieldsList-from_chain, YieldsList-from_enumerate, YieldsList-turn}
use Rattle.std.proofs.lemmas.List.{length_push}
use Rattle.image.specs.Entry.{cell_entry}
use Rattle.writing.specs.Write.{entries}
use Rattle.writing.proofs.Entries.{entries_length, one_entry_more, one_more_fits, enumerated}
use Rattle.writing.proofs.write.write_entries.Goals as goal

pub loop-i-preserved : goal.loop-i-preserved
loop-i-preserved c =
    let code = c.args.code.now in
    let cells = c.args.cells.now in
    let turn = YieldsList-turn
    (YieldsList-at c.into_iter-i-iterator.ensures.into_iter_gives
    (YieldsList-from_enumerate
    (YieldsList-at c.enumerate-i-items.ensures.source
    (YieldsList-from_chain
    (YieldsList-at c.chain-entries.ensures.first (YieldsList-from_copied (YieldsList-at c.copied.ensures.source (YieldsList-from_slice code c.iter.ensures.rest))))
    (YieldsList-at c.chain-entries.ensures.second (YieldsList-from_map _ cell_entry (YieldsList-at c.map.ensures.source (YieldsList-from_slice cells c.iter-2.ensures.rest)) c.map.ensures.closure (λ x r q k. search rules)))
    c.chain-entries.ensures.first_done c.chain-entries.ensures.second_done))
    c.enumerate-i-items.ensures.count))
    c.loop-i.yielded _ c.loop-i.yielded_by _ _ (c.in-Some.i, c.in-Some.entry) c.in-Some.is c.next.ensures.steps in
    let p = enumerated (entries code cells) (length c.loop-i.yielded) c.in-Some.i c.in-Some.entry turn.0 turn.1 in
    let n = entries_length code cells in
    let before = c.loop-i.invariant in
    let more = length_push c.loop-i.yielded (c.in-Some.i, c.in-Some.entry) in
    record {
      written = one_entry_more (entries code cells) (length c.loop-i.yielded) c.in-Some.i _ c.in-Some.entry p.1 more p.0 p.2 (take 8 c.args.buffer.now) c.loop-i.buffer _ (omega (arith, c.requires)) c.write_entry.ensures before.written;
      fits = one_more_fits (entries code cells) (length c.loop-i.yielded) c.in-Some.i _ c.in-Some.entry p.1 more p.0 p.2 (omega arith, omega arith) before.fits;
    }
