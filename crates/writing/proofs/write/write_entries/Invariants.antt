-- The loop over the entries: the buffer begins with the header and the entries so far, and these fit their types.
use Rattle.std.proofs.Common.{◌≡◌, ℕ, ◌+◌, ◌*◌, ◌<◌, ◌++◌, length, get_or, take}
use Rattle.std.specs.List.{flat_map}
use Rattle.image.specs.declared.entry.CodeEntry.{CodeEntry}
use Rattle.image.specs.Entry.{entry_bytes}
use Rattle.writing.specs.Write.{entries}
use Rattle.writing.proofs.write.write_entries.Given as goal

abbrev pub invariant-loop-i : goal.invariant-loop-i
invariant-loop-i l =
    let es = entries l.code l.cells in
    let n = length l.yielded in
    record {
      written : take (8 + 6 * n) l.buffer ≡ take 8 l.initial.buffer ++ flat_map entry_bytes (take n es);
      fits : (k : ℕ) (d : CodeEntry) → k < n → ((get_or es k d).tag.0 < 65536) × ((get_or es k d).bits < 4294967296);
    }
