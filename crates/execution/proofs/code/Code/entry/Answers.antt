-- The entry that is read is the one of the code as a list.
use Rattle.std.proofs.Common.{◌+◌, ◌*◌, ◌≤◌, length, arith}
use Rattle.std.proofs.lemmas.Grind.{common_steps}
use Rattle.std.proofs.lemmas.List.FromFn.{length-map-range_with_len, get_or-map-range_with_len}
use Rattle.image.specs.Layout.{code_entry_at}
use Rattle.execution.specs.Step.{no_entry}
use Rattle.execution.proofs.code.Code.entry.Goals as goal

pub returns-then-pc-from-clause-entry : goal.returns-then-pc-from-clause-entry
returns-then-pc-from-clause-entry c =
    let inside = c.self.inside in
    let long = length-map-range_with_len (code_entry_at inside.image.now) 0 inside.count in
    rw (← c.self.view_is) (grind (arith, common_steps))

pub returns-clause-entry : goal.returns-clause-entry
returns-clause-entry c =
    let inside = c.self.inside in
    let image = inside.image.now in
    let long = length-map-range_with_len (code_entry_at image) 0 inside.count in
    let room : 8 + 6 * c.args.pc + 6 ≤ length image = omega (arith, c.self.invariant) in
    let at = get_or-map-range_with_len (code_entry_at image) 0 inside.count c.args.pc c.args.pc no_entry (omega arith) (omega arith) in
    rw (← c.self.view_is) (grind (arith, common_steps))
