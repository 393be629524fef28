-- The entries are the chunks behind the header.
use Rattle.std.proofs.Common.{◌≡◌, length, rules, arith}
use Rattle.std.proofs.lemmas.Grind.{common_steps}
use Rattle.image.specs.Layout.{header_of, length_of_image}
use Rattle.loading.proofs.Chunks.{entries_checked, few_entries}
use Rattle.loading.proofs.load.check.Goals as goal

pub check_entries-requires : goal.check_entries-requires
check_entries-requires g c =
    let few = few_entries (header_of c.args.image.now).counts (search rules) in
    let fits : length c.args.image.now ≡ length_of_image (header_of c.args.image.now).counts = search rules in
    omega (arith, c.entries_from.ensures.len)

pub returns-in_err-check_entries-clause-answer : goal.returns-in_err-check_entries-clause-answer
returns-in_err-check_entries-clause-answer g c =
    let fits : length c.args.image.now ≡ length_of_image (header_of c.args.image.now).counts = search rules in
    let checked = entries_checked (g.O.Order.meaning c.args.order.now) c.args.image.now c.entries_from.result.now _ fits c.entries_from.ensures.entries c.in_err-check_entries.ensures in
    grind (arith, common_steps)

pub returns-clause-answer : goal.returns-clause-answer
returns-clause-answer g c =
    let fits : length c.args.image.now ≡ length_of_image (header_of c.args.image.now).counts = search rules in
    let checked = entries_checked (g.O.Order.meaning c.args.order.now) c.args.image.now c.entries_from.result.now _ fits c.entries_from.ensures.entries c.in_ok-check_entries.ensures in
    grind (arith, common_steps)
