-- The power fits: there are at most 8 labels and 4 used tags.
use Rattle.std.proofs.Common.{◌≡◌, ℕ, ◌^◌, ◌<◌, count_ones, sym, ap, ◌∙◌, subst, arith}
use Rattle.rules.specs.Class.{class_number}
use Rattle.rules.specs.Rules.{rule}
use Rattle.rules.proofs.Classes.{number_low}
use Rattle.table.proofs.RowCounts.{size_small}
use Rattle.table.proofs.layout.places.rows_of_class.Goals as goal

pub pow-requires : goal.pow-requires
pow-requires c =
    let used : c.count.result ≡ count_ones (rule (class_number c.args.class)).mask = c.count.ensures ∙ ap count_ones c.mask.ensures in
    let small = size_small c.args.labels (class_number c.args.class) c.requires (number_low c.args.class) in
    subst (λ (u : ℕ). c.args.labels ^ u < 65536) (sym used) (omega (arith, small))
