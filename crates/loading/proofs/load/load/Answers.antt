-- The cells are the chunks behind the code.
use Rattle.std.proofs.Common.{◌≡◌, length, Some, None, Ok, Option, refl, ap, sym, ◌∙◌, arith}
use Rattle.labels.specs.declared.refusal.Refusal.{Refusal}
use Rattle.image.specs.declared.header.Header.{Header}
use Rattle.image.specs.Layout.{header_of, cells_of}
use Rattle.image.specs.Load.{answer, unless_refused, load_refusal}
use Rattle.loading.proofs.Chunks.{cells_copied}
use Rattle.loading.proofs.load.load.Goals as goal

-- what is answered is the header, where nothing is refused
granted : (o : Option Refusal) (h image : Header) → Ok h ≡ answer o image → (o ≡ None) × (h ≡ image)
granted None h image e = (refl, cc)
granted (Some refusal) h image e = (cc, cc)

pub copy_cells-requires : goal.copy_cells-requires
copy_cells-requires g c = let counted = c.in_ok-header.ensures.counted in omega (arith, c.entries_from.ensures.len)

pub returns-clause-cells : goal.returns-clause-cells
returns-clause-cells g c =
    let h = c.in_ok-header.header in
    let none = granted (load_refusal (g.O.Order.meaning c.args.order.now) c.args.image.now (length c.args.cells.now)) h (header_of c.args.image.now) c.in_ok-header.ensures.answer in
    c.copy_cells.ensures
    ∙ cells_copied c.args.image.now h c.entries_from.result.now none.1 c.in_ok-header.ensures.counted.0 c.entries_from.ensures.entries
    ∙ ap (λ (o : Option Refusal). unless_refused o c.args.cells.now (cells_of c.args.image.now)) (sym none.0)
