-- Lent memory before and after a call.
use Rattle.std.specs.Prelude.{◌≡◌, length}
use Rattle.viewing.specs.declared.lent.LentMemory.{LentMemory}

-- The image is the same, and the same lists are lent, as long as before, whatever they hold.
pub record SameLoans (before after : LentMemory) : Type 0 where
  pub image : after.image ≡ before.image
  pub cells : after.cells.ghost_name ≡ before.cells.ghost_name
  pub outputs : after.outputs.ghost_name ≡ before.outputs.ghost_name
  pub page : after.page.ghost_name ≡ before.page.ghost_name
  pub cells_length : length after.cells.now ≡ length before.cells.now
  pub outputs_length : length after.outputs.now ≡ length before.outputs.now
  pub page_length : length after.page.now ≡ length before.page.now
