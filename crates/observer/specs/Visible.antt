-- Writing what is seen of some cells to the front of a list.
use Rattle.std.specs.Prelude.{List, ◌++◌, length, drop, None, Option, nat_le}
use Rattle.labels.specs.declared.cell.Cell.{Cell}
use Rattle.labels.specs.declared.refusal.Refusal.{Refusal}
use Rattle.labels.specs.declared.refusal.Refusal.TheVariants.{WrongLength}
use Rattle.image.specs.Load.{check}

-- The list has room for them.
abbrev pub room_refusal : List Cell → List Cell → Option Refusal
room_refusal seen page = check (nat_le (length seen) (length page)) WrongLength None

-- some cells over the front of a list, the rest of which is left
abbrev pub written_over : List Cell → List Cell → List Cell
written_over seen page = seen ++ drop (length seen) page
