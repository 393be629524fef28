-- The frames as a list.
use Rattle.std.specs.Prelude.{List, [], ◌∷◌, reverse, take, Some, None, Option}
use Rattle.labels.specs.Order.{tag}
use Rattle.labels.specs.declared.cell.Tag.{Tag}
use Rattle.machine.specs.declared.frames.Frame.{Frame}
use Rattle.machine.specs.declared.frames.Frames.{Frames}

-- the latest frame first
abbrev pub frames_of : Frames → List Frame
frames_of f = reverse (take f.depth f.slots)

abbrev pub latest : List Frame → Option Frame
latest [] = None
latest (f ∷ fs) = Some f

abbrev pub earlier : List Frame → List Frame
earlier [] = []
earlier (f ∷ fs) = fs

abbrev pub latest_tag : List Frame → Tag
latest_tag [] = tag 0
latest_tag (f ∷ fs) = f.tag
