-- The guarantee holds for the order's meaning and engines of both types.
use Rattle.examiner.proofs.TwoSides.{guarantee}
use Rattle.examiner.proofs.guarantee.noninterference.Goals as goal

pub returns : goal.returns
returns g c = λ o. guarantee (g.O.Order.meaning o) (g.met.O.Order.lawful o) g.L.Engine.answers g.L.Engine.means g.R.Engine.answers g.R.Engine.means g.L.Engine.faithful g.R.Engine.faithful
