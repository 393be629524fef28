-- The laws of observers hold for the order's meaning and any engine.
use Rattle.observer.proofs.ObserverLaws.{observer_laws}
use Rattle.observer.proofs.laws.laws_of_observers.Goals as goal

pub returns : goal.returns
returns g c = λ o. observer_laws (g.O.Order.meaning o) (g.met.O.Order.lawful o) g.E.Engine.answers g.E.Engine.means g.E.Engine.faithful
