-- The laws of observers, together.
use Rattle.labels.specs.Order.{Meaning, Laws}
use Rattle.rules.specs.Book.{Book}
use Rattle.execution.specs.Step.{Answers}
use Rattle.observer.specs.ObserverLaws.{ObserverLaws}
use Rattle.observer.proofs.Unseen.{reader_downward}
use Rattle.execution.proofs.RunsByBook.{Faithful}
use Rattle.observer.proofs.ObservedRuns.{run_reaches}
use Rattle.observer.proofs.ReachedViews.{outputs_agree, halted_has_all_outputs, halted_views_are_equal}
use Rattle.observer.proofs.Starts.{alike_starts_look_equal}

pub observer_laws : (m : Meaning) → Laws m → {E : Type 0} (answers : Answers E) (means : E → Book → Type 0)
    → Faithful answers means → ObserverLaws m answers means
observer_laws m laws answers means faithful = record {
  readers_are_observers = reader_downward m laws;
  runs_show_reached_views = λ sees down code n g s s' e e' r means_flow h. run_reaches m laws answers means faithful sees down code means_flow h;
  outputs_agree = outputs_agree m;
  halted_has_all_outputs = halted_has_all_outputs m;
  halted_views_are_equal = halted_views_are_equal m;
  alike_starts_look_equal = alike_starts_look_equal;
}
