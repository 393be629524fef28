-- What holds of the views of runs, for every observer.
use Rattle.std.specs.Prelude.{◌≡◌, ℕ, Bool, true, false, ◌⊎◌, List, ◌++◌, Ok, Err}
use Rattle.labels.specs.Order.{Meaning}
use Rattle.labels.specs.declared.cell.Tag.{Tag}
use Rattle.labels.specs.declared.cell.Cell.{Cell}
use Rattle.image.specs.declared.entry.CodeEntry.{CodeEntry}
use Rattle.rules.specs.Book.{Book}
use Rattle.rules.specs.Flow.{flow}
use Rattle.machine.specs.declared.progress.Progress.TheVariants.{GoesOn, Halts}
use Rattle.machine.specs.Machine.{start}
use Rattle.machine.specs.Effect.{MachineState}
use Rattle.execution.specs.Step.{Outcome, Answers}
use Rattle.execution.specs.Run.{RunsTo}
use Rattle.observer.specs.Observer.{Downward, reader, AlikeCells}
use Rattle.observer.specs.View.{View, view}
use Rattle.observer.specs.ObserverMachine.{Reaches}

abbrev pub has_halted : Outcome → Bool
has_halted (Ok GoesOn) = false
has_halted (Ok Halts) = true
has_halted (Err x) = false

-- some cells are the first of others, or all of them
abbrev pub FirstOf : List Cell → List Cell → Type 0
FirstOf xs ys = (rest : List Cell) × (xs ++ rest ≡ ys)

abbrev pub at_start : List Cell → List Cell → MachineState
at_start cells places = record { held = start; cells = cells; output_places = places }

-- At the start, alike cells give equal views, whatever the output places hold.
abbrev pub AlikeStartsLookEqual : Type 0
AlikeStartsLookEqual = (sees : Tag → Bool) (cs ds places others : List Cell) → AlikeCells sees cs ds → view sees false (at_start cs places) ≡ view sees false (at_start ds others)

module _ (m : Meaning) where
  -- A reader is an observer, whatever tag he has.
  abbrev pub ReadersAreObservers : Type 0
  ReadersAreObservers = (label : Tag) → Downward m (reader m label)

  module _ {E : Type 0} (answers : Answers E) (means : E → Book → Type 0) where
    -- After any run over an engine that means the flow rules, from a state that has not halted, the view is one
    -- that the observer's machine reaches from the first view by itself.
    abbrev pub RunsShowReachedViews : Type 0
    RunsShowReachedViews = (sees : Tag → Bool) → Downward m sees → (code : List CodeEntry) (n g : ℕ) (s s' : MachineState) (e e' : E) (r : Outcome)
        → means e (flow m) → RunsTo answers code n s e r g s' e' → Reaches m sees code (view sees false s) (view sees (has_halted r) s')

  -- Of two views that are reached from one, the outputs of one are the first outputs of the other.
  abbrev pub OutputsAgree : Type 0
  OutputsAgree = (sees : Tag → Bool) (code : List CodeEntry) (v w x : View) → Reaches m sees code v w → Reaches m sees code v x
      → FirstOf w.outputs x.outputs ⊎ FirstOf x.outputs w.outputs

  -- If one is halted, the other has no more outputs.
  abbrev pub HaltedHasAllOutputs : Type 0
  HaltedHasAllOutputs = (sees : Tag → Bool) (code : List CodeEntry) (v w x : View) → Reaches m sees code v w → Reaches m sees code v x
      → w.halted ≡ true → FirstOf x.outputs w.outputs

  -- If both are halted, they are equal.
  abbrev pub HaltedViewsAreEqual : Type 0
  HaltedViewsAreEqual = (sees : Tag → Bool) (code : List CodeEntry) (v w x : View) → Reaches m sees code v w → Reaches m sees code v x
      → w.halted ≡ true → x.halted ≡ true → w ≡ x

  pub record ObserverLaws {E : Type 0} (answers : Answers E) (means : E → Book → Type 0) : Type 0 where
    pub readers_are_observers : ReadersAreObservers
    pub runs_show_reached_views : RunsShowReachedViews answers means
    pub outputs_agree : OutputsAgree
    pub halted_has_all_outputs : HaltedHasAllOutputs
    pub halted_views_are_equal : HaltedViewsAreEqual
    pub alike_starts_look_equal : AlikeStartsLookEqual
