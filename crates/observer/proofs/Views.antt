-- What an observer sees of lists, places and single cells.
use Rattle.std.proofs.Common.{◌≡◌, ℕ, ◌+◌, Bool, true, false, cond, List, [], ◌∷◌, ◌++◌, map, get_or, take, set, Some, None, Option, sym, refl, ap, ◌∙◌, append-nil, add-one, arith, take-suc-set}
use lib.ListN.{get_or-map}
use Rattle.std.proofs.lemmas.List.Elements.{filter-append}
use Rattle.labels.specs.declared.cell.Tag.{Tag}
use Rattle.labels.specs.declared.cell.Cell.{Cell}
use Rattle.instructions.specs.declared.instruction.Instruction.{Instruction}
use Rattle.rules.specs.declared.class.Class.TheVariants.{Out}
use Rattle.machine.specs.declared.frames.Frame.{Frame}
use Rattle.machine.specs.Machine.{zero_cell}
use Rattle.machine.specs.Effect.{MachineState, fault}
use Rattle.observer.specs.Observer.{shown, sees_cell, seen_cells}
use Rattle.observer.specs.View.{View, at_pc, resumption, seen_frames, place_of}
use Rattle.observer.specs.ObserverMachine.{if_seen, seen_at}

pub equal_views : {v w : View} → v.registers ≡ w.registers → v.cells ≡ w.cells → v.outputs ≡ w.outputs → v.place ≡ w.place → v.halted ≡ w.halted → v ≡ w
equal_views p q r s t = λ i. record { registers = p i; cells = q i; outputs = r i; place = s i; halted = t i }

-- an output that finds a place comes behind the others
pub one_more_output : (s : MachineState) (c : Cell) (i : Instruction) → fault Out i s ≡ None → take (s.held.outputs + 1) (set s.output_places s.held.outputs c) ≡ take s.held.outputs s.output_places ++ (c ∷ [])
one_more_output s c i f = rw add-one (take-suc-set s.output_places s.held.outputs c (grind arith))

module _ (sees : Tag → Bool) where
  pub blank : (c : Cell) → sees c.tag ≡ false → shown sees c ≡ None
  blank c h = rw h refl

  pub not_added : (cs : List Cell) (c : Cell) → sees c.tag ≡ false → seen_cells sees (cs ++ (c ∷ [])) ≡ seen_cells sees cs
  not_added cs c h = filter-append (sees_cell sees) cs (c ∷ []) ∙ rw h (append-nil (seen_cells sees cs))

  pub seen_place : (pc : ℕ) (t : Tag) (fs : List Frame) → sees t ≡ true → place_of sees pc t fs ≡ at_pc pc t fs
  seen_place pc t fs h = rw h refl

  pub unseen_place : (pc : ℕ) (t : Tag) (fs : List Frame) → sees t ≡ false → place_of sees pc t fs ≡ resumption fs
  unseen_place pc t fs h = rw h refl

  -- a return goes where the machine would resume, whether the frame that it takes is seen or not
  pub return_place : (f : Frame) (fs : List Frame) → place_of sees f.pc f.tag (seen_frames sees fs) ≡ resumption (seen_frames sees (f ∷ fs))
  return_place f fs = go (sees f.tag)
    where
      go : (b : Bool) → cond b (at_pc f.pc f.tag (seen_frames sees fs)) (resumption (seen_frames sees fs)) ≡ resumption (cond b (f ∷ seen_frames sees fs) (seen_frames sees fs))
      go true = refl
      go false = refl

  tell : {X : Type 0} (c : Cell) (otherwise : X) (h : Cell → X) → (sees c.tag ≡ false → h c ≡ otherwise) → h c ≡ if_seen (shown sees c) otherwise h
  tell {X} c otherwise h u = go (sees c.tag) u
    where
      go : (b : Bool) → (b ≡ false → h c ≡ otherwise) → h c ≡ if_seen (cond b (Some c) None) otherwise h
      go true u = refl
      go false u = u refl

  -- What depends on a cell can be told from what is seen of it, if it is known for an unseen one.
  pub tell_at : {X : Type 0} (cs : List Cell) (n : ℕ) (otherwise : X) (h : Cell → X) → (sees (get_or cs n zero_cell).tag ≡ false → h (get_or cs n zero_cell) ≡ otherwise)
      → h (get_or cs n zero_cell) ≡ if_seen (seen_at sees (map (shown sees) cs) n) otherwise h
  tell_at cs n otherwise h u = tell (get_or cs n zero_cell) otherwise h u ∙ ap (λ (x : Option Cell). if_seen x otherwise h) (sym (get_or-map (shown sees) cs n zero_cell))
