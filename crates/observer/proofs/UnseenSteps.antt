-- What an instruction does under a pc tag that is not seen leaves the view as it is.
use Rattle.std.proofs.Common.{◌≡◌, ℕ, ◌+◌, Bool, true, false, List, [], ◌∷◌, take, None, Ok, sym, refl, ap, ◌∙◌}
use lib.Seq.{map-set_same}
use Rattle.labels.specs.Order.{Meaning, Laws}
use Rattle.labels.specs.declared.cell.Word.{Word}
use Rattle.labels.specs.declared.cell.Tag.{Tag}
use Rattle.rules.specs.Class.{class_number}
use Rattle.instructions.specs.declared.instruction.Instruction.{Instruction}
use Rattle.rules.specs.declared.class.Class.{Class}
use Rattle.rules.specs.declared.class.Class.TheVariants.{Nop, Const, Mov, Bin, Load, Store, Jump, Bnz, Goto, Call, Ret, Out, Raise, Halt}
use Rattle.rules.specs.Rules.{P, I, D, A, B, M, rule}
use Rattle.rules.specs.Flow.{joined, holds}
use Rattle.rules.proofs.Judged.{Used}
use Rattle.machine.specs.declared.frames.Frame.{Frame}
use Rattle.machine.specs.Frames.{latest_tag}
use Rattle.machine.specs.Machine.{cell, zero_cell, register}
use Rattle.machine.specs.Effect.{MachineState, address, cell_at, fault, on_to, advance, write_register, with_frames, return_by, holding, progress}
use Rattle.observer.specs.Observer.{Downward, shown, seen_cells}
use Rattle.observer.specs.View.{view, place_of, seen_frames}
use Rattle.observer.specs.ObserverLaws.{has_halted}
use Rattle.observer.proofs.Unseen.{unseen_above, this, later, unseen_join}
use Rattle.observer.proofs.Views.{equal_views, one_more_output, blank, not_added, unseen_place, return_place}
use Rattle.observer.proofs.RuleEffects.{query_by_class, effect_by_rule}

module _ (sees : Tag → Bool) (s : MachineState) (unseen : sees s.held.pc_tag ≡ false) where
  -- from one unseen pc tag to another the place is where the machine will resume
  same_place : (pc : ℕ) (t : Tag) (fs : List Frame) → sees t ≡ false → place_of sees pc t fs ≡ place_of sees s.held.pc s.held.pc_tag fs
  same_place pc t fs h = unseen_place sees pc t fs h ∙ sym (unseen_place sees s.held.pc s.held.pc_tag fs unseen)

  advanced : place_of sees (s.held.pc + 1) s.held.pc_tag (seen_frames sees s.held.frames) ≡ place_of sees s.held.pc s.held.pc_tag (seen_frames sees s.held.frames)
  advanced = same_place (s.held.pc + 1) s.held.pc_tag (seen_frames sees s.held.frames) unseen

  unseen_move : (pc : ℕ) (t : Tag) → sees t ≡ false → view sees false (holding (on_to pc t s.held) s) ≡ view sees false s
  unseen_move pc t h = equal_views refl refl refl (same_place pc t (seen_frames sees s.held.frames) h) refl

  -- an unseen register is written with an unseen tag
  unseen_write : (d : ℕ) (w : Word) (t : Tag) → sees (register s.held d).tag ≡ false → sees t ≡ false
      → view sees false (holding (advance s.held.pc_tag (write_register d (cell w t) s.held)) s) ≡ view sees false s
  unseen_write d w t old new =
      equal_views
      (map-set_same (shown sees) s.held.registers d (cell w t) zero_cell (blank sees (cell w t) new ∙ sym (blank sees (register s.held d) old)))
      refl refl advanced refl

  -- the frame that is taken is unseen, or the one at which the machine was going to resume
  unseen_return : (fs : List Frame) → view sees false (holding (return_by fs (latest_tag fs) (with_frames fs s.held)) s) ≡ view sees false (holding (with_frames fs s.held) s)
  unseen_return [] = refl
  unseen_return (f ∷ fs) = equal_views refl refl refl (return_place sees f fs ∙ sym (unseen_place sees s.held.pc s.held.pc_tag (seen_frames sees (f ∷ fs)) unseen)) refl

module _ (m : Meaning) (laws : Laws m) (sees : Tag → Bool) (down : Downward m sees) (s : MachineState) (i : Instruction) (t : Tag) where
  abbrev UnseenEffect : Class → Type 0
  UnseenEffect c =
      let q = query_by_class c i t s in
      let r = rule (class_number c) in
      fault c i s ≡ None → sees s.held.pc_tag ≡ false → Used m.label r.mask q → holds m q r.condition ≡ true
      → view sees (has_halted (Ok (progress c))) (effect_by_rule m c i t s) ≡ view sees false s

  -- each rule that writes a register asks that the pc tag flows to the old tag, and joins it to the new one
  pub unseen_effect : (c : Class) → UnseenEffect c
  unseen_effect Nop f h u k = unseen_move sees s h _ _ h
  unseen_effect Const f h u k =
      unseen_write sees s h i.d _ _ (unseen_above m laws sees down _ _ k h) (unseen_join m laws sees down (query_by_class Const i t s) 56 u (I ∷ P ∷ []) refl (later (this h)))
  unseen_effect Mov f h u k =
      unseen_write sees s h i.d _ _ (unseen_above m laws sees down _ _ k h) (unseen_join m laws sees down (query_by_class Mov i t s) 44 u (A ∷ P ∷ []) refl (later (this h)))
  unseen_effect Bin f h u k =
      unseen_write sees s h i.d _ _ (unseen_above m laws sees down _ _ k h) (unseen_join m laws sees down (query_by_class Bin i t s) 46 u (A ∷ B ∷ P ∷ []) refl (later (later (this h))))
  unseen_effect Load f h u k =
      unseen_write sees s h i.d _ _ (unseen_above m laws sees down _ _ k h) (unseen_join m laws sees down (query_by_class Load i t s) 45 u (A ∷ M ∷ P ∷ []) refl (later (later (this h))))
  unseen_effect Store f h u k =
      let q = query_by_class Store i t s in
      let new = cell (register s.held i.b).word (joined m q (A ∷ B ∷ P ∷ [])) in
      let old = unseen_above m laws sees down _ _ k (unseen_join m laws sees down q 39 u (A ∷ P ∷ []) refl (later (this h))) in
      equal_views refl
      (map-set_same (shown sees) s.cells (address s.held i) new zero_cell
      (blank sees new (unseen_join m laws sees down q 39 u (A ∷ B ∷ P ∷ []) refl (later (later (this h)))) ∙ sym (blank sees (cell_at s.cells (address s.held i)) old)))
      refl (advanced sees s h) refl
  unseen_effect Jump f h u k = unseen_move sees s h _ _ (unseen_join m laws sees down (query_by_class Jump i t s) 36 u (P ∷ A ∷ []) refl (this h))
  unseen_effect Bnz f h u k = unseen_move sees s h _ _ (unseen_join m laws sees down (query_by_class Bnz i t s) 36 u (P ∷ A ∷ []) refl (this h))
  unseen_effect Goto f h u k = unseen_move sees s h _ _ h
  unseen_effect Call f h u k = equal_views refl refl refl (rw h) refl
  unseen_effect Ret f h u k = unseen_return sees s h s.held.frames
  unseen_effect Out f h u k =
      let q = query_by_class Out i t s in
      let new = cell (register s.held i.a).word (joined m q (A ∷ P ∷ [])) in
      equal_views refl refl
      (ap (seen_cells sees) (one_more_output s new i f) ∙ not_added sees (take s.held.outputs s.output_places) new (unseen_join m laws sees down q 36 u (A ∷ P ∷ []) refl (later (this h))))
      (advanced sees s h) refl
  unseen_effect Raise f h u k =
      unseen_write sees s h i.d _ _ (unseen_above m laws sees down _ _ k h) (unseen_join m laws sees down (query_by_class Raise i t s) 56 u (D ∷ I ∷ P ∷ []) refl (later (later (this h))))
  unseen_effect Halt f h u k = equal_views refl refl refl (same_place sees s h s.held.pc s.held.pc_tag (seen_frames sees s.held.frames) h) h
