-- What an instruction does under a seen pc tag takes the view to the observer's machine's next view.
use Rattle.std.proofs.Common.{◌≡◌, ℕ, ◌+◌, Bool, true, false, cond, eqb, List, [], ◌∷◌, ◌++◌, map, take, set, None, Ok, Option, sym, refl, ap, ◌∙◌}
use lib.Seq.{map-set, map-set_same}
use Rattle.std.proofs.lemmas.List.Elements.{filter-append}
use Rattle.labels.specs.Order.{Meaning, Laws}
use Rattle.labels.specs.declared.cell.Tag.{Tag}
use Rattle.labels.specs.declared.cell.Cell.{Cell}
use Rattle.rules.specs.Class.{class_number}
use Rattle.instructions.specs.Functions.{binary}
use Rattle.instructions.specs.declared.instruction.Instruction.{Instruction}
use Rattle.rules.specs.declared.class.Class.{Class}
use Rattle.rules.specs.declared.class.Class.TheVariants.{Nop, Const, Mov, Bin, Load, Store, Jump, Bnz, Goto, Call, Ret, Out, Raise, Halt}
use Rattle.rules.specs.Rules.{P, I, D, A, B, M, rule}
use Rattle.rules.specs.Flow.{joined, holds}
use Rattle.rules.proofs.Judged.{Used}
use Rattle.machine.specs.declared.frames.Frame.{Frame}
use Rattle.machine.specs.Frames.{latest_tag}
use Rattle.machine.specs.Machine.{cell, zero_cell, register}
use Rattle.machine.specs.Effect.{MachineState, address, cell_at, fault, on_to, advance, write_register, with_frames, return_by, holding, progress}
use Rattle.observer.specs.Observer.{Downward, shown, sees_cell, seen_cells}
use Rattle.observer.specs.View.{view, at_pc, resumption, place_of, seen_frames}
use Rattle.observer.specs.ObserverMachine.{if_seen, seen_at, move_to, with_register, join3, act}
use Rattle.observer.specs.ObserverLaws.{has_halted}
use Rattle.observer.proofs.Unseen.{unseen_above, this, later, unseen_join}
use Rattle.observer.proofs.Views.{equal_views, one_more_output, blank, seen_place, unseen_place, return_place, tell_at}
use Rattle.observer.proofs.RuleEffects.{query_by_class, effect_by_rule}

module _ (sees : Tag → Bool) (s : MachineState) where
  abbrev registers_seen : List (Option Cell)
  registers_seen = map (shown sees) s.held.registers

  abbrev cells_seen : List (Option Cell)
  cells_seen = map (shown sees) s.cells

  abbrev frames_seen : List Frame
  frames_seen = seen_frames sees s.held.frames

  seen_move : (pc : ℕ) → sees s.held.pc_tag ≡ true → view sees false (holding (on_to pc s.held.pc_tag s.held) s) ≡ move_to (at_pc pc s.held.pc_tag frames_seen) (view sees false s)
  seen_move pc h = equal_views refl refl refl (seen_place sees pc s.held.pc_tag frames_seen h) refl

  seen_write : (d : ℕ) (c : Cell) (x : Option Cell) → sees s.held.pc_tag ≡ true → shown sees c ≡ x
      → view sees false (holding (advance s.held.pc_tag (write_register d c s.held)) s) ≡ move_to (at_pc (s.held.pc + 1) s.held.pc_tag frames_seen) (with_register d x (view sees false s))
  seen_write d c x h e =
      equal_views (map-set (shown sees) s.held.registers d c ∙ ap (set registers_seen d) e) refl refl (seen_place sees (s.held.pc + 1) s.held.pc_tag frames_seen h) refl

  seen_return : (fs : List Frame) (i : Instruction) → fault Ret i (holding (with_frames fs s.held) s) ≡ None
      → view sees false (holding (return_by fs (latest_tag fs) (with_frames fs s.held)) s) ≡ move_to (resumption (seen_frames sees fs)) (view sees false (holding (with_frames fs s.held) s))
  seen_return [] i e = cc
  seen_return (f ∷ fs) i e = equal_views refl refl refl (return_place sees f fs) refl

module _ (m : Meaning) (laws : Laws m) (sees : Tag → Bool) (down : Downward m sees) (s : MachineState) (i : Instruction) (t : Tag) where
  abbrev SeenEffect : Class → Type 0
  SeenEffect c =
      let q = query_by_class c i t s in
      let r = rule (class_number c) in
      fault c i s ≡ None → sees s.held.pc_tag ≡ true → Used m.label r.mask q → holds m q r.condition ≡ true
      → view sees (has_halted (Ok (progress c))) (effect_by_rule m c i t s)
      ≡ act m sees c i t s.held.pc s.held.pc_tag (seen_frames sees s.held.frames) (view sees false s)

  pub seen_effect : (c : Class) → SeenEffect c
  seen_effect Nop f h u k = seen_move sees s (s.held.pc + 1) h
  seen_effect Const f h u k = seen_write sees s i.d _ _ h refl
  seen_effect Mov f h u k =
      let q = query_by_class Mov i t s in
      seen_write sees s i.d _ _ h
      (tell_at sees s.held.registers i.a None (λ a. shown sees (cell a.word (m.join a.tag s.held.pc_tag)))
      (λ n. blank sees _ (unseen_join m laws sees down q 44 u (A ∷ P ∷ []) refl (this n))))
  seen_effect Bin f h u k =
      let q = query_by_class Bin i t s in
      let tag = s.held.pc_tag in
      let write = λ (a b : Cell). shown sees (cell (binary i.k a.word b.word) (join3 m a.tag b.tag tag)) in
      let a = register s.held i.a in
      let by_b = tell_at sees s.held.registers i.b None (write a) (λ n. blank sees _ (unseen_join m laws sees down q 46 u (A ∷ B ∷ P ∷ []) refl (later (this n)))) in
      seen_write sees s i.d _ _ h
      (by_b ∙ tell_at sees s.held.registers i.a None (λ c. if_seen (seen_at sees (registers_seen sees s) i.b) None (write c))
      (λ n. sym by_b ∙ blank sees _ (unseen_join m laws sees down q 46 u (A ∷ B ∷ P ∷ []) refl (this n))))
  seen_effect Load f h u k =
      let q = query_by_class Load i t s in
      let tag = s.held.pc_tag in
      let write = λ (a c : Cell). shown sees (cell c.word (join3 m a.tag c.tag tag)) in
      let a = register s.held i.a in
      let by_cell = tell_at sees s.cells (address s.held i) None (write a) (λ n. blank sees _ (unseen_join m laws sees down q 45 u (A ∷ M ∷ P ∷ []) refl (later (this n)))) in
      seen_write sees s i.d _ _ h
      (by_cell ∙ tell_at sees s.held.registers i.a None (λ c. if_seen (seen_at sees (cells_seen sees s) c.word.0) None (write c))
      (λ n. sym by_cell ∙ blank sees _ (unseen_join m laws sees down q 45 u (A ∷ M ∷ P ∷ []) refl (this n))))
  -- under an unseen address the cell that is written was unseen and stays so
  seen_effect Store f h u k =
      let q = query_by_class Store i t s in
      let tag = s.held.pc_tag in
      let write = λ (a b : Cell). shown sees (cell b.word (join3 m a.tag b.tag tag)) in
      let a = register s.held i.a in
      let to = address s.held i in
      let new = cell (register s.held i.b).word (joined m q (A ∷ B ∷ P ∷ [])) in
      let by_b = tell_at sees s.held.registers i.b None (write a) (λ n. blank sees _ (unseen_join m laws sees down q 39 u (A ∷ B ∷ P ∷ []) refl (later (this n)))) in
      let stored = map-set (shown sees) s.cells to new ∙ ap (set (cells_seen sees s) to) by_b in
      equal_views refl
      (stored ∙ tell_at sees s.held.registers i.a (cells_seen sees s) (λ c. set (cells_seen sees s) c.word.0 (if_seen (seen_at sees (registers_seen sees s) i.b) None (write c)))
      (λ n. sym stored ∙ map-set_same (shown sees) s.cells to new zero_cell
      (blank sees new (unseen_join m laws sees down q 39 u (A ∷ B ∷ P ∷ []) refl (this n))
      ∙ sym (blank sees (cell_at s.cells to) (unseen_above m laws sees down _ _ k (unseen_join m laws sees down q 39 u (A ∷ P ∷ []) refl (this n)))))))
      refl (seen_place sees (s.held.pc + 1) tag (frames_seen sees s) h) refl
  seen_effect Jump f h u k =
      let q = query_by_class Jump i t s in
      equal_views refl refl refl
      (tell_at sees s.held.registers i.a (resumption (frames_seen sees s)) (λ c. place_of sees c.word.0 (m.join s.held.pc_tag c.tag) (frames_seen sees s))
      (λ n. unseen_place sees _ _ _ (unseen_join m laws sees down q 36 u (P ∷ A ∷ []) refl (later (this n))))) refl
  seen_effect Bnz f h u k =
      let q = query_by_class Bnz i t s in
      equal_views refl refl refl
      (tell_at sees s.held.registers i.a (resumption (frames_seen sees s)) (λ c. place_of sees (cond (eqb c.word.0 0) (s.held.pc + 1) i.k) (m.join s.held.pc_tag c.tag) (frames_seen sees s))
      (λ n. unseen_place sees _ _ _ (unseen_join m laws sees down q 36 u (P ∷ A ∷ []) refl (later (this n))))) refl
  seen_effect Goto f h u k = seen_move sees s i.k h
  seen_effect Call f h u k = equal_views refl refl refl (rw h) refl
  seen_effect Ret f h u k = seen_return sees s s.held.frames i f
  seen_effect Out f h u k =
      let q = query_by_class Out i t s in
      let before = take s.held.outputs s.output_places in
      let new = cell (register s.held i.a).word (joined m q (A ∷ P ∷ [])) in
      equal_views refl refl
      (ap (seen_cells sees) (one_more_output s new i f) ∙ filter-append (sees_cell sees) before (new ∷ [])
      ∙ ap (λ (more : List Cell). seen_cells sees before ++ more)
      (tell_at sees s.held.registers i.a [] (λ c. seen_cells sees (cell c.word (m.join c.tag s.held.pc_tag) ∷ []))
      (λ n. ap (λ (b : Bool). cond b (new ∷ []) []) (unseen_join m laws sees down q 36 u (A ∷ P ∷ []) refl (this n)))))
      (seen_place sees (s.held.pc + 1) s.held.pc_tag (frames_seen sees s) h) refl
  seen_effect Raise f h u k =
      let q = query_by_class Raise i t s in
      seen_write sees s i.d _ _ h
      (tell_at sees s.held.registers i.d None (λ d. shown sees (cell d.word (join3 m d.tag t s.held.pc_tag)))
      (λ n. blank sees _ (unseen_join m laws sees down q 56 u (D ∷ I ∷ P ∷ []) refl (this n))))
  seen_effect Halt f h u k = equal_views refl refl refl (seen_place sees s.held.pc s.held.pc_tag (frames_seen sees s) h) h
