-- Views that the observer's machine reaches from one view: their outputs agree, and halted ones are equal.
use Rattle.std.proofs.Common.{◌≡◌, ℕ, zero, suc, Bool, true, false, ◌⊎◌, List, [], ◌++◌, Some, None, Option, sym, refl, ap, ◌∙◌, subst, inl, inr, ⊎_elim, append_assoc, append-nil}
use Rattle.labels.specs.Order.{Meaning}
use Rattle.labels.specs.declared.cell.Tag.{Tag}
use Rattle.labels.specs.declared.cell.Cell.{Cell}
use Rattle.image.specs.declared.entry.CodeEntry.{CodeEntry}
use Rattle.instructions.specs.declared.instruction.Instruction.{Instruction}
use Rattle.rules.specs.declared.class.Class.{Class}
use Rattle.rules.specs.declared.class.Class.TheVariants.{Out}
use Rattle.machine.specs.declared.frames.Frame.{Frame}
use Rattle.execution.specs.Step.{entry_at, instruction_of}
use Rattle.observer.specs.View.{View, Place, at_pc, nowhere}
use Rattle.observer.specs.ObserverMachine.{act, act_decoded, act_entry, act_at, act_unless, next_view, view_after, Reaches}
use Rattle.observer.specs.ObserverLaws.{FirstOf, OutputsAgree, HaltedHasAllOutputs, HaltedViewsAreEqual}

all_of : (xs : List Cell) → FirstOf xs xs
all_of xs = ([], append-nil xs)

first_of_first : (xs ys zs : List Cell) → FirstOf xs ys → FirstOf ys zs → FirstOf xs zs
first_of_first xs ys zs (a, p) (b, q) = (a ++ b, sym (append_assoc xs a b) ∙ ap (λ (l : List Cell). l ++ b) p ∙ q)

module _ (m : Meaning) (sees : Tag → Bool) where
  -- outputs are only added, and behind the others
  act_adds : (c : Class) (i : Instruction) (I : Tag) (pc : ℕ) (P : Tag) (fs : List Frame) (v : View) → FirstOf v.outputs (act m sees c i I pc P fs v).outputs
  act_adds Out i I pc P fs v = (_, refl)
  act_adds _ i I pc P fs v = all_of v.outputs

  decoded_adds : (x : Option Instruction) (I : Tag) (pc : ℕ) (P : Tag) (fs : List Frame) (v : View) → FirstOf v.outputs (act_decoded m sees x I pc P fs v).outputs
  decoded_adds None I pc P fs v = all_of v.outputs
  decoded_adds (Some i) I pc P fs v = act_adds i.class i I pc P fs v

  entry_adds : (x : Option CodeEntry) (pc : ℕ) (P : Tag) (fs : List Frame) (v : View) → FirstOf v.outputs (act_entry m sees x pc P fs v).outputs
  entry_adds None pc P fs v = all_of v.outputs
  entry_adds (Some e) pc P fs v = decoded_adds (instruction_of e) e.tag pc P fs v

  module _ (code : List CodeEntry) where
    place_adds : (p : Place) (v : View) → FirstOf v.outputs (act_at m sees code p v).outputs
    place_adds (at_pc pc P fs) v = entry_adds (entry_at code pc) pc P fs v
    place_adds nowhere v = all_of v.outputs

    unless_adds : (halted : Bool) (v : View) → FirstOf v.outputs (act_unless m sees code halted v).outputs
    unless_adds true v = all_of v.outputs
    unless_adds false v = place_adds v.place v

    next_adds : (v : View) → FirstOf v.outputs (next_view m sees code v).outputs
    unfolding next_view
    next_adds v = unless_adds v.halted v

    after_adds : (n : ℕ) (v : View) → FirstOf v.outputs (view_after m sees code n v).outputs
    unfolding view_after
    after_adds zero v = all_of v.outputs
    after_adds (suc n) v = first_of_first _ _ _ (next_adds v) (after_adds n (next_view m sees code v))

    -- the outputs of a view are the first of one that it reaches
    pub reached_outputs : {v w : View} → Reaches m sees code v w → FirstOf v.outputs w.outputs
    reached_outputs {v} r = rw r.reached (after_adds r.steps v)

    halted_stays : (v : View) → v.halted ≡ true → next_view m sees code v ≡ v
    unfolding next_view
    halted_stays v h = ap (λ b. act_unless m sees code b v) h

    halted_stays_after : (n : ℕ) (v : View) → v.halted ≡ true → view_after m sees code n v ≡ v
    unfolding view_after
    halted_stays_after zero v h = refl
    halted_stays_after (suc n) v h = ap (view_after m sees code n) (halted_stays v h) ∙ halted_stays_after n v h

    -- a halted view reaches only itself
    pub halted_is_last : {v w : View} → v.halted ≡ true → Reaches m sees code v w → w ≡ v
    halted_is_last {v} h r = r.reached ∙ halted_stays_after r.steps v h

    in_order : (n k : ℕ) (v : View) → Reaches m sees code (view_after m sees code n v) (view_after m sees code k v) ⊎ Reaches m sees code (view_after m sees code k v) (view_after m sees code n v)
    unfolding view_after
    in_order zero k v = inl (record { steps = k; reached = refl })
    in_order (suc n) zero v = inr (record { steps = suc n; reached = refl })
    in_order (suc n) (suc k) v = in_order n k (next_view m sees code v)

    -- of two views that are reached from one, one reaches the other
    pub one_reaches_other : {v w x : View} → Reaches m sees code v w → Reaches m sees code v x → Reaches m sees code w x ⊎ Reaches m sees code x w
    one_reaches_other {v} a b = rw (a.reached, b.reached) (in_order a.steps b.steps v)

pub outputs_agree : (m : Meaning) → OutputsAgree m
outputs_agree m sees code v w x a b =
    ⊎_elim (λ further. inl (reached_outputs m sees code further)) (λ further. inr (reached_outputs m sees code further)) (one_reaches_other m sees code a b)

pub halted_has_all_outputs : (m : Meaning) → HaltedHasAllOutputs m
halted_has_all_outputs m sees code v w x a b h =
    ⊎_elim
    (λ further. subst (λ (u : View). FirstOf u.outputs w.outputs) (sym (halted_is_last m sees code h further)) (all_of w.outputs))
    (λ further. reached_outputs m sees code further)
    (one_reaches_other m sees code a b)

pub halted_views_are_equal : (m : Meaning) → HaltedViewsAreEqual m
halted_views_are_equal m sees code v w x a b h k =
    ⊎_elim (λ further. sym (halted_is_last m sees code h further)) (λ further. halted_is_last m sees code k further) (one_reaches_other m sees code a b)
