-- The observer's machine: how a view goes on, as a function of the view and the code alone.
use Rattle.std.specs.Prelude.{◌≡◌, ℕ, zero, suc, ◌+◌, Bool, true, false, cond, List, [], ◌∷◌, ◌++◌, set, Some, None, Option, ◌==◌, slice_index_or, slice_set}
use Rattle.labels.specs.Order.{Meaning}
use Rattle.labels.specs.declared.cell.Tag.{Tag}
use Rattle.labels.specs.declared.cell.Word.{Word}
use Rattle.labels.specs.declared.cell.Cell.{Cell}
use Rattle.image.specs.declared.entry.CodeEntry.{CodeEntry}
use Rattle.instructions.specs.Functions.{binary}
use Rattle.instructions.specs.declared.instruction.Instruction.{Instruction}
use Rattle.rules.specs.declared.class.Class.{Class}
use Rattle.rules.specs.declared.class.Class.TheVariants.{Nop, Const, Mov, Bin, Load, Store, Jump, Bnz, Goto, Call, Ret, Out, Raise, Halt}
use Rattle.machine.specs.declared.frames.Frame.{Frame}
use Rattle.machine.specs.Machine.{word, cell, zero_cell}
use Rattle.machine.specs.Effect.{frame}
use Rattle.execution.specs.Step.{entry_at, instruction_of}
use Rattle.observer.specs.Observer.{shown, seen_cells}
use Rattle.observer.specs.View.{View, Place, at_pc, nowhere, resumption, place_of}

-- what is told from a cell where it is seen, and what else where it is blank
abbrev pub if_seen : {A : Type 0} → Option Cell → A → (Cell → A) → A
if_seen None otherwise f = otherwise
if_seen (Some c) otherwise f = f c

-- What is computed from a blank cell is blank.
abbrev pub computed_from : Option Cell → (Cell → Option Cell) → Option Cell
computed_from c f = if_seen c None f

-- ── what changes in a view ──

abbrev pub move_to : Place → View → View
move_to p v = record { registers = v.registers; cells = v.cells; outputs = v.outputs; place = p; halted = v.halted }

-- on to the next instruction, from a pc under the tag P above the seen frames fs
abbrev pub advance_view : ℕ → Tag → List Frame → View → View
advance_view pc P fs v = move_to (at_pc (pc + 1) P fs) v

abbrev pub with_register : ℕ → Option Cell → View → View
with_register d c v = record { registers = slice_set v.registers d c; cells = v.cells; outputs = v.outputs; place = v.place; halted = v.halted }

abbrev pub with_cells : List (Option Cell) → View → View
with_cells cs v = record { registers = v.registers; cells = cs; outputs = v.outputs; place = v.place; halted = v.halted }

abbrev pub with_outputs : List Cell → View → View
with_outputs more v = record { registers = v.registers; cells = v.cells; outputs = v.outputs ++ more; place = v.place; halted = v.halted }

abbrev pub with_halt : View → View
with_halt v = record { registers = v.registers; cells = v.cells; outputs = v.outputs; place = v.place; halted = true }

-- what is seen at a place of the registers or cells
abbrev pub seen_at : (Tag → Bool) → List (Option Cell) → ℕ → Option Cell
seen_at sees cs n = slice_index_or cs n (shown sees zero_cell)

abbrev pub join3 : Meaning → Tag → Tag → Tag → Tag
join3 m a b c = m.join (m.join a b) c

module _ (m : Meaning) (sees : Tag → Bool) where
  abbrev pub register_seen : View → ℕ → Option Cell
  register_seen v n = seen_at sees v.registers n

  abbrev pub cell_seen : View → ℕ → Option Cell
  cell_seen v n = seen_at sees v.cells n

  -- what is seen of a word that is written with a tag
  abbrev pub shown_tagged : Word → Tag → Option Cell
  shown_tagged w t = shown sees (cell w t)

  -- What each instruction does to the view, where it stands at pc under the tag P above the seen frames fs; I is its own tag.
  -- The tags that it writes and goes on with are those that the flow rules grant.
  -- A granted STORE to an unseen address changes no seen cell; a jump by an unseen register goes on where the machine will resume.
  abbrev pub act : Class → Instruction → Tag → ℕ → Tag → List Frame → View → View
  act Nop i I pc P fs v = advance_view pc P fs v
  act Const i I pc P fs v = advance_view pc P fs (with_register i.d (shown_tagged (word i.k) (m.join I P)) v)
  act Mov i I pc P fs v =
      let written = computed_from (register_seen v i.a) (λ a. shown_tagged a.word (m.join a.tag P)) in
      advance_view pc P fs (with_register i.d written v)
  act Bin i I pc P fs v =
      let written = computed_from (register_seen v i.a) (λ a. computed_from (register_seen v i.b) (λ b. shown_tagged (binary i.k a.word b.word) (join3 m a.tag b.tag P))) in
      advance_view pc P fs (with_register i.d written v)
  act Load i I pc P fs v =
      let written = computed_from (register_seen v i.a) (λ a. computed_from (cell_seen v a.word.0) (λ c. shown_tagged c.word (join3 m a.tag c.tag P))) in
      advance_view pc P fs (with_register i.d written v)
  act Store i I pc P fs v =
      let written = λ (a : Cell). computed_from (register_seen v i.b) (λ b. shown_tagged b.word (join3 m a.tag b.tag P)) in
      let cells = if_seen (register_seen v i.a) v.cells (λ a. set v.cells a.word.0 (written a)) in
      advance_view pc P fs (with_cells cells v)
  act Jump i I pc P fs v = move_to (if_seen (register_seen v i.a) (resumption fs) (λ a. place_of sees a.word.0 (m.join P a.tag) fs)) v
  act Bnz i I pc P fs v = move_to (if_seen (register_seen v i.a) (resumption fs) (λ a. place_of sees (cond (a.word.0 == 0) (pc + 1) i.k) (m.join P a.tag) fs)) v
  act Goto i I pc P fs v = move_to (at_pc i.k P fs) v
  act Call i I pc P fs v = move_to (at_pc i.k P (frame (pc + 1) P ∷ fs)) v
  act Ret i I pc P fs v = move_to (resumption fs) v
  act Out i I pc P fs v =
      let added = if_seen (register_seen v i.a) [] (λ a. seen_cells sees (cell a.word (m.join a.tag P) ∷ [])) in
      advance_view pc P fs (with_outputs added v)
  act Raise i I pc P fs v =
      let written = computed_from (register_seen v i.d) (λ d. shown_tagged d.word (join3 m d.tag I P)) in
      advance_view pc P fs (with_register i.d written v)
  act Halt i I pc P fs v = with_halt (move_to (at_pc pc P fs) v)

  -- an illegal instruction leaves the view
  abbrev pub act_decoded : Option Instruction → Tag → ℕ → Tag → List Frame → View → View
  act_decoded None I pc P fs v = v
  act_decoded (Some i) I pc P fs v = act i.class i I pc P fs v

  -- and so does a pc outside the code
  abbrev pub act_entry : Option CodeEntry → ℕ → Tag → List Frame → View → View
  act_entry None pc P fs v = v
  act_entry (Some e) pc P fs v = act_decoded (instruction_of e) e.tag pc P fs v

  module _ (code : List CodeEntry) where
    -- a machine that is nowhere shows nothing new
    abbrev pub act_at : Place → View → View
    act_at (at_pc pc P fs) v = act_entry (entry_at code pc) pc P fs v
    act_at nowhere v = v

    abbrev pub act_unless : Bool → View → View
    act_unless true v = v
    act_unless false v = act_at v.place v

    -- One step of the observer's machine. A halted view stays as it is.
    unfoldable pub next_view : View → View
    next_view v = act_unless v.halted v

    -- the view after a number of its steps
    unfoldable pub view_after : ℕ → View → View
    view_after zero v = v
    view_after (suc n) v = view_after n (next_view v)

    -- The observer's machine comes from one view to another by itself, in some number of steps.
    pub record Reaches (v w : View) : Type 0 where
      pub steps : ℕ
      pub reached : w ≡ view_after steps v
