-- The instruction that a step asks about: where it stands, and what is known of it.
use Rattle.std.proofs.Common.{◌≡◌, List, Some, None, Ok, Option, refl, subst, arith}
use Rattle.image.specs.declared.entry.CodeEntry.{CodeEntry}
use Rattle.instructions.specs.declared.instruction.Instruction.{Instruction}
use Rattle.rules.specs.declared.query.Query.{Query}
use Rattle.machine.specs.declared.fault.Fault.{Fault}
use Rattle.machine.specs.Effect.{MachineState, fault, memory_tag, query}
use Rattle.execution.specs.Step.{entry_at, instruction_of, ask_unless, ask_decoded, ask_entry, question}

-- the code entry that was asked about: it stands at the pc, is decoded without a fault, and the query is about it
pub record Asked (code : List CodeEntry) (s : MachineState) (i : Instruction) (q : Query) : Type 0 where
  pub entry : CodeEntry
  pub stands : entry_at code s.held.pc ≡ Some entry
  pub decodes : instruction_of entry ≡ Some i
  pub no_fault : fault i.class i s ≡ None
  pub about : q ≡ query i entry.tag (memory_tag i.class i s) s.held

module _ (code : List CodeEntry) (s : MachineState) (i : Instruction) (q : Query) where
  by_fault : (e : CodeEntry) (j : Instruction) (x : Option Fault) → entry_at code s.held.pc ≡ Some e → instruction_of e ≡ Some j → fault j.class j s ≡ x → ask_unless x j e.tag s ≡ Ok (i, q) → Asked code s i q
  by_fault e j None stands decodes f h =
      let same : ◌≡◌ {A = Instruction × Query} (j, query j e.tag (memory_tag j.class j s) s.held) (i, q) = cc in
      subst (λ (k : Instruction × Query). Asked code s k.0 k.1) same (record { entry = e; stands = stands; decodes = decodes; no_fault = f; about = refl })
  by_fault e j (Some g) stands decodes f h = grind arith

  by_decoding : (e : CodeEntry) (x : Option Instruction) → entry_at code s.held.pc ≡ Some e → instruction_of e ≡ x → ask_decoded x e.tag s ≡ Ok (i, q) → Asked code s i q
  by_decoding e None stands decodes h = grind arith
  by_decoding e (Some j) stands decodes h = by_fault e j (fault j.class j s) stands decodes refl h

  by_entry : (x : Option CodeEntry) → entry_at code s.held.pc ≡ x → ask_entry x s ≡ Ok (i, q) → Asked code s i q
  by_entry None stands h = grind arith
  by_entry (Some e) stands h = by_decoding e (instruction_of e) stands refl h

  pub asked : question code s ≡ Ok (i, q) → Asked code s i q
  unfolding question
  asked h = by_entry (entry_at code s.held.pc) refl h
