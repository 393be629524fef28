-- A fault on the way to a question.
use Rattle.std.proofs.Common.{◌≡◌, ℕ, List, Some, None, Ok, Err, Option, sym, ap, ◌∙◌, arith}
use Rattle.labels.specs.declared.cell.Tag.{Tag}
use Rattle.image.specs.declared.entry.CodeEntry.{CodeEntry}
use Rattle.instructions.specs.Instruction.{decode}
use Rattle.instructions.specs.declared.instruction.Instruction.{Instruction}
use Rattle.machine.specs.declared.fault.Fault.{Fault}
use Rattle.machine.specs.Effect.{MachineState, fault, memory_tag, tag_unless}
use Rattle.execution.specs.Step.{entry_at, instruction_of, ask_unless, ask_decoded, ask_entry, question}

ask_faulted : (x : Option Fault) (i : Instruction) (code t : Tag) (f : Fault) (s : MachineState) → Err f ≡ tag_unless x t → Err f ≡ ask_unless x i code s
ask_faulted None i code t f s p = cc
ask_faulted (Some g) i code t f s p = let e : f ≡ g = cc in ap (λ (y : Fault). Err y) e

module _ (code : List CodeEntry) (s : MachineState) (e : CodeEntry) (fetched : Some e ≡ entry_at code s.held.pc) (i : Instruction) (decoded : Some i ≡ decode e.bits) where
  asked : ask_unless (fault i.class i s) i e.tag s ≡ question code s
  unfolding question instruction_of
  asked = ap (λ x. ask_decoded x e.tag s) decoded ∙ ap (λ x. ask_entry x s) fetched

  pub question_faulted : (f : Fault) → Err f ≡ tag_unless (fault i.class i s) (memory_tag i.class i s) → Err f ≡ question code s
  question_faulted f p = ask_faulted (fault i.class i s) i e.tag _ f s p ∙ asked
