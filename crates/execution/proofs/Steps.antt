-- What is known of a step by its outcome: a grant was asked for and is an effect, and an end changes nothing.
use Rattle.std.proofs.Common.{◌≡◌, List, Ok, Err, refl, arith}
use Rattle.labels.specs.declared.cell.Tag.{Tag}
use Rattle.image.specs.declared.entry.CodeEntry.{CodeEntry}
use Rattle.instructions.specs.declared.instruction.Instruction.{Instruction}
use Rattle.rules.specs.Book.{Verdict}
use Rattle.rules.specs.declared.query.Query.{Query}
use Rattle.machine.specs.declared.progress.Progress.{Progress}
use Rattle.execution.specs.declared.outcome.End.{End}
use Rattle.machine.specs.Effect.{MachineState, effect}
use Rattle.execution.specs.Step.{Question, Answers, Settles, StepsTo, question, outcome, after}

-- a granted step: an instruction was asked about, granted with two tags, and carried out
pub record Granted {E : Type 0} (answers : Answers E) (code : List CodeEntry) (s : MachineState) (e : E) (s' : MachineState) (e' : E) : Type 0 where
  pub instruction : Instruction
  pub query : Query
  pub tags : Tag × Tag
  pub asked : question code s ≡ Ok (instruction, query)
  pub answered : answers e query (Ok tags) e'
  pub changed : s' ≡ effect instruction.class instruction tags.0 tags.1 s

module _ {E : Type 0} (answers : Answers E) (code : List CodeEntry) where
  grant : (i : Instruction) (q : Query) (v : Verdict) (s s' : MachineState) (e e' : E) (p : Progress)
      → question code s ≡ Ok (i, q) → answers e q v e' → Ok p ≡ outcome i v → s' ≡ after i v s → Granted answers code s e s' e'
  grant i q (Ok tags) s s' e e' p asked a r c = record { instruction = i; query = q; tags = tags; asked = asked; answered = a; changed = c }
  grant i q (Err v) s s' e e' p asked a r c = grind arith

  settled_grant : (x : Question) (s s' : MachineState) (e e' : E) (p : Progress) → question code s ≡ x → Settles answers x s e (Ok p) s' e' → Granted answers code s e s' e'
  settled_grant (Ok (i, q)) s s' e e' p asked (v, a, r, c) = grant i q v s s' e e' p asked a r c
  settled_grant (Err f) s s' e e' p asked (r, c, d) = grind arith

  pub granted : (s s' : MachineState) (e e' : E) (p : Progress) → StepsTo answers code s e (Ok p) s' e' → Granted answers code s e s' e'
  granted s s' e e' p h = settled_grant (question code s) s s' e e' p refl h

  refused : (i : Instruction) (v : Verdict) (s s' : MachineState) (x : End) → Err x ≡ outcome i v → s' ≡ after i v s → s' ≡ s
  refused i (Ok tags) s s' x r c = grind arith
  refused i (Err v) s s' x r c = c

  settled_end : (q : Question) (s s' : MachineState) (e e' : E) (x : End) → Settles answers q s e (Err x) s' e' → s' ≡ s
  settled_end (Ok (i, q)) s s' e e' x (v, a, r, c) = refused i v s s' x r c
  settled_end (Err f) s s' e e' x (r, c, d) = c

  pub ended_unchanged : (s s' : MachineState) (e e' : E) (x : End) → StepsTo answers code s e (Err x) s' e' → s' ≡ s
  ended_unchanged s s' e e' x h = settled_end (question code s) s s' e e' x h
