-- An instruction by its class: the query about it, and what it does when it is granted by its rule.
use Rattle.labels.specs.Order.{Meaning}
use Rattle.labels.specs.declared.cell.Tag.{Tag}
use Rattle.instructions.specs.declared.instruction.Instruction.{Instruction}
use Rattle.rules.specs.Class.{class_number}
use Rattle.rules.specs.declared.class.Class.{Class}
use Rattle.rules.specs.Rules.{rule}
use Rattle.rules.specs.Flow.{joined}
use Rattle.rules.specs.declared.query.Query.{Query}
use Rattle.machine.specs.Machine.{register}
use Rattle.machine.specs.Effect.{MachineState, memory_tag, effect}

-- the query about an instruction of a class, with the instruction's tag
abbrev pub query_by_class : Class → Instruction → Tag → MachineState → Query
query_by_class c i I s = record {
  class = class_number c;
  pc = s.held.pc_tag;
  instruction = I;
  d = (register s.held i.d).tag;
  a = (register s.held i.a).tag;
  b = (register s.held i.b).tag;
  memory = memory_tag c i s;
}

-- what the instruction does when it is granted with the tags of its rule
abbrev pub effect_by_rule : Meaning → Class → Instruction → Tag → MachineState → MachineState
effect_by_rule m c i I s =
    let q = query_by_class c i I s in
    let r = rule (class_number c) in
    effect c i (joined m q r.next) (joined m q r.result) s
