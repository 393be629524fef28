-- The fault of an instruction, put together.
use Rattle.std.proofs.Common.{ap, ◌∙◌}
use Rattle.std.proofs.lemmas.Result.{err_from_is_err_and}
use Rattle.machine.specs.Effect.{state_of}
use Rattle.execution.specs.Step.{entry_at}
use Rattle.execution.proofs.Questions.{question_faulted}
use Rattle.execution.proofs.question.question.Goals as goal

pub returns-in_err-memory-clause-answer : goal.returns-in_err-memory-clause-answer
returns-in_err-memory-clause-answer g c =
    let s = state_of c.args.machine.now c.args.cells.now c.args.outputs.now in
    let code = c.args.code.now in
    let fetched = c.in-Some.ensures.entry ∙ ap (entry_at code) c.pc.ensures in
    let p = err_from_is_err_and c.from_residual.result c.from_residual.ensures.1 in
    rw (p.1, p.2) (question_faulted code s c.in-Some.entry fetched c.in-Some-decode.instruction c.in-Some-decode.ensures.answer _ c.in_err-memory.ensures.answer)
