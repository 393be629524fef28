-- The loop of a run: what the rest of the budget comes to, the run comes to.
use Rattle.machine.specs.Effect.{state_of}
use Rattle.execution.proofs.RunLoop.{RestOfRun}
use Rattle.execution.proofs.run.take_steps.Given as goal

abbrev pub invariant-loop-granted : goal.invariant-loop-granted
invariant-loop-granted g l =
    RestOfRun g.E.Engine.answers l.code l.budget l.granted-counter (state_of l.initial.machine l.initial.cells l.initial.outputs) l.initial.engine (state_of l.machine l.cells l.outputs) l.engine
