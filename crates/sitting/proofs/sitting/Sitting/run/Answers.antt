-- The run of the machine is the sitting's.
use Rattle.std.proofs.Common.{◌≡◌, Ok, sym, ap, ◌∙◌}
use Rattle.machine.specs.Effect.{state_of}
use Rattle.execution.specs.Run.{Ran, ran}
use Rattle.sitting.specs.Sitting.{standing}
use Rattle.sitting.specs.Run.{run_done, run_made}
use Rattle.sitting.proofs.SittingRuns.{run_is_made}
use Rattle.sitting.proofs.sitting.Sitting.run.Goals as goal

pub returns-clause-runs : goal.returns-clause-runs
returns-clause-runs g c =
    let s = standing c.args.self.now in
    let cells = c.run-outcome.new.cells in
    let outputs = c.run-outcome.new.outputs in
    let granted = c.run-outcome.result.1 in
    let r : Ran = ran c.run-outcome.result.0 granted (state_of c.run-outcome.new.machine cells outputs) in
    let done : run_done (Ok granted) (standing c.come_to.new.self) cells outputs ≡ run_made s r =
    ap (λ x. run_done (Ok granted) x cells outputs) c.come_to.ensures in
    run_is_made s c.args.image.now c.args.cells.now c.args.outputs.now c.in-Running.is (sym c.lengths_fit.ensures ∙ c.if-not-lengths_fit.false) g.E.Engine.answers c.args.budget c.args.engine.now c.run-outcome.new.engine r _ (rw c.new-code.ensures at c.run-outcome.ensures.runs) done
