-- Where a step ends, the run ends with it.
use Rattle.std.proofs.Common.{rules}
use Rattle.std.proofs.lemmas.Result.{err_from_is_err_and}
use Rattle.execution.proofs.RunLoop.{rest_ends}
use Rattle.execution.proofs.run.take_steps.Goals as goal

pub returns-in_err-progress-clause-ends : goal.returns-in_err-progress-clause-ends
returns-in_err-progress-clause-ends g c =
    let p = err_from_is_err_and c.from_residual.result c.from_residual.ensures.1 in
    rw (p.1, p.2) (search (rules, rest_ends))
