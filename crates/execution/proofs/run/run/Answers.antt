-- Over an engine that means a book the run is the one by that book.
use Rattle.execution.proofs.RunsByBook.{runs_by_book}
use Rattle.execution.proofs.RunLaws.{run_laws}
use Rattle.execution.proofs.run.run.Goals as goal

pub returns-in-Ok-clause-by_book : goal.returns-in-Ok-clause-by_book
returns-in-Ok-clause-by_book g c = λ book m. runs_by_book _ g.E.Engine.means g.E.Engine.faithful _ book c.in-Ok.ensures.stops m

pub returns-in-Ok-clause-laws : goal.returns-in-Ok-clause-laws
returns-in-Ok-clause-laws g c = run_laws _

pub returns-in-Err-clause-by_book : goal.returns-in-Err-clause-by_book
returns-in-Err-clause-by_book g c = λ book m. runs_by_book _ g.E.Engine.means g.E.Engine.faithful _ book c.in-Err.ensures.ends m

pub returns-in-Err-clause-laws : goal.returns-in-Err-clause-laws
returns-in-Err-clause-laws g c = run_laws _
