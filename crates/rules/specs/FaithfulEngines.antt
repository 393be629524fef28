-- Lemmas alone: an engine that judges by a book of its own and stays as it is is faithful.
use Rattle.std.specs.Prelude.{◌≡◌}
use Rattle.std.proofs.Common.{sym, ap, ◌∙◌}
use Rattle.rules.specs.Book.{Verdict, Book}
use Rattle.rules.specs.Engines.{AnswersBy, MeansBy}
use Rattle.rules.specs.declared.query.Query.{Query}

pub faithful_by : {E : Type 0} (book : E → Book) (before : E) (q : Query) (v : Verdict) (after : E) (b : Book) → AnswersBy book before q v after → MeansBy book before b → (v ≡ b q) × MeansBy book after b
faithful_by book before q v after b a m = (a.0 ∙ sym (m q), λ p. m p ∙ ap (λ e. book e p) (sym a.1))
