-- Engines that judge by a book of their own and stay as they are; the book of a flow engine.
use Rattle.std.specs.Prelude.{◌≡◌}
use Rattle.labels.specs.Order.{Meaning}
use Rattle.rules.specs.Book.{Verdict, Book}
use Rattle.rules.specs.Flow.{flow}
use Rattle.rules.specs.declared.flow_engine.FlowEngine.{FlowEngine}
use Rattle.rules.specs.declared.query.Query.{Query}

-- one call answers by the engine's book and leaves the engine as it was
abbrev pub AnswersBy : {E : Type 0} → (E → Book) → E → Query → Verdict → E → Type 0
AnswersBy book before q v after = (v ≡ book before q) × (after ≡ before)

-- it means each book that agrees with its own on every query
abbrev pub MeansBy : {E : Type 0} → (E → Book) → E → Book → Type 0
MeansBy book e b = (q : Query) → b q ≡ book e q

-- a flow engine judges by the flow rules of its order
abbrev pub flow_book : {O : Type 0} → (O → Meaning) → FlowEngine O → Book
flow_book meaning e = flow (meaning e.order)
