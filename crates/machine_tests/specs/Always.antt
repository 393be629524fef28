-- A proof alone: the engine that always gives one verdict means the book of that verdict.
use Rattle.std.specs.Prelude.{◌≡◌}
use Rattle.std.proofs.Common.{sym, ap, ◌∙◌}
use Rattle.rules.specs.Book.{Verdict, Book}
use Rattle.rules.specs.declared.query.Query.{Query}
use Rattle.machine_tests.specs.declared.always.Always.{Always}

pub always_faithful : (e : Always) (q : Query) (v : Verdict) (f : Always) (b : Book) → (v ≡ e.verdict) × (f ≡ e) → ((p : Query) → b p ≡ e.verdict) → (v ≡ b q) × ((p : Query) → b p ≡ f.verdict)
always_faithful e q v f b (a, same) m = (a ∙ sym (m q), λ p. m p ∙ ap (λ (x : Always). x.verdict) (sym same))
