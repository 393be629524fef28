-- The cleared query is judged alike, by the lemma on its definition.
use Rattle.std.proofs.Common.{◌≡◌, ap, ◌∙◌, rules}
use Rattle.rules.specs.Flow.{flow}
use Rattle.rules.specs.Cleared.{cleared}
use Rattle.rules.proofs.Cleared.{judged_alike}
use Rattle.rules.proofs.mask.cleared.Goals as goal

pub returns-in-Ok-clause-judged_alike : goal.returns-in-Ok-clause-judged_alike
returns-in-Ok-clause-judged_alike c =
    let same : c.cleared.result ≡ cleared c.args.query = search rules in
    λ m. ap (flow m) same ∙ judged_alike m c.args.query
