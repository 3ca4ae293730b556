use Rattle.std.proofs.Common.{rules}
use Rattle.std.proofs.lemmas.Result.{MatchResult-weaker}
use Rattle.sets.proofs.Calls as calls
use Rattle.sets.proofs.set_kind.SetFormKind.merge.Goals as goal

pub returns : goal.returns
returns c =
    calls.merges c.in_ok-old.ensures c.in_ok-ours.ensures c.in_ok-theirs.ensures c.joined.result c.joined.ensures c.map.result
    (MatchResult-weaker c.joined.result c.map.ensures.cases (λ x p. search rules) (λ _ p. p))
