use Rattle.std.proofs.Common.{rules}
use Rattle.std.proofs.lemmas.Result.{MatchResult-weaker}
use Rattle.sets.proofs.Calls as calls
use Rattle.sets.proofs.set_kind.SetFormKind.answer.Goals as goal

pub returns : goal.returns
returns c =
    let known = rw c.in_ok-object.ensures.ok_part at c.asked.ensures in
    calls.answers c.is_ok_and-member.result c.try_from.result known.0 known.1 c.try_from.ensures (MatchResult-weaker c.try_from.result c.is_ok_and-member.ensures (λ x p. search rules) (λ _ p. p)) c.told.ensures
