use Rattle.std.proofs.Common.{refl}
use Rattle.sets.proofs.Calls.{made}
use Rattle.sets.proofs.set.SetValue.over.Goals as goal

pub invariant_of-result : goal.invariant_of-result
invariant_of-result c =
    let m = made refl c.requires.base c.requires.first c.requires.second (rw c.in_ok-count.ensures.ok_part at c.join.ensures) in (m.0, m.1)

pub returns : goal.returns
returns c = (made refl c.requires.base c.requires.first c.requires.second (rw c.in_ok-count.ensures.ok_part at c.join.ensures)).2
