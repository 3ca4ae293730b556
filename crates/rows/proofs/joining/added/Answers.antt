use Rattle.std.proofs.Common.{refl}
use Rattle.rows.specs.Walk.{full, more}
use Rattle.rows.proofs.joining.added.Goals as goal

pub returns-then-count-out : goal.returns-then-count-out
returns-then-count-out g c = full c.in-Some.row c.in-Some.is refl c.if-count-out.true refl

pub returns : goal.returns
returns g c = more c.in-Some.row c.in-Some.is refl c.if-count-out.false refl
