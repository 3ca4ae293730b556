use Rattle.std.proofs.Common.{refl}
use Rattle.kinds.specs.Duties.{Merged}
use Rattle.kinds.proofs.Sums.{merged_total}
use Rattle.kinds.proofs.counter.CounterKind.merge.Goals as goal

pub returns : goal.returns
returns c w a b H K ca cb r0 r1 r2 = Merged.done _ refl refl (merged_total w a b _ _ _ H K r0 r1 r2)
