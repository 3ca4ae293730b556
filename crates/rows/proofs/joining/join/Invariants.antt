use Rattle.std.proofs.Common.{◌+◌, length}
use Rattle.rows.proofs.Turns.{Going}
use Rattle.rows.proofs.joining.join.Given as goal

abbrev pub invariant-loop-low : goal.invariant-loop-low
invariant-loop-low g l = Going g.R.Key.Ord.cmp g.R.Row.key g.R.PartialEq.eq l.fn.base l.fn.first l.fn.second l.fn.out l.base l.first l.second l.out l.count

abbrev pub decreases-loop-low : goal.decreases-loop-low
decreases-loop-low g l = length l.base + (length l.first + length l.second)
