use Rattle.sets.proofs.Loops.{Copied}
use Rattle.sets.proofs.set.SetValue.cleared.Given as goal

abbrev pub invariant-loop-row : goal.invariant-loop-row
invariant-loop-row l = Copied 96 l.rows l.count l.yielded
