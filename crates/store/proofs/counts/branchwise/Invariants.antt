use Rattle.std.proofs.Common.{◌≡◌, ℕ, ◌<◌, ◌≤◌, length, get_or}
use Rattle.store.proofs.counts.branchwise.Given as goal

abbrev pub invariant-loop-i : goal.invariant-loop-i
invariant-loop-i g l = (length l.count-items ≡ 16)
    × (((k : ℕ) → k < l.i → goal.F-post g l.f (get_or l.a.counts k 0) (get_or l.b.counts k 0) (get_or l.count-items k 0))
    × ((k : ℕ) → l.i ≤ k → get_or l.count-items k 0 ≡ get_or l.a.counts k 0))
