use Rattle.std.proofs.Common.{arith, length-set}
use Rattle.store.proofs.Writes.{fork_possible, fork_recorded, fork_standing, fork_numbered, fork_counted}
use Rattle.store.proofs.ledger.Ledger.branch_off.Goals as goal

pub invariant_of-self : goal.invariant_of-self
invariant_of-self c =
    let s = c.args.self.now in
    let v = c.args.version in
    let vl = c.if-version-self.false in
    let bl = c.if-self-ge16.false in
    record {
      small = s.small;
      sixteen = simp length-set s.sixteen;
      versioned = s.versioned;
      stepped = λ u. simp length-set (s.stepped u);
      within = s.within;
      few = omega (arith, c.if-self-ge16.false);
      fewer = s.fewer;
      counted = λ u. fork_counted s v vl bl;
      possible = fork_possible s v vl bl;
      recorded = fork_recorded s v vl bl;
      standing = fork_standing s v vl bl;
      numbered = fork_numbered s v vl bl;
    }
