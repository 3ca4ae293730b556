use Rattle.std.proofs.Common.{arith, length-set}
use Rattle.store.specs.Ledgers.{book}
use Rattle.store.proofs.Opens.{root_possible, root_recorded, root_standing, root_numbered, root_book}
use Rattle.store.proofs.ledger.Ledger.reset.Goals as goal

pub invariant_of-self-then-usable-gt0 : goal.invariant_of-self-then-usable-gt0
invariant_of-self-then-usable-gt0 c =
    let s = c.args.self.now in
    let V = c.args.usable in
    let some = c.if-usable-gt0.true in
    record {
      small = c.requires.small;
      sixteen = simp length-set s.sixteen;
      versioned = simp length-set c.requires.versioned;
      stepped = c.requires.stepped;
      within = omega (arith, c.if-usable-gt0.true);
      few = omega arith;
      fewer = omega arith;
      counted = λ u. omega arith;
      possible = root_possible V s.steps.now;
      recorded = root_recorded V s.versions.now s.steps.now some (omega (arith, some, c.requires.versioned));
      standing = root_standing V s.heads s.steps.now some (omega (arith, s.sixteen));
      numbered = root_numbered V s.steps.now some;
    }

pub returns-then-usable-gt0 : goal.returns-then-usable-gt0
returns-then-usable-gt0 c = root_book (book c.args.self.now) c.args.usable c.if-usable-gt0.true
