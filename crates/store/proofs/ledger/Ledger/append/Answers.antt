use Rattle.std.proofs.Common.{◌<◌, arith, length-set, rules}
use Rattle.store.proofs.Writes.{step_space, few_steps, append_possible, append_recorded, append_standing, append_numbered, append_fewer, append_counted, append_book}
use Rattle.store.proofs.ledger.Ledger.append.Goals as goal

pub bounds-self-self : goal.bounds-self-self
bounds-self-self c = step_space c.args.self.now c.args.branch c.requires.there c.requires.room

pub offset_bounds-self-self : goal.offset_bounds-self-self
offset_bounds-self-self c = let few : c.args.self.now.taken < 4111 = few_steps c.args.self.now c.args.branch c.requires.there c.requires.room in search rules

pub overflow_add-self : goal.overflow_add-self
overflow_add-self c = let few : c.args.self.now.taken < 4111 = few_steps c.args.self.now c.args.branch c.requires.there c.requires.room in search rules

pub invariant_of-self-2 : goal.invariant_of-self-2
invariant_of-self-2 c =
    let s = c.args.self.now in
    let a = c.args.action in
    let b = c.args.branch in
    let r = c.args.version in
    let n = c.args.events in
    let bl = c.requires.there in
    let room = c.requires.room in
    let h = c.requires.appends in
    record {
      small = s.small;
      sixteen = simp length-set s.sixteen;
      versioned = simp length-set s.versioned;
      stepped = λ u. simp length-set (s.stepped u);
      within = omega (arith, c.requires.room);
      few = s.few;
      fewer = append_fewer s a b r n bl room h;
      counted = λ u. append_counted s a b r n bl room h;
      possible = append_possible s a b r n bl room h;
      recorded = append_recorded s a b r n bl room h;
      standing = append_standing s a b r n bl room h;
      numbered = append_numbered s a b r n bl room h;
    }

pub returns-clause-written : goal.returns-clause-written
returns-clause-written c = append_book c.args.self.now c.args.action c.args.branch c.args.version c.args.events c.requires.appends
