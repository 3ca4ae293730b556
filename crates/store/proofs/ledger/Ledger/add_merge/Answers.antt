use Rattle.std.proofs.Common.{arith, rules}
use Rattle.store.proofs.Books.{head_below}
use Rattle.store.proofs.Writes.{merge_into, merge_source, merge_room, merge_appends}
use Rattle.store.proofs.ledger.Ledger.add_merge.Goals as goal

pub bounds-self-self : goal.bounds-self-self
bounds-self-self c =
    let s = c.args.self.now in
    omega (arith, head_below s c.args.into (merge_into s c.args.into c.args.from c.requires), s.within, s.versioned)

pub bounds-self-self-2 : goal.bounds-self-self-2
bounds-self-self-2 c =
    let s = c.args.self.now in
    omega (arith, head_below s c.args.from (merge_source s c.args.into c.args.from c.requires), s.within, s.versioned)

pub append-requires-clause-room : goal.append-requires-clause-room
append-requires-clause-room c = merge_room c.args.self.now c.args.into c.args.from c.requires

pub append-requires-clause-appends : goal.append-requires-clause-appends
append-requires-clause-appends c =
    merge_appends c.args.self.now c.args.into c.args.from c.requires c.branchwise-version.result.counts c.branchwise-version.ensures.size
    (λ x l. search (rules, c.branchwise-version.ensures.counts x l))
