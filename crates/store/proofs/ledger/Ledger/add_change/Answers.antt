use Rattle.std.proofs.Common.{arith, rules}
use Rattle.store.proofs.Books.{head_below}
use Rattle.store.proofs.Writes.{change_there, change_room, change_small, change_appends}
use Rattle.store.proofs.ledger.Ledger.add_change.Goals as goal

pub bounds-self-self : goal.bounds-self-self
bounds-self-self c =
    let s = c.args.self.now in
    omega (arith, head_below s c.args.branch (change_there s c.args.branch c.args.change c.requires), s.within, s.versioned)

pub overflow_add-version : goal.overflow_add-version
overflow_add-version c = let l = change_small c.args.self.now c.args.branch c.args.change c.requires in search rules

pub append-requires-clause-room : goal.append-requires-clause-room
append-requires-clause-room c = change_room c.args.self.now c.args.branch c.args.change c.requires

pub append-requires-clause-appends : goal.append-requires-clause-appends
append-requires-clause-appends c = change_appends c.args.self.now c.args.branch c.args.change c.requires
