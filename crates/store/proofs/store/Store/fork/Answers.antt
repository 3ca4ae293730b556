use Rattle.store.specs.Ledgers.{book}
use Rattle.store.proofs.Stores.{defined, still_held, fork_attempted, fork_valued}
use Rattle.store.proofs.store.Store.fork.Goals as goal

pub invariant_of-self : goal.invariant_of-self
invariant_of-self g c =
    let s = c.args.self.now in
    let b' = book c.branch_off.new.self in
    record {
      valued = fork_valued s c.args.version c.branch_off.result b' c.branch_off.ensures.written;
      held = still_held s (fork_attempted s c.args.version c.branch_off.result b' c.branch_off.ensures.result c.branch_off.ensures.written);
    }

pub returns : goal.returns
returns g c =
    let s = c.args.self.now in
    let t = fork_attempted s c.args.version c.branch_off.result (book c.branch_off.new.self) c.branch_off.ensures.result c.branch_off.ensures.written in
    record { attempted = t; defined = defined s t }
