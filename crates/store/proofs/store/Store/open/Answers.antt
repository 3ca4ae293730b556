use Rattle.std.proofs.Common.{ap, arith}
use Rattle.store.specs.Book.{Book}
use Rattle.store.specs.Ledgers.{book}
use Rattle.store.proofs.Opens.{none_held}
use Rattle.store.proofs.store.Store.open.Goals as goal

pub invariant_of-store : goal.invariant_of-store
invariant_of-store g c =
    let none = ap (λ (z : Book). z.usable) c.new-ledger.ensures in
    record {
      valued = omega (arith, none);
      held = ∣ none_held g.K.Kind.meaning g.K.Kind.represents (book c.new-ledger.result) c.args.values.now none (ap (λ (z : Book). z.taken) c.new-ledger.ensures) ∣₁;
    }
