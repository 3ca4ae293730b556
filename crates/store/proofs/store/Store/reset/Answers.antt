use Rattle.std.proofs.Common.{◌<◌, ap, arith, length-set}
use Rattle.store.specs.Book.{Book}
use Rattle.store.specs.Ledgers.{book}
use Rattle.store.proofs.Opens.{none_held, root_held}
use Rattle.store.proofs.store.Store.reset.Goals as goal

pub invariant_of-self : goal.invariant_of-self
invariant_of-self g c =
    let s = c.args.self.now in
    let none = ap (λ (z : Book). z.usable) c.reset.ensures in
    record {
      valued = omega (arith, none);
      held = ∣ none_held g.K.Kind.meaning g.K.Kind.represents (book c.reset.new.self) s.values.now none (ap (λ (z : Book). z.taken) c.reset.ensures) ∣₁;
    }

pub invariant_of-self-2 : goal.invariant_of-self-2
invariant_of-self-2 g c =
    let s = c.args.self.now in
    let some : 0 < c.args.usable = omega (arith, c.if-usable-eq0.false) in
    let room = c.requires some in
    record {
      valued = omega (arith, room.each, ap (λ (z : Book). z.usable) c.reset-2.ensures, length-set s.values.now 0 c.empty.result);
      held = ∣ root_held g.K.Kind.meaning g.K.Kind.represents (book s.ledger) (book c.reset-2.new.self) c.args.usable s.values.now c.empty.result
          c.reset-2.ensures some (omega (arith, some, room.each)) c.empty.ensures ∣₁;
    }

pub returns-clause-held : goal.returns-clause-held
returns-clause-held g c =
    let s = c.args.self.now in
    let some : 0 < c.args.usable = omega (arith, c.if-usable-eq0.false) in
    root_held g.K.Kind.meaning g.K.Kind.represents (book s.ledger) (book c.reset-2.new.self) c.args.usable s.values.now c.empty.result
    c.reset-2.ensures some (omega (arith, some, (c.requires some).each)) c.empty.ensures
