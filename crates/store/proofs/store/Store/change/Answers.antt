use Rattle.std.proofs.Common.{◌≡◌, set, ℤ, Ok, sym, subst, w64, to_z, of_z, arith, rules}
use Rattle.calls.specs.declared.calls.Action.TheVariants.{Change}
use Rattle.calls.specs.declared.calls.Call.TheVariants.{Act}
use Rattle.calls.specs.declared.calls.Reply.TheVariants.{Changed}
use Rattle.store.specs.Attempt.{Attempted}
use Rattle.store.specs.Held.{Memory}
use Rattle.store.specs.Ledgers.{book}
use Rattle.store.specs.Views.{memory}
use Rattle.store.proofs.Stores.{defined, still_held, still_valued, change_refused, changing_below, changing_possible, change_unkind, change_made}
use Rattle.store.proofs.Writes.{change_room}
use Rattle.store.proofs.store.Store.change.Goals as goal

pub returns-in_err-head : goal.returns-in_err-head
returns-in_err-head g c =
    let t = change_refused c.args.self.now c.args.branch c.args.change c.in_err-head.field-0.0 c.from_residual.result c.from_residual.ensures.1 c.in_err-head.ensures in
    record { attempted = t; defined = defined c.args.self.now t }

pub value-requires : goal.value-requires
value-requires g c =
    changing_below c.args.self.now c.args.branch c.args.change c.in_ok-head.head c.in_ok-head.ensures

pub returns-in_err-reply : goal.returns-in_err-reply
returns-in_err-reply g c =
    let t =
    change_unkind c.args.self.now c.args.branch c.args.change c.in_ok-head.head c.in_ok-head.ensures
    c.value.result.now c.change.new.self c.value.ensures c.stamp-stamp.result c.stamp-stamp.ensures
    c.in_err-reply.field-0.0 c.from_residual-in_err-reply.result c.from_residual-in_err-reply.ensures.1 c.in_err-reply.ensures in
    record { attempted = t; defined = defined c.args.self.now t }

pub bounds-self-self : goal.bounds-self-self
bounds-self-self g c =
    let s = c.args.self.now in
    omega (arith, s.valued, change_room s.ledger c.args.branch c.args.change (changing_possible s c.args.branch c.args.change c.in_ok-head.head c.in_ok-head.ensures))

pub add_change-version-requires : goal.add_change-version-requires
add_change-version-requires g c =
    changing_possible c.args.self.now c.args.branch c.args.change c.in_ok-head.head c.in_ok-head.ensures

pub invariant_of-self : goal.invariant_of-self
invariant_of-self g c =
    let s = c.args.self.now in
    let b' = book c.add_change-version.new.self in
    record {
      valued = still_valued s (Change c.args.branch c.args.change) c.args.branch c.change.new.self b' c.add_change-version.ensures.written;
      held = still_held s (change_made s c.args.branch c.args.change c.in_ok-head.head c.in_ok-head.ensures
          c.value.result.now c.change.new.self c.value.ensures c.stamp-stamp.result c.stamp-stamp.ensures
          c.add_change-version.result c.in_ok-reply.reply b' c.add_change-version.ensures.number c.in_ok-reply.ensures c.add_change-version.ensures.written);
    }

pub returns : goal.returns
returns g c =
    let s = c.args.self.now in
    let k = g.K.Kind in
    let n = c.add_change-version.result in
    let b' = book c.add_change-version.new.self in
    let k' : Memory _ = record { book = b'; values = set s.values.now s.ledger.made c.change.new.self } in
    let back : to_z w64 (of_z w64 c.in_ok-reply.reply) ≡ c.in_ok-reply.reply = search rules in
    let t : Attempted k.meaning k.represents (memory s) (Act (Change c.args.branch c.args.change)) (Ok (Changed n (to_z w64 (of_z w64 c.in_ok-reply.reply)))) k' =
    subst (λ (z : ℤ). Attempted k.meaning k.represents (memory s) (Act (Change c.args.branch c.args.change)) (Ok (Changed n z)) k') (sym back)
    (change_made s c.args.branch c.args.change c.in_ok-head.head c.in_ok-head.ensures
    c.value.result.now c.change.new.self c.value.ensures c.stamp-stamp.result c.stamp-stamp.ensures
    n c.in_ok-reply.reply b' c.add_change-version.ensures.number c.in_ok-reply.ensures c.add_change-version.ensures.written) in
    record { attempted = t; defined = defined s t }
