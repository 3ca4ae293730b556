use Rattle.std.proofs.Common.{◌≡◌, ℕ, ◌<◌, length, take, drop, ap, ◌∙◌, subst, arith}
use Rattle.std.proofs.lemmas.List.{get_or-take, get_or_default, length-take-le}
use Rattle.store.specs.Book.{Book}
use Rattle.calls.specs.Run.{Log, log_of}
use Rattle.calls.specs.World.{opened}
use Rattle.store.specs.Views.{memory}
use Rattle.calls.proofs.Laws.{Defined, lawful}
use Rattle.store.proofs.Runs.{Running, running_more, ran, rest_more}
use Rattle.store.proofs.store.Store.run.Goals as goal

pub loop-i-preserved : goal.loop-i-preserved
loop-i-preserved g c =
    let k = g.K.Kind in
    let n = c.min-number.result in
    let calls = c.args.calls.now in
    let within : c.loop-i.i < n = omega (arith, c.loop-i-test.true, c.min-number.ensures, length-take-le n calls) in
    let lc : c.loop-i.i < length calls = omega (arith, c.min-number.ensures) in
    let lo : c.loop-i.i < length c.loop-i.outcomes = omega (arith, c.min-number.ensures, c.loop-i.auto.outcomes) in (
      running_more k.meaning k.represents (memory c.reopen.new.self) (memory c.loop-i.self) (memory c.attempt.new.self) calls c.loop-i.outcomes c.loop-i.i
          _ c.attempt.result lc lo (get_or-take n calls c.loop-i.i _ within ∙ get_or_default calls c.loop-i.i _ _ lc) c.loop-i.invariant.0 c.attempt.ensures.attempted,
      rest_more c.loop-i.i c.loop-i.outcomes c.args.outcomes.now c.attempt.result c.loop-i.invariant.1,
    )

pub returns : goal.returns
returns g c =
    let k = g.K.Kind in
    let s = c.args.self.now in
    let t = c.loop-i.self in
    let n = c.min-number.result in
    let run : Log = log_of (take n c.args.calls.now) (take n c.loop-i.outcomes) in
    let e : c.loop-i.i ≡ n = omega (arith, c.loop-i-test.false, c.loop-i.auto.i-end, c.min-number.ensures, length-take-le n c.args.calls.now) in
    let r : Running k.meaning k.represents (memory c.reopen.new.self) run (memory t) =
    subst (λ (i : ℕ). Running k.meaning k.represents (memory c.reopen.new.self) (log_of (take i c.args.calls.now) (take i c.loop-i.outcomes)) (memory t)) e c.loop-i.invariant.0 in
    let same : c.reopen.new.self.ledger.usable ≡ s.ledger.usable = ap (λ (b : Book). b.usable) c.reopen.ensures.written.book in
    record {
      number = c.min-number.ensures;
      lawful = lawful k.meaning s.ledger.usable s.ledger.small run (subst (λ (V : ℕ). Defined k.meaning V (opened V) run) same r.defined);
      ran = ran k.meaning k.represents (memory s) (memory c.reopen.new.self) (memory t) run c.reopen.ensures.written r
          (record { possible = t.ledger.possible; versions = t.ledger.recorded; heads = t.ledger.standing; events = t.ledger.numbered });
      rest = subst (λ (i : ℕ). drop i c.loop-i.outcomes ≡ drop i c.args.outcomes.now) e c.loop-i.invariant.1;
    }
