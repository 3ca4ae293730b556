use Rattle.std.proofs.Common.{◌<◌, Err, sym, ap, ◌∙◌, arith, rules}
use Rattle.std.proofs.lemmas.Bool.{both_ways}
use Rattle.std.proofs.lemmas.Result.{err_from_is_err_and}
use Rattle.calls.specs.declared.fault.StoreFault.TheVariants.{NoBase}
use Rattle.store.proofs.Asks.{refused_by, first_below, second_below, merging_seen, merging_baseless, merging_full, merging_from}
use Rattle.store.proofs.ledger.Ledger.meet.Goals as goal

pub offset_bounds-self-first : goal.offset_bounds-self-first
offset_bounds-self-first c =
    let s = c.args.self.now in
    let few : c.in_ok-first.first < 4096 = omega (arith, first_below s c.args.into c.in_ok-first.first c.in_ok-first.ensures, s.within, s.small) in search rules

pub bounds-self-first : goal.bounds-self-first
bounds-self-first c =
    let s = c.args.self.now in
    omega (arith, first_below s c.args.into c.in_ok-first.first c.in_ok-first.ensures, s.within, s.versioned)

pub offset_bounds-self-second : goal.offset_bounds-self-second
offset_bounds-self-second c =
    let s = c.args.self.now in
    let few : c.in_ok-second.second < 4096 =
    omega (
      arith,
      second_below s c.args.into c.in_ok-first.first c.in_ok-first.ensures c.args.from c.in_ok-second.second
          c.head_if_there.result c.head_if_there.ensures c.in_ok-second.ensures.ok_part,
      s.within,
      s.small,
    ) in search rules

pub bounds-self-second : goal.bounds-self-second
bounds-self-second c =
    let s = c.args.self.now in
    omega (
      arith,
      second_below s c.args.into c.in_ok-first.first c.in_ok-first.ensures c.args.from c.in_ok-second.second
          c.head_if_there.result c.head_if_there.ensures c.in_ok-second.ensures.ok_part,
      s.within,
      s.versioned,
    )

pub returns-then-within : goal.returns-then-within
returns-then-within c =
    merging_seen c.args.self.now c.args.into c.in_ok-first.first c.in_ok-first.ensures c.args.from c.in_ok-second.second
    c.head_if_there.result c.head_if_there.ensures c.in_ok-second.ensures.ok_part (search (rules, c.within.ensures.0))

pub returns-in_err-base : goal.returns-in_err-base
returns-in_err-base c =
    let p = err_from_is_err_and c.from_residual-in_err-base.result c.from_residual-in_err-base.ensures.1 in
    let q = refused_by c.lowest.result (NoBase c.args.into) c.in_err-base.field-0.0 c.in_err-base.ensures.value in
    p.1 ∙ ap Err (p.2 ∙ q.1)
    ∙ merging_baseless c.args.self.now c.args.into c.in_ok-first.first c.in_ok-first.ensures c.args.from c.in_ok-second.second
    c.head_if_there.result c.head_if_there.ensures c.in_ok-second.ensures.ok_part
    c.branchwise-shared.result.counts c.branchwise-shared.ensures.size (λ x l. search (rules, c.branchwise-shared.ensures.counts x l)) (λ l. both_ways c.within.result c.if-within.false (c.within.ensures.1 l))
    (sym c.lowest.ensures ∙ q.0)

pub returns-then-self : goal.returns-then-self
returns-then-self c =
    merging_full c.args.self.now c.args.into c.in_ok-first.first c.in_ok-first.ensures c.args.from c.in_ok-second.second
    c.head_if_there.result c.head_if_there.ensures c.in_ok-second.ensures.ok_part
    c.branchwise-shared.result.counts c.branchwise-shared.ensures.size (λ x l. search (rules, c.branchwise-shared.ensures.counts x l)) (λ l. both_ways c.within.result c.if-within.false (c.within.ensures.1 l))
    c.in_ok-base.base (sym c.lowest.ensures ∙ c.in_ok-base.ensures.ok_part) c.if-self.true

pub returns : goal.returns
returns c =
    merging_from c.args.self.now c.args.into c.in_ok-first.first c.in_ok-first.ensures c.args.from c.in_ok-second.second
    c.head_if_there.result c.head_if_there.ensures c.in_ok-second.ensures.ok_part
    c.branchwise-shared.result.counts c.branchwise-shared.ensures.size (λ x l. search (rules, c.branchwise-shared.ensures.counts x l)) (λ l. both_ways c.within.result c.if-within.false (c.within.ensures.1 l))
    c.in_ok-base.base (sym c.lowest.ensures ∙ c.in_ok-base.ensures.ok_part) c.if-self.false
