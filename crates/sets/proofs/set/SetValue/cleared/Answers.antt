use Rattle.std.proofs.Common.{not, eqb, None, ◌∙◌, arith, rules, tests}
use Rattle.std.proofs.lemmas.Iterator.Consumers.{YieldsList-turn, YieldsList-end}
use Rattle.std.proofs.lemmas.List.Sums.{length-filter, count_by-le-length}
use Rattle.rows.proofs.Sorts.{rises_kept}
use Rattle.sets.specs.Table.{by_object_then_branch, mark_key}
use Rattle.sets.specs.declared.marks.Mark.{Mark}
use Rattle.sets.proofs.Loops.{copied_more, passing}
use Rattle.sets.proofs.Orders.{total_keys}
use Rattle.sets.proofs.set.SetValue.cleared.Goals as goal

pub bounds-rows-count : goal.bounds-rows-count
bounds-rows-count c =
    let others = λ (x : Mark). not (eqb x.object c.args.object) in
    let turn = YieldsList-turn
    (passing others c.live.result.now _ c.into_iter-row-iterator.ensures.into_iter_gives c.filter-row-items.ensures.source (cc) c.filter-row-items.ensures.closure (λ x b q k. (search (rules, tests), search (rules, tests))))
    c.loop-row.yielded _ c.loop-row.yielded_by _ _ c.in-Some.row c.in-Some.is c.next.ensures.steps in
    omega (arith, length-filter others c.live.result.now, count_by-le-length others c.live.result.now)

pub loop-row-preserved : goal.loop-row-preserved
loop-row-preserved c = copied_more c.in-Some.row (bounds-rows-count c) c.loop-row.invariant

pub returns : goal.returns
returns c =
    c.loop-row.invariant.written
    ∙ (YieldsList-end
    (passing _ c.args.self.now _ c.into_iter-row-iterator.ensures.into_iter_gives c.filter-row-items.ensures.source (cc) c.filter-row-items.ensures.closure (λ x b q k. (search (rules, tests), search (rules, tests))))
    c.loop-row.yielded _ c.loop-row.yielded_by _ _ c.in-None.is c.next.ensures.steps).0

pub invariant_of-result : goal.invariant_of-result
invariant_of-result c = (
  c.loop-row.invariant.within,
  rw (returns c)
      (rises_kept by_object_then_branch mark_key total_keys (λ (x : Mark). not (eqb x.object c.args.object)) None c.args.self.now (rw c.live.ensures.rows at c.live.ensures.rising)),
)
