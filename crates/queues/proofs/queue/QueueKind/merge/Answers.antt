-- That a merge of queues is what it owes.
use Rattle.std.proofs.Common.{refl, rules, ◌≡◌, Err}
use Rattle.kinds.specs.declared.fault.KindFault.TheVariants.{DoesNotFit}
use Rattle.queues.proofs.Calls.{done_merge, full_merge, held}
use Rattle.queues.proofs.queue.QueueKind.merge.Goals as goal

pub returns-in_err-count : goal.returns-in_err-count
returns-in_err-count c =
    let refused : c.from_residual-in_err-count.result ≡ Err (DoesNotFit 0) = search rules in
    full_merge c.args.base.now c.args.first.now c.args.second.now _ _ _ _ _ _ (held _ _ c.in_ok-live.ensures) (held _ _ c.in_ok-live-2.ensures) (held _ _ c.in_ok-live-3.ensures) refl
    c.join.ensures _ c.in_err-count.ensures.ok_part refused

pub returns : goal.returns
returns c =
    done_merge c.args.base.now c.args.first.now c.args.second.now _ _ _ _ _ _ (held _ _ c.in_ok-live.ensures) (held _ _ c.in_ok-live-2.ensures) (held _ _ c.in_ok-live-3.ensures) refl
    c.join.ensures _ (record { rows = c.join.new.out; count = c.in_ok-count.count }) c.in_ok-count.ensures.ok_part refl refl
