-- That a change of the queue is what it owes.
use Rattle.std.proofs.Common.{◌≡◌, true, ap, rules}
use Rattle.rows.specs.Lists.{natural}
use Rattle.queues.specs.Queue.{puts, takes}
use Rattle.queues.specs.declared.wait.Wait.{Wait}
use Rattle.queues.proofs.Calls.{put_change, take_change}
use Rattle.queues.proofs.queue.QueueKind.change.Goals as goal

pub returns-in-0-eq1-Ok : goal.returns-in-0-eq1-Ok
returns-in-0-eq1-Ok c =
    let known : puts c.args.change ≡ true = search rules in
    let item : c.in-0-eq1-Ok.item ≡ natural c.args.change.argument = search rules in
    let row : Wait = record { event = c.args.stamp.event; item = c.in-0-eq1-Ok.item } in
    put_change c.args.self.now c.put.new.self c.args.stamp c.args.change row c.put.result known (ap (λ n. record { event = c.args.stamp.event; item = n }) item) c.put.ensures

pub returns-in-0-eq2-Ok-eq0 : goal.returns-in-0-eq2-Ok-eq0
returns-in-0-eq2-Ok-eq0 c =
    let known : takes c.args.change ≡ true = search rules in
    take_change c.args.self.now c.take.new.self c.args.stamp c.args.change c.take.result known c.take.ensures
