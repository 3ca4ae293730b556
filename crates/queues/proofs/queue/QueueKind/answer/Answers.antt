-- That the answers of the queue are those that it owes.
use Rattle.std.proofs.Common.{◌≡◌, true, rules}
use Rattle.queues.specs.Queue.{asks}
use Rattle.queues.proofs.Calls.{first_answer, count_answer, read}
use Rattle.queues.proofs.queue.QueueKind.answer.Goals as goal

pub returns-in-0-eq1-eq0 : goal.returns-in-0-eq1-eq0
returns-in-0-eq1-eq0 c =
    let q : asks 1 c.args.question ≡ true = search rules in
    first_answer c.args.self.now c.args.question c.unwrap_or-rows.result.now _ q (read _ _ _ _ c.live.ensures c.unwrap_or-rows.ensures) (search rules)

pub returns-in-0-eq2-eq0 : goal.returns-in-0-eq2-eq0
returns-in-0-eq2-eq0 c =
    let q : asks 2 c.args.question ≡ true = search rules in
    count_answer c.args.self.now c.args.question c.unwrap_or-rows.result.now _ q (read _ _ _ _ c.live.ensures c.unwrap_or-rows.ensures) (search rules)
