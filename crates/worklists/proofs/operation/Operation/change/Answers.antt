use Rattle.std.proofs.Common.{rules}
use Rattle.worklists.proofs.InTurn.{in_turn}
use Rattle.worklists.proofs.operation.Operation.change.Goals as goal

pub returns-clause-in_turn : goal.returns-clause-in_turn
returns-clause-in_turn c = in_turn c.args.self _ (search rules)
