use Rattle.std.proofs.Common.{◌≡◌, take, drop}
use Rattle.calls.specs.Run.{log_of}
use Rattle.store.specs.Views.{memory}
use Rattle.store.proofs.Runs.{Running}
use Rattle.store.proofs.store.Store.run.Given as goal

abbrev pub invariant-loop-i : goal.invariant-loop-i
invariant-loop-i g l =
    Running g.K.Kind.meaning g.K.Kind.represents (memory l.initial.self) (log_of (take l.i l.calls) (take l.i l.outcomes)) (memory l.self)
    × (drop l.i l.outcomes ≡ drop l.i l.initial.outcomes)
