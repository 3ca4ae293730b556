-- The law of the queue as a kind: only a history that fits has values that stand for it.
use Rattle.std.specs.Prelude.{◌≡◌, true, List, length, nat_le}
use Rattle.std.proofs.Common.{subst, ◌∙◌}
use Rattle.std.proofs.lemmas.Bool.{le-leb}
use Rattle.std.proofs.lemmas.List.{length-map}
use Rattle.kinds.specs.Events.{Event}
use Rattle.queues.specs.Queue.{queue, waiting}
use Rattle.queues.specs.Line.{Represents, line, wait_of}
use Rattle.queues.specs.declared.queue.Queue.{Queue}

pub line_length : (h : List Event) → length (line h) ≡ length (waiting h)
unfolding line
line_length h = length-map (waiting h) wait_of

pub fitting : (q : Queue) (h : List Event) → Represents q h → queue.fits h ≡ true
fitting q h r = subst (λ n. nat_le n 64 ≡ true) (r.counted ∙ line_length h) (le-leb q.count 64 r.within)
