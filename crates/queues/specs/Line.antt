-- The rows of a queue: the puts that wait, in the order of their event numbers.
use Rattle.std.specs.Prelude.{◌≡◌, ℕ, ◌+◌, ◌<◌, ◌≤◌, Bool, ◌&&◌, List, [], ◌∷◌, ◌++◌, map, length, take, drop, ℤ, pos, negsuc, Ok, Err, Result, ◌==◌}
use Rattle.kinds.specs.Events.{Event}
use Rattle.kinds.specs.declared.fault.KindFault.{KindFault}
use Rattle.kinds.specs.declared.fault.KindFault.TheVariants.{DoesNotFit}
use Rattle.rows.specs.Lists.{natural}
use Rattle.queues.specs.Queue.{waiting}
use Rattle.queues.specs.declared.queue.Queue.{Queue}
use Rattle.queues.specs.declared.wait.Wait.{Wait}

-- a row's key is the event number of its put
abbrev pub wait_key : Wait → ℕ
wait_key x = x.event

-- two rows are the same, compared whole
abbrev pub same_wait : Wait → Wait → Bool
same_wait x y = x.event == y.event && x.item == y.item

-- the row of a put
abbrev pub wait_of : Event → Wait
wait_of e = record { event = e.number; item = natural e.change.argument }

-- the rows of a history
unfoldable pub line : List Event → List Wait
line h = map wait_of (waiting h)

-- The value stands for the history: its count is how many wait there, at most 64, and so many of its rows are theirs.
pub record Represents (q : Queue) (h : List Event) : Type 0 where
  pub within : q.count ≤ 64
  pub counted : q.count ≡ length (line h)
  pub lined : take q.count q.rows ≡ line h

-- the item of the first row, or -1
abbrev pub first_item : List Wait → ℤ
first_item [] = negsuc 0
first_item (x ∷ xs) = pos x.item

-- What it is to put the row x: the reply r, and the value afterwards.
pub data Put (before : Queue) (x : Wait) (r : Result ℤ KindFault) (after : Queue) : Type 0 where
  full : 64 ≤ before.count → r ≡ Err (DoesNotFit 0) → after ≡ before → Put before x r after
  written : before.count < 64 → r ≡ Ok (pos (before.count + 1)) → after.count ≡ before.count + 1 →
      take after.count after.rows ≡ take before.count before.rows ++ (x ∷ []) → Put before x r after

-- What it is to take: the reply r, and the value afterwards.
pub data Take (before : Queue) (r : Result ℤ KindFault) (after : Queue) : Type 0 where
  beyond : 64 < before.count → r ≡ Err (DoesNotFit 0) → after ≡ before → Take before r after
  empty : before.count ≡ 0 → r ≡ Ok (negsuc 0) → after ≡ before → Take before r after
  shifted : before.count ≤ 64 → before.count ≡ after.count + 1 → r ≡ Ok (first_item (take before.count before.rows)) →
      take after.count after.rows ≡ drop 1 (take before.count before.rows) → Take before r after
