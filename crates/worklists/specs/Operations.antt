-- What is done to a worklist and asked of it, in its own words: the change or question that says it, what is replied or answered, and what
-- becomes of the worklist.
use Rattle.std.specs.Prelude.{◌≡◌, ℕ, ◌+◌, ◌/◌, Bool, true, not, ◌&&◌, ◌||◌, List, [], ◌∷◌, ◌++◌, map, length, drop, ℤ, pos, negsuc, ◌+ℤ◌, ◌==◌}
use Rattle.kinds.specs.Counter.{between, sum}
use Rattle.kinds.specs.Events.{Event}
use Rattle.kinds.specs.History.{History, Next}
use Rattle.kinds.specs.Pair.{part, side_of}
use Rattle.kinds.specs.declared.calls.Change.{Change}
use Rattle.kinds.specs.declared.calls.Question.{Question}
use Rattle.queues.specs.Queue.{waiting}
use Rattle.sets.specs.Set.{bit, member}
use Rattle.worklists.specs.declared.operation.Operation.{Operation}
use Rattle.worklists.specs.declared.operation.Operation.TheVariants.{Mark, Clear, Rebuild, Put, Take, Skip}
use Rattle.worklists.specs.declared.query.Query.{Query}
use Rattle.worklists.specs.declared.query.Query.TheVariants.{IsStale, Rebuilds, FirstWaiting, Waiting, Skips}

-- ---- what a worklist holds

-- A worklist as a person thinks of it: which objects are stale, which wait, in their order, and how many were rebuilt and skipped.
pub record State : Type 0 where
  pub stale : ℕ → Bool
  pub queue : List ℤ
  pub rebuilds : ℤ
  pub skips : ℤ

-- what was sent to one of the places 0 to 3: to a part of a part
abbrev pub sent_to : ℕ → List Event → List Event
sent_to place h = part (side_of (place / 2)) (part (side_of place) h)

-- the state of four parts
abbrev pub of_parts : List Event → List Event → List Event → List Event → State
of_parts stale rebuilds queue skips = record {
  stale = member stale;
  queue = map (λ (e : Event). e.change.argument) (waiting queue);
  rebuilds = sum rebuilds;
  skips = sum skips;
}

-- what a history comes to: each part by what was sent to it
abbrev pub state_of : List Event → State
state_of h = of_parts (sent_to 0 h) (sent_to 1 h) (sent_to 2 h) (sent_to 3 h)

-- the first that waits, or -1
abbrev pub first_of : List ℤ → ℤ
first_of [] = negsuc 0
first_of (z ∷ zs) = z

-- ---- operations

-- the change that says an operation: its part's place, and the part's verb and argument
abbrev pub change_of : Operation → Change
change_of (Mark o) = record { place = 0; verb = 1; argument = pos o }
change_of (Clear o) = record { place = 0; verb = 2; argument = pos o }
change_of (Rebuild n) = record { place = 1; verb = 1; argument = n }
change_of (Put o) = record { place = 2; verb = 1; argument = pos o }
change_of Take = record { place = 2; verb = 2; argument = pos 0 }
change_of (Skip n) = record { place = 3; verb = 1; argument = n }

-- an amount is from -1,000,000 to 1,000,000
abbrev pub in_range : Operation → Bool
in_range (Mark o) = true
in_range (Clear o) = true
in_range (Rebuild n) = between (negsuc 999999) (pos 1000000) n
in_range (Put o) = true
in_range Take = true
in_range (Skip n) = between (negsuc 999999) (pos 1000000) n

-- the reply: whether the object was stale before, the count with the amount, how many wait with the object, or the object taken (-1 where
-- none waits)
abbrev pub reply_to : Operation → State → ℤ
reply_to (Mark o) s = bit (s.stale o)
reply_to (Clear o) s = bit (s.stale o)
reply_to (Rebuild n) s = s.rebuilds +ℤ n
reply_to (Put o) s = pos (length s.queue + 1)
reply_to Take s = first_of s.queue
reply_to (Skip n) s = s.skips +ℤ n

-- what an operation makes of a worklist
abbrev pub made_of : Operation → State → State
made_of (Mark o) s = record s { stale = λ p. s.stale p || o == p }
made_of (Clear o) s = record s { stale = λ p. s.stale p && not (o == p) }
made_of (Rebuild n) s = record s { rebuilds = s.rebuilds +ℤ n }
made_of (Put o) s = record s { queue = s.queue ++ (pos o ∷ []) }
made_of Take s = record s { queue = drop 1 s.queue }
made_of (Skip n) s = record s { skips = s.skips +ℤ n }

-- On a branch by itself a worklist is a plain one: an operation that comes next after a history makes of its state what it says, and leaves
-- all else as it was.
abbrev pub InTurn : Operation → Change → Type 0
InTurn op c = (h : List Event) (e : Event) → History h → Next h e → e.change ≡ c → state_of (h ++ (e ∷ [])) ≡ made_of op (state_of h)

-- ---- queries

-- the question that asks a query
abbrev pub question_of : Query → Question
question_of (IsStale o) = record { place = 0; verb = 1; argument = pos o }
question_of Rebuilds = record { place = 1; verb = 1; argument = pos 0 }
question_of FirstWaiting = record { place = 2; verb = 1; argument = pos 0 }
question_of Waiting = record { place = 2; verb = 2; argument = pos 0 }
question_of Skips = record { place = 3; verb = 1; argument = pos 0 }

-- the answer to a query
abbrev pub answer_to : Query → State → ℤ
answer_to (IsStale o) s = bit (s.stale o)
answer_to Rebuilds s = s.rebuilds
answer_to FirstWaiting s = first_of s.queue
answer_to Waiting s = pos (length s.queue)
answer_to Skips s = s.skips
