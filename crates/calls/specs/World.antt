-- What the branches and versions of a store have seen, as the accepted calls alone tell it. No value, no count and no memory occurs here.
use Rattle.std.specs.Prelude.{ℕ, zero, suc, ◌+◌, Bool, true, false, cond, not, ◌&&◌, ◌||◌, List, [], ◌∷◌, ◌++◌, length, ◌==◌, slice_index, slice_index_or, slice_set}
use Rattle.kinds.specs.Events.{Seen, Event, nothing, joined, pick}
use Rattle.kinds.specs.declared.calls.Change as kind
use Rattle.calls.specs.declared.calls.Action.{Action}
use Rattle.calls.specs.declared.calls.Action.TheVariants.{Fork, Change, Merge}

pub record World : Type 0 where
  -- the accepted changes, in the order of their numbers, which start at 1
  pub events : List Event
  -- what each stored version has seen
  pub versions : List Seen
  -- the head of each branch
  pub heads : List ℕ

-- what a branch has seen: what its head has seen
abbrev pub seen_by : World → ℕ → Seen
seen_by w b = slice_index_or w.versions (slice_index w.heads b) nothing

-- the events that a branch has seen
abbrev pub history_of : World → ℕ → List Event
history_of w b = pick (seen_by w b) w.events

-- the event of number k besides those of a set
abbrev pub with_event : Seen → ℕ → Seen
with_event s k n = n == k || s n

-- A store of usable size 0 has no version and no branch. Any other opens with branch 0 at version 0, which has seen nothing.
abbrev pub opened : ℕ → World
opened zero = record { events = []; versions = []; heads = [] }
opened (suc n) = record { events = []; versions = nothing ∷ []; heads = 0 ∷ [] }

-- the event that a change on branch b is: its number is the next, and it saw what its branch has seen
abbrev pub next_event : World → ℕ → kind.Change → Event
next_event w b c = record { number = length w.events + 1; branch = b; change = c; saw = seen_by w b }

-- One accepted call more. A fork makes a branch with the named version as its head. A change adds its event to what its branch has seen,
-- a merge adds to the destination all that the source has seen; either makes a version, to which the branch's head moves.
abbrev pub advance : World → Action → World
advance w (Fork v) = record { events = w.events; versions = w.versions; heads = w.heads ++ (v ∷ []) }
advance w (Change b c) = record {
  events = w.events ++ (next_event w b c ∷ []);
  versions = w.versions ++ (with_event (seen_by w b) (length w.events + 1) ∷ []);
  heads = slice_set w.heads b (length w.versions);
}
advance w (Merge d s) = record {
  events = w.events;
  versions = w.versions ++ (joined (seen_by w d) (seen_by w s) ∷ []);
  heads = slice_set w.heads d (length w.versions);
}

-- whether of the events es, those of a are all in b
abbrev pub inside : List Event → Seen → Seen → Bool
inside [] a b = true
inside (e ∷ es) a b = (not (a e.number) || b e.number) && inside es a b

-- whether of the events es, a and b have the same
abbrev pub same : List Event → Seen → Seen → Bool
same es a b = inside es a b && inside es b a

-- whether one of the versions has seen just s
abbrev pub stored : List Event → Seen → List Seen → Bool
stored es s [] = false
stored es s (v ∷ vs) = same es v s || stored es s vs

-- the lowest version that has seen just s
abbrev pub lowest : List Event → Seen → List Seen → ℕ
lowest es s [] = 0
lowest es s (v ∷ vs) = cond (same es v s) 0 (lowest es s vs + 1)
