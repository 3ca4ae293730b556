-- Events, and sets of events.
use Rattle.std.specs.Prelude.{ℕ, ◌<◌, Bool, false, cond, ◌&&◌, ◌||◌, List, [], ◌∷◌}
use Rattle.kinds.specs.declared.calls.Change.{Change}

-- A set of events, by their numbers: whether the event of a number is in it.
abbrev pub Seen : Type 0
Seen = ℕ → Bool

-- the set with no event
abbrev pub nothing : Seen
nothing n = false

-- the events that are in both sets
abbrev pub common : Seen → Seen → Seen
common a b n = a n && b n

-- the events that are in one of the sets, or in both
abbrev pub joined : Seen → Seen → Seen
joined a b n = a n || b n

-- An event is an accepted change: its number, the branch that made it, the change, and the events that the branch had seen just before.
pub record Event : Type 0 where
  pub number : ℕ
  pub branch : ℕ
  pub change : Change
  pub saw : Seen

-- The event e is one of the list.
pub data In (e : Event) : List Event → Type 0 where
  here : {es : List Event} → In e (e ∷ es)
  there : {f : Event} {es : List Event} → In e es → In e (f ∷ es)

-- The list is in the order of the events' numbers, and no number stands twice.
pub data Rising : List Event → Type 0 where
  none : Rising []
  one : {e : Event} {es : List Event} → ((f : Event) → In f es → e.number < f.number) → Rising es → Rising (e ∷ es)

-- those events of a list that are in a set
unfoldable pub pick : Seen → List Event → List Event
pick s [] = []
pick s (e ∷ es) = cond (s e.number) (e ∷ pick s es) (pick s es)
