-- Histories: sets of events that hold, with an event, all that it saw.
use Rattle.std.specs.Prelude.{◌≡◌, ℕ, ◌<◌, ◌≤◌, true, List, [], ◌∷◌, ◌++◌}
use Rattle.kinds.specs.Events.{Event, Seen, In, Rising, pick, common, joined}

-- A history is a set of events, written as the list of them in the order of their numbers.
pub record History (h : List Event) : Type 0 where
  pub rising : Rising h
  -- the numbers are 1 to 4,095, and the branches 0 to 15
  pub numbered : (e : Event) → In e h → (0 < e.number) × (e.number ≤ 4095)
  pub branched : (e : Event) → In e h → e.branch < 16
  -- with an event the history holds all that the event saw
  pub whole : (e : Event) (n : ℕ) → In e h → e.saw n ≡ true → (f : Event) × (In f h × (f.number ≡ n))
  -- what an event saw has lower numbers,
  pub earlier : (e : Event) (n : ℕ) → In e h → e.saw n ≡ true → n < e.number
  -- includes what those events saw,
  pub transitive : (e f : Event) (n : ℕ) → In e h → In f h → e.saw f.number ≡ true → f.saw n ≡ true → e.saw n ≡ true
  -- and includes every earlier event of the same branch
  pub in_turn : (e f : Event) → In e h → In f h → e.branch ≡ f.branch → f.number < e.number → e.saw f.number ≡ true

-- The set holds, with an event of h, all that the event saw: so what it picks of a history is a history.
abbrev pub Closed : Seen → List Event → Type 0
Closed s h = (e : Event) (n : ℕ) → In e h → s e.number ≡ true → e.saw n ≡ true → s n ≡ true

-- The event e comes next after h on some branch: it saw all of h and nothing else, and its number is above all there.
pub record Next (h : List Event) (e : Event) : Type 0 where
  pub numbered : (0 < e.number) × (e.number ≤ 4095)
  pub branched : e.branch < 16
  pub above : (f : Event) → In f h → f.number < e.number
  pub all : (f : Event) → In f h → e.saw f.number ≡ true
  pub only : (n : ℕ) → e.saw n ≡ true → (f : Event) × (In f h × (f.number ≡ n))

-- That these definitions belong together: what the duties of a kind speak of are histories.
pub record Coherent : Type 0 where
  -- no event at all is a history,
  pub none : History []
  -- a history with the event that comes next is a history,
  pub longer : (h : List Event) (e : Event) → History h → Next h e → History (h ++ (e ∷ []))
  -- what a closed set picks of a history is a history,
  pub within : (s : Seen) (w : List Event) → History w → Closed s w → History (pick s w)
  -- and what two closed sets have in common is closed, as is what they have together
  pub both : (a b : Seen) (w : List Event) → Closed a w → Closed b w → Closed (common a b) w
  pub either : (a b : Seen) (w : List Event) → Closed a w → Closed b w → Closed (joined a b) w
