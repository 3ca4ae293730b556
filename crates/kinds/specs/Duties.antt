-- What an implementation of a kind owes at each of its calls. Throughout, m is the kind's meaning, V the type of its values, and
-- R v h says that the value v stands for the history h. A value that stands for no history is owed safety and an end, and no more
-- than is said of every value here.
use Rattle.std.specs.Prelude.{◌≡◌, true, false, List, [], ◌∷◌, ◌++◌, ℤ, Ok, Err, Result}
use Rattle.kinds.specs.Events.{Event, Seen, pick, common, joined}
use Rattle.kinds.specs.History.{History, Closed, Next}
use Rattle.kinds.specs.Meaning.{Meaning, Known}
use Rattle.kinds.specs.declared.calls.Change.{Change}
use Rattle.kinds.specs.declared.calls.Question.{Question}
use Rattle.kinds.specs.declared.calls.Stamp.{Stamp}
use Rattle.kinds.specs.declared.fault.KindFault.{KindFault}
use Rattle.kinds.specs.declared.fault.KindFault.TheVariants.{UnknownChange, DoesNotFit, UnknownQuestion}

-- The event is this change under this stamp.
pub record Stamped (stamp : Stamp) (change : Change) (e : Event) : Type 0 where
  pub number : e.number ≡ stamp.event
  pub branch : e.branch ≡ stamp.branch
  pub made : e.change ≡ change

-- What the event e gives after the history h: the result r, and the value that is there afterwards.
pub data Changed {V : Type 0} (m : Meaning) (R : V → List Event → Type 0) (h : List Event) (e : Event) (r : Result ℤ KindFault) (after : V) : Type 0 where
  -- an unknown change is refused, and the place asked is named
  unknown : m.knows e.change ≡ false → r ≡ Err (UnknownChange e.change.place) → Changed m R h e r after
  -- a known one whose longer history doesn't fit is refused, and the meaning says which place is named
  misfit : m.knows e.change ≡ true → m.fits (h ++ (e ∷ [])) ≡ false → r ≡ Err (DoesNotFit (m.misfit (h ++ (e ∷ [])))) → Changed m R h e r after
  -- any other is made: the reply is the defined one, and the value stands for the longer history
  done : m.knows e.change ≡ true → m.fits (h ++ (e ∷ [])) ≡ true → r ≡ Ok (m.reply h e.change) → R after (h ++ (e ∷ [])) → Changed m R h e r after

-- What a change of the value `before` owes: its result r, and the value afterwards.
pub record Changes {V : Type 0} (m : Meaning) (R : V → List Event → Type 0) (before : V) (stamp : Stamp) (change : Change) (r : Result ℤ KindFault) (after : V) : Type 0 where
  -- whatever history the value stood for, the change is the event that comes next after it
  pub defined : (h : List Event) (e : Event) → History h → Known m h → Next h e → Stamped stamp change e → R before h → Changed m R h e r after
  -- a refusal leaves the value unaltered, whether or not it stands for a history
  pub unaltered : (f : KindFault) → r ≡ Err f → after ≡ before

-- What a merge gives, where h is the history of all that either side has seen.
pub data Merged {V : Type 0} (m : Meaning) (R : V → List Event → Type 0) (h : List Event) (r : Result V KindFault) : Type 0 where
  misfit : m.fits h ≡ false → r ≡ Err (DoesNotFit (m.misfit h)) → Merged m R h r
  done : (v : V) → m.fits h ≡ true → r ≡ Ok v → R v h → Merged m R h r

-- Two sides have seen the sets a and b of the events of one wider history, and the base has seen just what both have seen.
abbrev pub Merges : {V : Type 0} → Meaning → (V → List Event → Type 0) → V → V → V → Result V KindFault → Type 0
Merges m R base first second r =
    (w : List Event) (a b : Seen) → History w → Known m w → Closed a w → Closed b w →
    R base (pick (common a b) w) → R first (pick a w) → R second (pick b w) → Merged m R (pick (joined a b) w) r

-- What a question to the value v owes.
pub record Answers {V : Type 0} (m : Meaning) (R : V → List Event → Type 0) (v : V) (q : Question) (r : Result ℤ KindFault) : Type 0 where
  -- a question that the kind knows is answered as defined, on every history that the value stands for
  pub known : m.hears q ≡ true → (h : List Event) → History h → Known m h → R v h → r ≡ Ok (m.answer h q)
  -- any other is refused, and the place asked is named
  pub unknown : m.hears q ≡ false → r ≡ Err (UnknownQuestion q.place)
