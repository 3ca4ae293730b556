-- What a store holds besides its values: version records, steps and heads.
use Rattle.std.specs.Prelude.{◌≡◌, ℕ, zero, suc, ◌+◌, true, List, [], ◌∷◌, ◌++◌, map, length, take, slice_set}
use Rattle.kinds.specs.Events.{nothing}
use Rattle.calls.specs.declared.calls.Action.{Action}
use Rattle.calls.specs.declared.calls.Action.TheVariants.{Fork}
use Rattle.calls.specs.declared.calls.Step.{Step}
use Rattle.calls.specs.declared.calls.Version.{Version}
use Rattle.calls.specs.World.{World, advance, opened, seen_by}
use Rattle.calls.specs.Run.{advances, possible, all_possible}
use Rattle.calls.specs.Counts.{record_of, records_of}

-- The slices and the array are here whole; the numbers say how many of their elements are in use.
pub record Book : Type 0 where
  pub usable : ℕ
  pub versions : List Version
  pub made : ℕ
  pub steps : List Step
  pub taken : ℕ
  pub heads : List ℕ
  pub branches : ℕ
  pub events : ℕ

-- the actions of the steps taken
abbrev pub actions : List Step → ℕ → List Action
actions ss n = map (λ (s : Step). s.action) (take n ss)

-- what is seen, as the first n steps in a store of usable size V tell it
abbrev pub told : ℕ → List Step → ℕ → World
told V ss n = advances (opened V) (actions ss n)

-- what is seen, as the steps taken tell it
abbrev pub world : Book → World
world k = told k.usable k.steps k.taken

-- The book is in step with what its steps tell. This holds of every store.
pub record Recorded (k : Book) : Type 0 where
  pub possible : all_possible k.usable (opened k.usable) (actions k.steps k.taken) ≡ true
  -- each version record says of each branch how many of its events the version has seen
  pub versions : take k.made k.versions ≡ records_of (world k)
  pub heads : take k.branches k.heads ≡ (world k).heads
  pub events : k.events ≡ length (world k).events

-- ---- what is written

-- Opening writes the first element of a slice if the usable size is not 0, and no other element.
abbrev pub begun : {A : Type 0} → ℕ → List A → A → List A
begun zero xs x = xs
begun (suc V) xs x = slice_set xs 0 x

-- a book brought back to its opening: version 0 has seen nothing, and branch 0 has it as its head
abbrev pub blank : Book → Book
blank k = record {
  usable = k.usable;
  versions = begun k.usable k.versions (record_of [] nothing);
  made = length (opened k.usable).versions;
  steps = k.steps;
  taken = 0;
  heads = begun k.usable k.heads 0;
  branches = length (opened k.usable).heads;
  events = 0;
}

-- a book with another usable size
abbrev pub resized : Book → ℕ → Book
resized k V = record {
  usable = V;
  versions = k.versions;
  made = k.made;
  steps = k.steps;
  taken = k.taken;
  heads = k.heads;
  branches = k.branches;
  events = k.events;
}

-- a fork at version v: a step and a head more
abbrev pub forked : Book → ℕ → Book
forked k v = record {
  usable = k.usable;
  versions = k.versions;
  made = k.made;
  steps = slice_set k.steps k.taken (record { action = Fork v });
  taken = k.taken + 1;
  heads = slice_set k.heads k.branches v;
  branches = k.branches + 1;
  events = k.events;
}

-- a change or merge on branch b: a step more, and a version to which the branch's head moves, with the record of what the branch has seen then
abbrev pub appended : Book → Action → ℕ → Book
appended k a b =
    let after : World = advance (world k) a in
    record {
      usable = k.usable;
      versions = slice_set k.versions k.made (record_of after.events (seen_by after b));
      made = k.made + 1;
      steps = slice_set k.steps k.taken (record { action = a });
      taken = k.taken + 1;
      heads = slice_set k.heads b k.made;
      branches = k.branches;
      events = length after.events;
    }

-- the version record and the number of events that an action on branch b makes of what is seen
pub record Appends (V : ℕ) (w : World) (a : Action) (b : ℕ) (r : Version) (n : ℕ) : Type 0 where
  pub possible : possible V w a ≡ true
  pub versions : records_of (advance w a) ≡ records_of w ++ (r ∷ [])
  pub version : r ≡ record_of (advance w a).events (seen_by (advance w a) b)
  pub heads : (advance w a).heads ≡ slice_set w.heads b (length w.versions)
  pub events : n ≡ length (advance w a).events
