-- What a version has seen, told by how many events of each branch.
use Rattle.std.specs.Prelude.{ℕ, ◌+◌, cond, List, [], ◌∷◌, map, ◌==◌}
use Rattle.kinds.specs.Events.{Seen, Event, pick}
use Rattle.calls.specs.declared.calls.Version.{Version}
use Rattle.calls.specs.World.{World}

-- how many events of a branch a list has
unfoldable pub total : ℕ → List Event → ℕ
total b [] = 0
total b (e ∷ es) = cond (b == e.branch) (total b es + 1) (total b es)

-- of the events es, how many of a branch are in a set
abbrev pub tally : List Event → Seen → ℕ → ℕ
tally es s b = total b (pick s es)

-- the branches
abbrev pub sixteen : List ℕ
sixteen = 0 ∷ 1 ∷ 2 ∷ 3 ∷ 4 ∷ 5 ∷ 6 ∷ 7 ∷ 8 ∷ 9 ∷ 10 ∷ 11 ∷ 12 ∷ 13 ∷ 14 ∷ 15 ∷ []

-- the record of a version that has seen s: of each branch, how many of its events
abbrev pub record_of : List Event → Seen → Version
record_of es s = record { counts = map (tally es s) sixteen }

-- the records of all versions
abbrev pub records_of : World → List Version
records_of w = map (record_of w.events) w.versions
