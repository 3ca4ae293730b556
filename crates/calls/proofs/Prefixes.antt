-- Sets that hold the first events of each branch.
use Rattle.std.proofs.Common.{◌≡◌, ℕ, ◌+◌, ◌-◌, true, false, cond, eqb, ltb, List, [], ◌∷◌}
use Rattle.kinds.specs.Events.{Seen, Event, In}
use Rattle.calls.specs.Counts.{tally}

-- the numbers of the events are those after k, in turn
abbrev pub Numbered : ℕ → List Event → Type 0
Numbered k [] = Unit {0}
Numbered k (e ∷ es) = (e.number ≡ k + 1) × Numbered (k + 1) es

-- the set holds numbers of events of the list only
abbrev pub Only : Seen → List Event → Type 0
Only s h = (n : ℕ) → s n ≡ true → (f : Event) × (In f h × (f.number ≡ n))

abbrev pub one_less : (ℕ → ℕ) → ℕ → ℕ → ℕ
one_less c b x = cond (eqb x b) (c x - 1) (c x)

abbrev pub one_more : (ℕ → ℕ) → ℕ → ℕ → ℕ
one_more c b x = cond (eqb x b) (c x + 1) (c x)

-- of the events es, the first (c b) of each branch b
unfoldable pub first_of : (ℕ → ℕ) → List Event → Seen
first_of c [] n = false
first_of c (e ∷ es) n = cond (eqb n e.number) (ltb 0 (c e.branch)) (first_of (one_less c e.branch) es n)

-- the set is of the first events of each branch
abbrev pub Prefix : Seen → List Event → Type 0
Prefix s es = s ≡ first_of (tally es s) es
