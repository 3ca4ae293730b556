-- Rows put in the order of their keys.
use Rattle.std.specs.Prelude.{cond, List, [], ◌∷◌}
use Rattle.std.specs.declared.cmp.Ordering.{Ordering}
use Rattle.std.specs.Ordering.{is_le}

-- a row put in before the first that has no lower key
unfoldable pub insert : {K R : Type 0} → (K → K → Ordering) → (R → K) → R → List R → List R
insert order key r [] = r ∷ []
insert order key r (x ∷ xs) = cond (is_le (order (key r) (key x))) (r ∷ (x ∷ xs)) (x ∷ insert order key r xs)

-- the same rows in the order of their keys
unfoldable pub sorted : {K R : Type 0} → (K → K → Ordering) → (R → K) → List R → List R
sorted order key [] = []
sorted order key (x ∷ xs) = insert order key x (sorted order key xs)
