-- Rows with keys: the row at a key, rows that rise by key, and what a three-way join has at each key.
use Rattle.std.specs.Prelude.{◌≡◌, Bool, true, false, cond, ◌&&◌, List, [], ◌∷◌, Some, None, Option}
use Rattle.std.specs.declared.cmp.Ordering.{Ordering}
use Rattle.std.specs.Ordering.{is_eq, is_lt}

-- the first row that has the key k, or nothing
unfoldable pub find : {K R : Type 0} → (K → K → Ordering) → (R → K) → K → List R → Option R
find order key k [] = None
find order key k (x ∷ xs) = cond (is_eq (order (key x) k)) (Some x) (find order key k xs)

-- the key k is above the one before it, where there is one before it
abbrev pub over : {K : Type 0} → (K → K → Ordering) → Option K → K → Bool
over order None k = true
over order (Some m) k = is_lt (order m k)

-- the keys rise strictly, and the first is above the one before it
unfoldable pub rises_over : {K R : Type 0} → (K → K → Ordering) → (R → K) → Option K → List R → Bool
rises_over order key m [] = true
rises_over order key m (x ∷ xs) = over order m (key x) && rises_over order key (Some (key x)) xs

-- the keys rise strictly, so that none stands twice
abbrev pub rises : {K R : Type 0} → (K → K → Ordering) → (R → K) → List R → Bool
rises order key xs = rises_over order key None xs

-- two rows are the same, compared whole, or there is neither
abbrev pub alike : {R : Type 0} → (R → R → Bool) → Option R → Option R → Bool
alike same None None = true
alike same None (Some y) = false
alike same (Some x) None = false
alike same (Some x) (Some y) = same x y

-- the first row, if there is one, and otherwise the second
abbrev pub or_else : {R : Type 0} → Option R → Option R → Option R
or_else None b = b
or_else (Some x) b = Some x

-- what a join has at a key where the base has l, the first side a and the second side b
abbrev pub outcome : {R : Type 0} → (R → R → Bool) → Option R → Option R → Option R → Option R
outcome same l a b = cond (alike same a l) b (cond (alike same b l) a (or_else a b))

-- The rows are those of a join: they rise strictly by key, and at each key stands what the join has there.
pub record Joined {K R : Type 0} (order : K → K → Ordering) (key : R → K) (same : R → R → Bool) (base first second rows : List R) : Type 0 where
  pub rising : rises order key rows ≡ true
  pub at : (k : K) → find order key k rows ≡ outcome same (find order key k base) (find order key k first) (find order key k second)
