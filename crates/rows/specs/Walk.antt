-- A join as one walk over three lists of rows, whether or not they rise, and what it leaves where it writes.
use Rattle.std.specs.Prelude.{◌≡◌, ℕ, zero, suc, ◌+◌, ◌<◌, ◌≤◌, Bool, true, cond, List, [], ◌∷◌, ◌++◌, length, take, drop, Some, None, Option, nat_le, slice_set}
use Rattle.std.specs.declared.cmp.Ordering.{Ordering}
use Rattle.std.specs.Ordering.{is_eq, is_le}
use Rattle.rows.specs.Rows.{rises, outcome, Joined}

-- the key of the first row, if there is one
unfoldable pub head_key : {K R : Type 0} → (R → K) → List R → Option K
head_key key [] = None
head_key key (x ∷ xs) = Some (key x)

-- the lower of two keys, where there are keys
abbrev pub lower : {K : Type 0} → (K → K → Ordering) → Option K → Option K → Option K
lower order None b = b
lower order (Some m) None = Some m
lower order (Some m) (Some n) = cond (is_le (order m n)) (Some m) (Some n)

-- the lowest key that one of three lists of rows begins with
abbrev pub lowest : {K R : Type 0} → (K → K → Ordering) → (R → K) → List R → List R → List R → Option K
lowest order key l a b = lower order (head_key key l) (lower order (head_key key a) (head_key key b))

-- the first row, where it has the key k
unfoldable pub at_key : {K R : Type 0} → (K → K → Ordering) → (R → K) → K → List R → Option R
at_key order key k [] = None
at_key order key k (x ∷ xs) = cond (is_eq (order (key x) k)) (Some x) None

-- the rows after that one
unfoldable pub past : {K R : Type 0} → (K → K → Ordering) → (R → K) → K → List R → List R
past order key k [] = []
past order key k (x ∷ xs) = cond (is_eq (order (key x) k)) xs (x ∷ xs)

-- a row, where there is one, before others
unfoldable pub put : {R : Type 0} → Option R → List R → List R
put None xs = xs
put (Some x) xs = x ∷ xs

-- so many turns of the walk: each is at the lowest key that a list begins with
unfoldable pub walk : {K R : Type 0} → (K → K → Ordering) → (R → K) → (R → R → Bool) → ℕ → List R → List R → List R → List R
walk order key same zero l a b = []
walk order key same (suc n) l a b =
    elim (lowest order key l a b) [
      | None ↦ []
      | Some q ↦ put (outcome same (at_key order key q l) (at_key order key q a) (at_key order key q b))
          (walk order key same n (past order key q l) (past order key q a) (past order key q b))
    ]

-- the whole walk, which passes a row at each turn
abbrev pub walked : {K R : Type 0} → (K → K → Ordering) → (R → K) → (R → R → Bool) → List R → List R → List R → List R
walked order key same l a b = walk order key same (length l + (length a + length b)) l a b

-- What is there after a row, if there is one, was to be written after the first n of `before`: r is how many rows there are now, or
-- that there was no place.
pub data Added {R : Type 0} (before after : List R) (n : ℕ) (row : Option R) (r : Option ℕ) : Type 0 where
  nothing : row ≡ None → r ≡ Some n → after ≡ before → Added before after n row r
  full : (x : R) → row ≡ Some x → r ≡ None → length before ≤ n → after ≡ before → Added before after n row r
  more : (x : R) → row ≡ Some x → r ≡ Some (n + 1) → n < length before → after ≡ slice_set before n x → Added before after n row r

-- What a join answers, and what it leaves in the memory that held `before`.
pub record Joins {K R : Type 0} (order : K → K → Ordering) (key : R → K) (same : R → R → Bool) (base first second before after : List R) (r : Option ℕ) : Type 0 where
  -- it says how many rows there are, or that there are more than there are places
  pub count : r ≡ cond (nat_le (length (walked order key same base first second)) (length before)) (Some (length (walked order key same base first second))) None
  -- the rows are written as far as there are places, and nothing is written past them
  pub written : after ≡ take (length before) (walked order key same base first second ++ drop (length (walked order key same base first second)) before)
  -- where the three rise strictly by key, the rows are those of the join
  pub rows : rises order key base ≡ true → rises order key first ≡ true → rises order key second ≡ true → Joined order key same base first second (walked order key same base first second)
