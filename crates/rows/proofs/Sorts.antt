-- Rows that are put in the order of their keys, and rows that pass a test.
use Rattle.std.proofs.Common.{◌≡◌, suc, Bool, true, false, cond, ◌||◌, ◌⊎◌, List, [], ◌∷◌, length, Some, None, filter, Option, Ordering, Less, Equal, Greater, sym, refl, ap, ◌∙◌, inl, inr}
use Rattle.std.specs.Ordering.{is_eq, is_lt, is_le}
use Rattle.rows.specs.Keys.{Total}
use Rattle.std.specs.List.{list_any}
use Rattle.rows.specs.Rows.{find, over, rises_over, rises}
use Rattle.rows.specs.Sorted.{insert, sorted}
use Rattle.rows.proofs.KeysLemmas as keys
use Rattle.rows.proofs.Finds.{rises_none, rises_first, rises_rest, rises_make, rises_lower, find_none, find_first, find_next, find_below}

or_swap : (a b c : Bool) → (a || (b || c)) ≡ (b || (a || c))
or_swap true true c = refl
or_swap true false c = refl
or_swap false true c = refl
or_swap false false c = refl

-- no two rows have one key
module _ {K R : Type 0} (order : K → K → Ordering) (key : R → K) where
  pub data Apart : List R → Type 0 where
    none : Apart []
    more : {r : R} {xs : List R} → find order key (key r) xs ≡ None → Apart xs → Apart (r ∷ xs)

  insert_length : (r : R) (xs : List R) → length (insert order key r xs) ≡ suc (length xs)
  unfolding insert
  insert_length r [] = refl
  insert_length r (x ∷ xs) = go (is_le (order (key r) (key x))) (insert_length r xs)
    where
      go : (t : Bool) → length (insert order key r xs) ≡ suc (length xs) → length (cond t (r ∷ (x ∷ xs)) (x ∷ insert order key r xs)) ≡ suc (length (x ∷ xs))
      go true ih = refl
      go false ih = ap suc ih

  pub sorted_length : (xs : List R) → length (sorted order key xs) ≡ length xs
  unfolding sorted
  sorted_length [] = refl
  sorted_length (x ∷ xs) = insert_length x (sorted order key xs) ∙ ap suc (sorted_length xs)

  any_insert : (p : R → Bool) (r : R) (xs : List R) → list_any p (insert order key r xs) ≡ (p r || list_any p xs)
  unfolding insert
  any_insert p r [] = refl
  any_insert p r (x ∷ xs) = go (is_le (order (key r) (key x))) (any_insert p r xs)
    where
      go : (t : Bool) → list_any p (insert order key r xs) ≡ (p r || list_any p xs) → list_any p (cond t (r ∷ (x ∷ xs)) (x ∷ insert order key r xs)) ≡ (p r || (p x || list_any p xs))
      go true ih = refl
      go false ih = ap (λ b. p x || b) ih ∙ or_swap (p x) (p r) (list_any p xs)

  pub any_sorted : (p : R → Bool) (xs : List R) → list_any p (sorted order key xs) ≡ list_any p xs
  unfolding sorted
  any_sorted p [] = refl
  any_sorted p (x ∷ xs) = any_insert p x (sorted order key xs) ∙ ap (λ b. p x || b) (any_sorted p xs)

  module _ (total : Total order) where
    find_insert : (k : K) (r : R) (xs : List R) → find order key k (insert order key r xs) ≡ find order key k (r ∷ xs)
    unfolding insert
    find_insert k r [] = refl
    find_insert k r (x ∷ xs) = go (order (key r) (key x)) refl (find_insert k r xs)
      where
        go : (o : Ordering) → order (key r) (key x) ≡ o → find order key k (insert order key r xs) ≡ find order key k (r ∷ xs) →
            find order key k (cond (is_le o) (r ∷ (x ∷ xs)) (x ∷ insert order key r xs)) ≡ find order key k (r ∷ (x ∷ xs))
        go Less e ih = refl
        go Equal e ih = refl
        go Greater e ih = elim (keys.either order total (key x) k) [
          | inl q ↦
              let d : key r ≡ k → ⊥ = λ p. keys.less_apart order total (key x) (key r) (keys.greater_less order total (key r) (key x) e) (q ∙ sym p) in
              find_first order key total k x (insert order key r xs) q ∙ sym (find_next order key total k r (x ∷ xs) d ∙ find_first order key total k x xs q)
          | inr q ↦ find_next order key total k x (insert order key r xs) q ∙ ih ∙ after q (keys.either order total (key r) k)
        ]
          where
            after : (key x ≡ k → ⊥) → (key r ≡ k) ⊎ (key r ≡ k → ⊥) → find order key k (r ∷ xs) ≡ find order key k (r ∷ (x ∷ xs))
            after q (inl p) = find_first order key total k r xs p ∙ sym (find_first order key total k r (x ∷ xs) p)
            after q (inr p) = find_next order key total k r xs p ∙ sym (find_next order key total k r (x ∷ xs) p ∙ find_next order key total k x xs q)

    pub find_sorted : (k : K) (xs : List R) → find order key k (sorted order key xs) ≡ find order key k xs
    unfolding sorted find
    find_sorted k [] = refl
    find_sorted k (x ∷ xs) = find_insert k x (sorted order key xs) ∙ ap (λ (o : Option R). cond (is_eq (order (key x) k)) (Some x) o) (find_sorted k xs)

    missing : (k : K) (x : R) (xs : List R) → find order key k (x ∷ xs) ≡ None → (key x ≡ k → ⊥) × (find order key k xs ≡ None)
    missing k x xs e = elim (keys.either order total (key x) k) [
      | inl q ↦ let z = sym e ∙ find_first order key total k x xs q in (cc, cc)
      | inr q ↦ (q, sym (find_next order key total k x xs q) ∙ e)
    ]

    insert_rises : (m : Option K) (r : R) (xs : List R) → rises_over order key m xs ≡ true → over order m (key r) ≡ true → find order key (key r) xs ≡ None → rises_over order key m (insert order key r xs) ≡ true
    unfolding insert
    insert_rises m r [] e l f = rises_make order key m r [] l (rises_none order key (Some (key r)))
    insert_rises m r (x ∷ xs) e l f = go (order (key r) (key x)) refl (insert_rises (Some (key x)) r xs (rises_rest order key m x xs e))
      where
        go : (o : Ordering) → order (key r) (key x) ≡ o → (over order (Some (key x)) (key r) ≡ true → find order key (key r) xs ≡ None → rises_over order key (Some (key x)) (insert order key r xs) ≡ true) →
            rises_over order key m (cond (is_le o) (r ∷ (x ∷ xs)) (x ∷ insert order key r xs)) ≡ true
        go Less p ih = rises_make order key m r (x ∷ xs) l (rises_make order key (Some (key r)) x xs (ap is_lt p) (rises_rest order key m x xs e))
        go Equal p ih = absurd ((missing (key r) x xs f).0 (sym (total.level (key r) (key x) p)))
        go Greater p ih =
            rises_make order key m x (insert order key r xs) (rises_first order key m x xs e)
            (ih (ap is_lt (keys.greater_less order total (key r) (key x) p)) (missing (key r) x xs f).1)

    -- rows of which no two have one key rise once they are sorted
    pub sorted_rises : {xs : List R} → Apart xs → rises order key (sorted order key xs) ≡ true
    unfolding sorted
    sorted_rises none = rises_none order key None
    sorted_rises (more {r = r} {xs = xs} f a) = insert_rises None r (sorted order key xs) (sorted_rises a) refl (find_sorted (key r) xs ∙ f)

    -- ---- the rows that pass a test
    module _ (p : R → Bool) where
      abbrev pub sift : Option R → Option R
      sift None = None
      sift (Some x) = cond (p x) (Some x) None

      pub rises_kept : (m : Option K) (xs : List R) → rises_over order key m xs ≡ true → rises_over order key m (filter p xs) ≡ true
      rises_kept m [] e = rises_none order key m
      rises_kept m (x ∷ xs) e = go (p x) (rises_kept (Some (key x)) xs (rises_rest order key m x xs e))
        where
          go : (t : Bool) → rises_over order key (Some (key x)) (filter p xs) ≡ true → rises_over order key m (cond t (x ∷ filter p xs) (filter p xs)) ≡ true
          go true ih = rises_make order key m x (filter p xs) (rises_first order key m x xs e) ih
          go false ih = rises_lower order key total m (key x) (filter p xs) (rises_first order key m x xs e) ih

      pub find_kept : (k : K) (m : Option K) (xs : List R) → rises_over order key m xs ≡ true → find order key k (filter p xs) ≡ sift (find order key k xs)
      find_kept k m [] e = find_none order key k ∙ sym (ap sift (find_none order key k))
      find_kept k m (x ∷ xs) e = go (p x) refl (keys.either order total (key x) k) (find_kept k (Some (key x)) xs (rises_rest order key m x xs e))
        where
          go : (t : Bool) → p x ≡ t → (key x ≡ k) ⊎ (key x ≡ k → ⊥) → find order key k (filter p xs) ≡ sift (find order key k xs) →
              find order key k (cond t (x ∷ filter p xs) (filter p xs)) ≡ sift (find order key k (x ∷ xs))
          go true y (inl z) ih =
              find_first order key total k x (filter p xs) z ∙ sym (ap sift (find_first order key total k x xs z) ∙ ap (λ t. cond t (Some x) None) y)
          go true y (inr z) ih = find_next order key total k x (filter p xs) z ∙ ih ∙ ap sift (sym (find_next order key total k x xs z))
          go false y (inl z) ih =
              ih ∙ ap sift (find_below order key total k (key x) xs (rises_rest order key m x xs e) (λ l. keys.less_apart order total (key x) k l z))
              ∙ sym (ap sift (find_first order key total k x xs z) ∙ ap (λ t. cond t (Some x) None) y)
          go false y (inr z) ih = ih ∙ ap sift (sym (find_next order key total k x xs z))
