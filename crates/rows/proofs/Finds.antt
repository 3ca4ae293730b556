-- Rows that rise by key, and the row at a key.
use Rattle.std.proofs.Common.{◌≡◌, ℕ, zero, suc, ◌<◌, length, get_or, Bool, true, false, ◌&&◌, ◌⊎◌, List, [], ◌∷◌, Some, None, Option, Ordering, Less, sym, refl, ap, ◌∙◌, subst, inl, inr, arith}
use Rattle.std.proofs.lemmas.Bool.{and_parts, and_from}
use Rattle.std.specs.Ordering.{is_lt}
use Rattle.std.specs.List.{IsAllAdjacentAnswer}
use Rattle.std.proofs.Math.Bool.{and-false}
use Rattle.std.proofs.Math.Numerals.{add-one}
use Rattle.rows.specs.Keys.{Total}
use Rattle.rows.specs.Rows.{find, over, rises_over, rises}
use Rattle.rows.proofs.KeysLemmas as keys

module _ {K R : Type 0} (order : K → K → Ordering) (key : R → K) where
  pub rises_none : (m : Option K) → rises_over order key m [] ≡ true
  unfolding rises_over
  rises_none m = refl

  pub rises_first : (m : Option K) (x : R) (xs : List R) → rises_over order key m (x ∷ xs) ≡ true → over order m (key x) ≡ true
  unfolding rises_over
  rises_first m x xs e = (and_parts _ _ e).0

  pub rises_rest : (m : Option K) (x : R) (xs : List R) → rises_over order key m (x ∷ xs) ≡ true → rises_over order key (Some (key x)) xs ≡ true
  unfolding rises_over
  rises_rest m x xs e = (and_parts _ _ e).1

  pub rises_make : (m : Option K) (x : R) (xs : List R) → over order m (key x) ≡ true → rises_over order key (Some (key x)) xs ≡ true → rises_over order key m (x ∷ xs) ≡ true
  unfolding rises_over
  rises_make m x xs h e = and_from _ _ h e

  -- rows rise where each key is below the next
  each_below : (m : Option K) (xs : List R) → ((d : R) → 0 < length xs → over order m (key (get_or xs 0 d)) ≡ true) →
      ((k : ℕ) (d : R) → suc k < length xs → is_lt (order (key (get_or xs k d)) (key (get_or xs (suc k) d))) ≡ true) → rises_over order key m xs ≡ true
  each_below m [] h a = rises_none m
  each_below m (x ∷ xs) h a = rises_make m x xs (h x (omega arith)) (each_below (Some (key x)) xs (λ d l. a 0 d (omega arith)) (λ k d l. a (suc k) d (omega arith)))

  -- and do not where one is not
  one_above : (m : Option K) (xs : List R) (k : ℕ) → suc k < length xs →
      ((d : R) → is_lt (order (key (get_or xs k d)) (key (get_or xs (suc k) d))) ≡ false) → rises_over order key m xs ≡ false
  unfolding rises_over
  one_above m [] k l a = absurd (omega arith)
  one_above m (x ∷ []) k l a = absurd (omega arith)
  one_above m (x ∷ (y ∷ ys)) zero l a = ap (λ t. over order m (key x) && (t && rises_over order key (Some (key y)) ys)) (a x) ∙ and-false (over order m (key x))
  one_above m (x ∷ (y ∷ ys)) (suc k) l a = ap (λ t. over order m (key x) && t) (one_above (Some (key x)) (y ∷ ys) k (omega arith) a) ∙ and-false (over order m (key x))

  -- the answer of a test of all neighbours
  pub rises_answer : (xs : List R) (r : Bool) → IsAllAdjacentAnswer (λ x y b. b ≡ is_lt (order (key x) (key y))) xs r → r ≡ rises order key xs
  rises_answer xs true a = sym (each_below None xs (λ d l. refl) (λ k d l. sym (rw add-one at (a k d (omega arith)))))
  rises_answer xs false a = sym (one_above None xs a.0 (omega arith) (λ d. sym (rw add-one at (a.2 d))))

  pub find_none : (k : K) → find order key k [] ≡ None
  unfolding find
  find_none k = refl

  module _ (total : Total order) where
    pub less_over : (m : Option K) (q k : K) → over order m q ≡ true → order q k ≡ Less → over order m k ≡ true
    less_over None q k h l = refl
    less_over (Some p) q k h l = ap is_lt (total.through p q k (keys.is_less (order p q) h) l)

    -- a lower bound, or none at all
    pub rises_lower : (m : Option K) (q : K) (xs : List R) → over order m q ≡ true → rises_over order key (Some q) xs ≡ true → rises_over order key m xs ≡ true
    rises_lower m q [] h e = rises_none m
    rises_lower m q (x ∷ xs) h e =
        rises_make m x xs (less_over m q (key x) h (keys.is_less (order q (key x)) (rises_first (Some q) x xs e))) (rises_rest (Some q) x xs e)

    pub find_here : (x : R) (xs : List R) → find order key (key x) (x ∷ xs) ≡ Some x
    unfolding find
    find_here x xs = rw (keys.eq_here order total (key x)) refl

    pub find_first : (k : K) (x : R) (xs : List R) → key x ≡ k → find order key k (x ∷ xs) ≡ Some x
    find_first k x xs e = subst (λ z. find order key z (x ∷ xs) ≡ Some x) e (find_here x xs)

    pub find_next : (k : K) (x : R) (xs : List R) → (key x ≡ k → ⊥) → find order key k (x ∷ xs) ≡ find order key k xs
    unfolding find
    find_next k x xs h = rw (keys.ne_false order total (key x) k h) refl

    -- nothing stands at a key that is not above the bound
    pub find_below : (k m : K) (xs : List R) → rises_over order key (Some m) xs ≡ true → (order m k ≡ Less → ⊥) → find order key k xs ≡ None
    find_below k m [] e h = find_none k
    find_below k m (x ∷ xs) e h =
        let p : order m (key x) ≡ Less = keys.is_less (order m (key x)) (rises_first (Some m) x xs e) in
        find_next k x xs (λ (q : key x ≡ k). h (subst (λ z. order m z ≡ Less) q p))
        ∙ find_below k (key x) xs (rises_rest (Some m) x xs e) (λ l. h (total.through m (key x) k p l))

    -- two rising lists with the same row at each key are one
    pub rising_same : (m n : Option K) (xs ys : List R) → rises_over order key m xs ≡ true → rises_over order key n ys ≡ true → ((k : K) → find order key k xs ≡ find order key k ys) → xs ≡ ys
    rising_same m n [] [] e f h = refl
    rising_same m n [] (y ∷ ys) e f h = let z = sym (find_none (key y)) ∙ h (key y) ∙ find_here y ys in cc
    rising_same m n (x ∷ xs) [] e f h = let z = sym (find_none (key x)) ∙ sym (h (key x)) ∙ find_here x xs in cc
    rising_same m n (x ∷ xs) (y ∷ ys) e f h =
        go (rising_same (Some (key x)) (Some (key y)) xs ys (rises_rest m x xs e) (rises_rest n y ys f)) (keys.three order total (key x) (key y))
      where
        missing : (a : R) (b : R) (bs : List R) → rises_over order key (Some (key b)) bs ≡ true → order (key a) (key b) ≡ Less → find order key (key a) (b ∷ bs) ≡ None
        missing a b bs r l =
            find_next (key a) b bs (λ (q : key b ≡ key a). keys.less_apart order total (key a) (key b) l (sym q))
            ∙ find_below (key a) (key b) bs r (λ z. keys.less_back order total (key a) (key b) l z)

        each : key x ≡ key y → (k : K) → find order key k xs ≡ find order key k ys
        each c k = keys.by_order (order (key x) k)
            (λ l. let d : key x ≡ k → ⊥ = keys.less_apart order total (key x) k l in
            sym (find_next k x xs d) ∙ h k ∙ find_next k y ys (λ (z : key y ≡ k). d (c ∙ z)))
            (λ l. at (λ (z : order (key x) k ≡ Less). cc))
            (λ l. at (λ (z : order (key x) k ≡ Less). cc))
          where
            at : (order (key x) k ≡ Less → ⊥) → find order key k xs ≡ find order key k ys
            at u = find_below k (key x) xs (rises_rest m x xs e) u
                ∙ sym (find_below k (key y) ys (rises_rest n y ys f) (λ z. u (subst (λ v. order v k ≡ Less) (sym c) z)))

        go : (((k : K) → find order key k xs ≡ find order key k ys) → xs ≡ ys) → (order (key x) (key y) ≡ Less) ⊎ ((key x ≡ key y) ⊎ (order (key y) (key x) ≡ Less)) → x ∷ xs ≡ y ∷ ys
        go rest (inl l) = let z = sym (missing x y ys (rises_rest n y ys f) l) ∙ sym (h (key x)) ∙ find_here x xs in cc
        go rest (inr (inl c)) =
            let z = sym (find_here x xs) ∙ h (key x) ∙ find_first (key x) y ys (sym c) in
            let one : x ≡ y = cc in
            rw (one, rest (each c)) refl
        go rest (inr (inr l)) = let z = sym (missing y x xs (rises_rest m x xs e) l) ∙ h (key y) ∙ find_here y ys in cc
