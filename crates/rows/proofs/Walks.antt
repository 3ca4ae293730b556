-- The walk of a join over three rising lists gives the rows of the join.
use Rattle.std.proofs.Common.{◌≡◌, ℕ, zero, suc, ◌+◌, ◌<◌, ◌≤◌, Bool, true, false, cond, ◌⊎◌, List, [], ◌∷◌, length, Some, None, Option, Ordering, Less, Equal, Greater, sym, refl, ap, ◌∙◌, subst, inl, inr, arith}
use Rattle.std.specs.Ordering.{is_eq, is_lt, is_le}
use Rattle.rows.specs.Keys.{Total}
use Rattle.rows.specs.Rows.{find, over, rises_over, rises, alike, or_else, outcome, Joined}
use Rattle.rows.specs.Walk.{head_key, lower, lowest, at_key, past, put, walk, walked}
use Rattle.rows.proofs.KeysLemmas as keys
use Rattle.rows.proofs.Finds.{rises_none, rises_first, rises_rest, rises_make, rises_lower, find_first, find_next, find_below, rising_same}

module _ {K : Type 0} (order : K → K → Ordering) (total : Total order) where
  -- the key q is not above one that may be there
  abbrev Under : K → Option K → Type 0
  Under q None = Unit {0}
  Under q (Some k) = order k q ≡ Less → ⊥

  -- of two keys that may be there, r is the lower
  abbrev Low : Option K → Option K → Option K → Type 0
  Low a b None = (a ≡ None) × (b ≡ None)
  Low a b (Some q) = Under q a × Under q b × ((a ≡ Some q) ⊎ (b ≡ Some q))

  under_itself : (q : K) → Under q (Some q)
  under_itself q l = keys.less_apart order total q q l refl

  low : (a b : Option K) → Low a b (lower order a b)
  low None None = (refl, refl)
  low None (Some y) = (tt, under_itself y, inr refl)
  low (Some x) None = (under_itself x, tt, inl refl)
  low (Some x) (Some y) = go (order x y) refl
    where
      go : (o : Ordering) → order x y ≡ o → Low (Some x) (Some y) (cond (is_le o) (Some x) (Some y))
      go Less e = (under_itself x, (λ l. keys.less_back order total x y e l), inl refl)
      go Equal e = (under_itself x, (λ l. keys.less_apart order total y x l (sym (total.level x y e))), inl refl)
      go Greater e = ((λ l. cc), under_itself y, inr refl)

  -- and of three
  abbrev Lowest : Option K → Option K → Option K → Option K → Type 0
  Lowest l a b None = (l ≡ None) × (a ≡ None) × (b ≡ None)
  Lowest l a b (Some q) = Under q l × Under q a × Under q b × ((l ≡ Some q) ⊎ ((a ≡ Some q) ⊎ (b ≡ Some q)))

  under_less : (q k : K) (o : Option K) → (order k q ≡ Less → ⊥) → Under k o → Under q o
  under_less q k None h u = tt
  under_less q k (Some x) h u = λ l. u (keys.below_more order total x q k l h)

  under_none : (q : K) (o : Option K) → o ≡ None → Under q o
  under_none q None e = tt
  under_none q (Some x) e = absurd cc

  low_two : (l a b m r : Option K) → Low a b m → Low l m r → Lowest l a b r
  low_two l a b None None u v = (v.0, u.0, u.1)
  low_two l a b (Some k) None u v = let e = v.1 in (cc, cc, cc)
  low_two l a b None (Some q) u v = (v.0, under_none q a u.0, under_none q b u.1, elim v.2 [ inl e ↦ inl e | inr e ↦ absurd cc ])
  low_two l a b (Some k) (Some q) u v = (
    v.0,
    under_less q k a v.1 u.0,
    under_less q k b v.1 u.1,
    elim v.2 [ inl e ↦ inl e | inr e ↦ elim u.2 [ inl f ↦ inr (inl (f ∙ e)) | inr f ↦ inr (inr (f ∙ e)) ] ],
  )

  pub lowest_of : (l a b : Option K) → Lowest l a b (lower order l (lower order a b))
  lowest_of l a b = low_two l a b (lower order a b) (lower order l (lower order a b)) (low a b) (low l (lower order a b))

  module _ {R : Type 0} (key : R → K) where
    -- what stands at the least key, and after it
    find_at : (q : K) (m : Option K) (xs : List R) → rises_over order key m xs ≡ true → Under q (head_key key xs) → find order key q xs ≡ at_key order key q xs
    unfolding find at_key head_key
    find_at q m [] e u = refl
    find_at q m (x ∷ xs) e u =
        ap (λ (o : Option R). cond (is_eq (order (key x) q)) (Some x) o) (find_below order key total q (key x) xs (rises_rest order key m x xs e) u)

    find_past : (k q : K) (xs : List R) → (k ≡ q → ⊥) → find order key k xs ≡ find order key k (past order key q xs)
    unfolding past
    find_past k q [] h = refl
    find_past k q (x ∷ xs) h = go (is_eq (order (key x) q)) refl
      where
        go : (t : Bool) → is_eq (order (key x) q) ≡ t → find order key k (x ∷ xs) ≡ find order key k (cond t xs (x ∷ xs))
        go true e = find_next order key total k x xs (λ (u : key x ≡ k). h (sym u ∙ keys.eq_true order total (key x) q e))
        go false e = refl

    past_rises : (q : K) (m : Option K) (xs : List R) → rises_over order key m xs ≡ true → Under q (head_key key xs) → rises_over order key (Some q) (past order key q xs) ≡ true
    unfolding past head_key
    past_rises q m [] e u = rises_none order key (Some q)
    past_rises q m (x ∷ xs) e u = go (is_eq (order (key x) q)) refl
      where
        go : (t : Bool) → is_eq (order (key x) q) ≡ t → rises_over order key (Some q) (cond t xs (x ∷ xs)) ≡ true
        go true f = subst (λ z. rises_over order key (Some z) xs ≡ true) (keys.eq_true order total (key x) q f) (rises_rest order key m x xs e)
        go false f = rises_make order key (Some q) x xs (ap is_lt (keys.above order total q (key x) u (keys.eq_false order total (key x) q f))) (rises_rest order key m x xs e)

    past_short : (q : K) (xs : List R) → length (past order key q xs) ≤ length xs
    unfolding past
    past_short q [] = omega arith
    past_short q (x ∷ xs) = elim (is_eq (order (key x) q)) as (λ t. length (cond t xs (x ∷ xs)) ≤ length (x ∷ xs)) [ true ↦ omega arith | false ↦ omega arith ]

    past_less : (q : K) (xs : List R) → head_key key xs ≡ Some q → length (past order key q xs) < length xs
    unfolding past head_key
    past_less q [] e = absurd cc
    past_less q (x ∷ xs) e = rw (keys.eq_same order total (key x) q (cc)) (omega arith)

    head_empty : (xs : List R) → head_key key xs ≡ None → xs ≡ []
    unfolding head_key
    head_empty [] e = refl
    head_empty (x ∷ xs) e = cc

    head_over : (m : Option K) (q : K) (xs : List R) → rises_over order key m xs ≡ true → head_key key xs ≡ Some q → over order m q ≡ true
    unfolding head_key
    head_over m q [] e h = absurd cc
    head_over m q (x ∷ xs) e h = subst (λ z. over order m z ≡ true) (cc) (rises_first order key m x xs e)

    -- the row there has the key q
    abbrev Has : K → Option R → Type 0
    Has q None = Unit {0}
    Has q (Some x) = key x ≡ q

    has_at : (q : K) (xs : List R) → Has q (at_key order key q xs)
    unfolding at_key
    has_at q [] = tt
    has_at q (x ∷ xs) = go (is_eq (order (key x) q)) refl
      where
        go : (t : Bool) → is_eq (order (key x) q) ≡ t → Has q (cond t (Some x) None)
        go true e = keys.eq_true order total (key x) q e
        go false e = tt

    has_or : (q : K) (a b : Option R) → Has q a → Has q b → Has q (or_else a b)
    has_or q None b p r = r
    has_or q (Some x) b p r = p

    has_outcome : (same : R → R → Bool) (q : K) (l a b : Option R) → Has q a → Has q b → Has q (outcome same l a b)
    has_outcome same q l a b p r =
        elim (alike same a l) as (λ t. Has q (cond t b (cond (alike same b l) a (or_else a b)))) [
          | true ↦ r
          | false ↦ elim (alike same b l) as (λ t. Has q (cond t a (or_else a b))) [ true ↦ p | false ↦ has_or q a b p r ]
        ]

    put_rises : (m : Option K) (q : K) (o : Option R) (xs : List R) → Has q o → over order m q ≡ true → rises_over order key (Some q) xs ≡ true → rises_over order key m (put o xs) ≡ true
    unfolding put
    put_rises m q None xs h l e = rises_lower order key total m q xs l e
    put_rises m q (Some x) xs h l e =
        rises_make order key m x xs (subst (λ z. over order m z ≡ true) (sym h) l) (subst (λ z. rises_over order key (Some z) xs ≡ true) (sym h) e)

    find_put : (q : K) (o : Option R) (xs : List R) → Has q o → rises_over order key (Some q) xs ≡ true → find order key q (put o xs) ≡ o
    unfolding put
    find_put q None xs h e = find_below order key total q q xs e (under_itself q)
    find_put q (Some x) xs h e = find_first order key total q x xs h

    find_put_other : (k q : K) (o : Option R) (xs : List R) → Has q o → (k ≡ q → ⊥) → find order key k (put o xs) ≡ find order key k xs
    unfolding put
    find_put_other k q None xs h d = refl
    find_put_other k q (Some x) xs h d = find_next order key total k x xs (λ (u : key x ≡ k). d (sym u ∙ h))

    pub step_less : (q : K) (l a b : List R) → lowest order key l a b ≡ Some q →
        length (past order key q l) + (length (past order key q a) + length (past order key q b)) < length l + (length a + length b)
    step_less q l a b e =
        let P : Option K → Type 0 = λ r. Lowest (head_key key l) (head_key key a) (head_key key b) r in
        let w : P (Some q) = subst P e (lowest_of (head_key key l) (head_key key a) (head_key key b)) in
        let x = past_short q l in
        let y = past_short q a in
        let z = past_short q b in
        elim w.3 [
          | inl h ↦ let s = past_less q l h in omega arith
          | inr r ↦ elim r [ inl h ↦ let s = past_less q a h in omega arith | inr h ↦ let s = past_less q b h in omega arith ]
        ]

    module _ (same : R → R → Bool) where
      pub step_is : (q : K) (f : ℕ) (l a b : List R) → lowest order key l a b ≡ Some q →
          length l + (length a + length b) ≤ f →
          (g : ℕ) × (length (past order key q l) + (length (past order key q a) + length (past order key q b)) ≤ g) ×
          (walk order key same f l a b ≡ put (outcome same (at_key order key q l) (at_key order key q a) (at_key order key q b)) (walk order key same g (past order key q l) (past order key q a) (past order key q b)))
      unfolding walk
      step_is q zero l a b e h = let s = step_less q l a b e in absurd (omega arith)
      step_is q (suc f) l a b e h = let s = step_less q l a b e in (f, omega arith, rw (walk, e) refl)

      pub end_is : (f : ℕ) (l a b : List R) → lowest order key l a b ≡ None → walk order key same f l a b ≡ []
      unfolding walk
      end_is zero l a b e = refl
      end_is (suc f) l a b e = rw (walk, e) refl

      -- what one turn gives, by the key that it is at
      turn : ℕ → List R → List R → List R → Option K → List R
      turn f l a b None = []
      turn f l a b (Some q) = put (outcome same (at_key order key q l) (at_key order key q a) (at_key order key q b))
          (walk order key same f (past order key q l) (past order key q a) (past order key q b))

      walk_turn : (f : ℕ) (l a b : List R) → walk order key same (suc f) l a b ≡ turn f l a b (lowest order key l a b)
      unfolding walk turn
      walk_turn f l a b = go (lowest order key l a b)
        where
          go : (o : Option K) → elim o as (λ _. List R) [
            | None ↦ []
            | Some q ↦ put (outcome same (at_key order key q l) (at_key order key q a) (at_key order key q b))
                (walk order key same f (past order key q l) (past order key q a) (past order key q b))
          ] ≡ turn f l a b o
          go None = refl
          go (Some q) = refl

      abbrev Rises-by : ℕ → Type 0
      Rises-by f = (m : Option K) (l a b : List R) → rises_over order key m l ≡ true → rises_over order key m a ≡ true → rises_over order key m b ≡ true → rises_over order key m (walk order key same f l a b) ≡ true

      turn_rises : (f : ℕ) → Rises-by f → (m : Option K) (l a b : List R) → rises_over order key m l ≡ true → rises_over order key m a ≡ true → rises_over order key m b ≡ true →
          (o : Option K) → Lowest (head_key key l) (head_key key a) (head_key key b) o → rises_over order key m (turn f l a b o) ≡ true
      unfolding turn
      turn_rises f ih m l a b p q r None w = rises_none order key m
      turn_rises f ih m l a b p q r (Some k) w =
          let least : over order m k ≡ true = elim w.3 [ inl h ↦ head_over m k l p h | inr u ↦ elim u [ inl h ↦ head_over m k a q h | inr h ↦ head_over m k b r h ] ] in
          put_rises m k _ _ (has_outcome same k (at_key order key k l) (at_key order key k a) (at_key order key k b) (has_at k a) (has_at k b)) least
          (ih (Some k) _ _ _ (past_rises k m l p w.0) (past_rises k m a q w.1) (past_rises k m b r w.2))

      pub walk_rises : (f : ℕ) → Rises-by f
      unfolding walk
      walk_rises zero m l a b p q r = rises_none order key m
      walk_rises (suc f) m l a b p q r =
          subst (λ xs. rises_over order key m xs ≡ true) (sym (walk_turn f l a b))
          (turn_rises f (walk_rises f) m l a b p q r (lowest order key l a b) (lowest_of (head_key key l) (head_key key a) (head_key key b)))

      abbrev Finds-by : ℕ → Type 0
      Finds-by f = (m : Option K) (l a b : List R) → rises_over order key m l ≡ true → rises_over order key m a ≡ true → rises_over order key m b ≡ true →
          length l + (length a + length b) ≤ f → (k : K) → find order key k (walk order key same f l a b) ≡ outcome same (find order key k l) (find order key k a) (find order key k b)

      turn_find : (f : ℕ) → Finds-by f → (m : Option K) (l a b : List R) → rises_over order key m l ≡ true → rises_over order key m a ≡ true → rises_over order key m b ≡ true →
          length l + (length a + length b) ≤ suc f → (k : K) →
          (o : Option K) → lowest order key l a b ≡ o → Lowest (head_key key l) (head_key key a) (head_key key b) o →
          find order key k (turn f l a b o) ≡ outcome same (find order key k l) (find order key k a) (find order key k b)
      unfolding turn find
      turn_find f ih m l a b p q r s k None e w = rw (head_empty l w.0, head_empty a w.1, head_empty b w.2) refl
      turn_find f ih m l a b p q r s k (Some j) e w =
          let less = step_less j l a b e in
          let had = has_outcome same j (at_key order key j l) (at_key order key j a) (at_key order key j b) (has_at j a) (has_at j b) in
          let pl = past_rises j m l p w.0 in
          let pa = past_rises j m a q w.1 in
          let pb = past_rises j m b r w.2 in
          let rest = walk_rises f (Some j) (past order key j l) (past order key j a) (past order key j b) pl pa pb in
          let others : (k ≡ j → ⊥) → find order key k (turn f l a b (Some j)) ≡ outcome same (find order key k l) (find order key k a) (find order key k b)
          = λ d. find_put_other k j (outcome same (at_key order key j l) (at_key order key j a) (at_key order key j b)) (walk order key same f (past order key j l) (past order key j a) (past order key j b)) had d
          ∙ ih (Some j) (past order key j l) (past order key j a) (past order key j b) pl pa pb (omega arith) k
          ∙ sym (λ i. outcome same (find_past k j l d i) (find_past k j a d i) (find_past k j b d i)) in
          let here : find order key j (turn f l a b (Some j)) ≡ outcome same (find order key j l) (find order key j a) (find order key j b)
          = find_put j (outcome same (at_key order key j l) (at_key order key j a) (at_key order key j b)) (walk order key same f (past order key j l) (past order key j a) (past order key j b)) had rest
          ∙ sym (λ i. outcome same (find_at j m l p w.0 i) (find_at j m a q w.1 i) (find_at j m b r w.2 i)) in
          pick (is_eq (order k j)) refl others here
        where
          pick : (t : Bool) → is_eq (order k j) ≡ t →
              ((k ≡ j → ⊥) → find order key k (turn f l a b (Some j)) ≡ outcome same (find order key k l) (find order key k a) (find order key k b)) →
              find order key j (turn f l a b (Some j)) ≡ outcome same (find order key j l) (find order key j a) (find order key j b) →
              find order key k (turn f l a b (Some j)) ≡ outcome same (find order key k l) (find order key k a) (find order key k b)
          pick true c others here =
              subst (λ z. find order key z (turn f l a b (Some j)) ≡ outcome same (find order key z l) (find order key z a) (find order key z b)) (sym (keys.eq_true order total k j c)) here
          pick false c others here = others (keys.eq_false order total k j c)

      pub walk_find : (f : ℕ) → Finds-by f
      unfolding walk find
      walk_find zero m [] [] [] p q r s k = refl
      walk_find zero m [] [] (z ∷ b) p q r s k = absurd (omega arith)
      walk_find zero m [] (y ∷ a) b p q r s k = absurd (omega arith)
      walk_find zero m (x ∷ l) a b p q r s k = absurd (omega arith)
      walk_find (suc f) m l a b p q r s k =
          ap (find order key k) (walk_turn f l a b)
          ∙ turn_find f (walk_find f) m l a b p q r s k (lowest order key l a b) refl (lowest_of (head_key key l) (head_key key a) (head_key key b))

      pub walked_joined : (l a b : List R) → rises order key l ≡ true → rises order key a ≡ true → rises order key b ≡ true → Joined order key same l a b (walked order key same l a b)
      walked_joined l a b p q r = record {
        rising = walk_rises (length l + (length a + length b)) None l a b p q r;
        at = λ k. walk_find (length l + (length a + length b)) None l a b p q r (omega arith) k;
      }

      -- there is one list of the rows of a join
      pub joined_one : (l a b rows others : List R) → Joined order key same l a b rows → Joined order key same l a b others → rows ≡ others
      joined_one l a b rows others j i = rising_same order key total None None rows others j.rising i.rising (λ k. j.at k ∙ sym (i.at k))
