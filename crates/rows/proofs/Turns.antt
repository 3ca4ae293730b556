-- One turn of the join's loop, and its two ends, by what its calls gave.
use Rattle.std.proofs.Common.{◌≡◌, ℕ, ◌+◌, ◌<◌, ◌≤◌, Bool, true, false, cond, leb, List, [], ◌∷◌, ◌++◌, length, take, drop, set, Some, None, Option, Ordering, sym, refl, ap, ◌∙◌, append_assoc, append-nil, arith, length-append, length-set, le-leb, leb-false, leb-true}
use borrow.Author.Tests.{lt-leb}
use Rattle.std.proofs.lemmas.List.{take_more_set, take-append-drop, take_all, take-append-le, take-take, take_at, length-take-le, drop-drop, drop-set-lt}
use Rattle.rows.specs.Keys.{Total}
use Rattle.rows.specs.Rows.{outcome}
use Rattle.rows.specs.Walk.{lowest, at_key, past, put, walk, walked, Added, nothing, full, more, Joins}
use Rattle.rows.proofs.Walks.{step_less, step_is, end_is, walked_joined}

module _ {R : Type 0} where
  put_one : (xs : List R) (n : ℕ) (x : R) (rest : List R) → n < length xs → take (n + 1) (set xs n x) ++ rest ≡ take n xs ++ put (Some x) rest
  unfolding put
  put_one xs n x rest h = ap (λ ys. ys ++ rest) (take_more_set xs n x h) ∙ append_assoc (take n xs) (x ∷ []) rest

  put_none : (rest : List R) → put {R = R} None rest ≡ rest
  unfolding put
  put_none rest = refl

  put_longer : (x : R) (rest : List R) → put (Some x) rest ≡ x ∷ rest
  unfolding put
  put_longer x rest = refl

  -- what a row that was written, or none, adds to those before it
  pub record Grown (start before after : List R) (n n' : ℕ) (row : Option R) : Type 0 where
    pub within : n' ≤ length after
    pub long : length after ≡ length start
    pub untouched : drop n' after ≡ drop n' start
    pub front : (rest : List R) → take n' after ++ rest ≡ take n before ++ put row rest

  pub added_some : (start before after : List R) (n n' : ℕ) (row : Option R) → n ≤ length before → length before ≡ length start → drop n before ≡ drop n start →
      Added before after n row (Some n') → Grown start before after n n' row
  added_some start before after n n' row h s u (nothing p q e) =
      let m : n' ≡ n = cc in
      record {
        within = rw (m, e) h;
        long = ap length e ∙ s;
        untouched = rw (m, e) u;
        front = λ rest. rw (m, e, p) (ap (λ ys. take n before ++ ys) (sym (put_none rest)));
      }
  added_some start before after n n' row h s u (full x p q l e) = cc
  added_some start before after n n' row h s u (more x p q l e) =
      let m : n' ≡ n + 1 = cc in
      let long : length after ≡ length before = ap length e ∙ length-set before n x in
      record {
        within = omega arith;
        long = long ∙ s;
        untouched = rw (m, e) (drop-set-lt (n + 1) before n x (omega arith) ∙ sym (drop-drop 1 n before) ∙ ap (drop 1) u ∙ drop-drop 1 n start);
        front = λ rest. rw (m, e, p) (put_one before n x rest l);
      }

  pub added_none : (before after : List R) (n : ℕ) (row : Option R) → Added before after n row None → (x : R) × (row ≡ Some x) × (length before ≤ n) × (after ≡ before)
  added_none before after n row (nothing p q e) = cc
  added_none before after n row (full x p q l e) = (x, p, l, e)
  added_none before after n row (more x p q l e) = cc

module _ {K R : Type 0} (order : K → K → Ordering) (key : R → K) (same : R → R → Bool) where
  -- The join on its way: the rows written, and those that the walk still gives, are the rows of the whole walk.
  pub record Going (base first second before l a b out : List R) (n : ℕ) : Type 0 where
    pub within : n ≤ length out
    pub long : length out ≡ length before
    pub untouched : drop n out ≡ drop n before
    pub turns : ℕ
    pub enough : length l + (length a + length b) ≤ turns
    pub front : take n out ++ walk order key same turns l a b ≡ walked order key same base first second

  pub going_first : (base first second out : List R) → Going base first second out base first second out 0
  going_first base first second out = record {
    within = omega arith;
    long = refl;
    untouched = refl;
    turns = length base + (length first + length second);
    enough = omega arith;
    front = refl;
  }

module _ {K R : Type 0} (order : K → K → Ordering) (total : Total order) (key : R → K) (same : R → R → Bool) where
  module _ (base first second before : List R) where
    W : List R
    W = walked order key same base first second

    -- all rows are written
    join_done : (out : List R) (n : ℕ) → n ≤ length out → length out ≡ length before → drop n out ≡ drop n before → (rest : List R) → rest ≡ [] →
        take n out ++ rest ≡ walked order key same base first second → Joins order key same base first second before out (Some n)
    unfolding W
    join_done out n h s u rest none e =
        let rows : W ≡ take n out = sym e ∙ ap (λ ys. take n out ++ ys) none ∙ append-nil (take n out) in
        let long : length W ≡ n = ap length rows ∙ length-take-le n out h in
        record {
          count = sym (ap (λ t. cond t (Some (length W)) None) (le-leb (length W) (length before) (omega arith)) ∙ ap Some long);
          written = sym (
              (λ i. take (length before) (rows i ++ drop (long i) before)) ∙ ap (λ ys. take (length before) (take n out ++ ys)) (sym u)
              ∙ ap (take (length before)) (take-append-drop n out) ∙ take_all (length before) out (omega arith));
          rows = walked_joined order total key same base first second;
        }

    -- there is one row more than there are places
    join_full : (out after : List R) (n : ℕ) (x : R) (row : Option R) (now rest : List R) → n ≤ length out → length out ≡ length before → length out ≤ n → after ≡ out →
        row ≡ Some x → now ≡ put row rest → take n out ++ now ≡ walked order key same base first second → Joins order key same base first second before after None
    unfolding W
    join_full out after n x row now rest h s l same_out p t e =
        let all : take n out ≡ out = take_all n out l in
        let rows : W ≡ out ++ (x ∷ rest) = sym e ∙ (λ i. all i ++ (t ∙ ap (λ o. put o rest) p ∙ put_longer x rest) i) in
        let long : length W ≡ length out + length (x ∷ rest) = ap length rows ∙ length-append out (x ∷ rest) in
        let d : List R = drop (length W) before in
        record {
          count = sym (ap (λ t. cond t (Some (length W)) None) (lt-leb (length W) (length before) (omega arith)));
          written = sym (
              ap (λ ys. take (length before) (ys ++ d)) rows ∙ ap (take (length before)) (append_assoc out (x ∷ rest) d)
              ∙ take-append-le (length before) out ((x ∷ rest) ++ d) (omega arith) ∙ take_all (length before) out (omega arith) ∙ sym same_out);
          rows = walked_joined order total key same base first second;
        }

-- one turn of the loop, at the key q
module _ {K R : Type 0} {order : K → K → Ordering} (total : Total order) {key : R → K} {same : R → R → Bool} {base first second before l a b out : List R} {n : ℕ}
    (go : Going order key same base first second before l a b out n) where
  module _ {q : K} (e : Some q ≡ lowest order key l a b) {l' a' b' : List R} (el : l' ≡ past order key q l) (ea : a' ≡ past order key q a) (eb : b' ≡ past order key q b) where
    pub turn_less : length l' + (length a' + length b') < length l + (length a + length b)
    turn_less = rw (el, ea, eb) (step_less order total key q l a b (sym e))

    module _ {rl ra rb row : Option R} (ql : rl ≡ at_key order key q l) (qa : ra ≡ at_key order key q a) (qb : rb ≡ at_key order key q b) (er : row ≡ outcome same rl ra rb) where
      turn_is : (g : ℕ) × (length l' + (length a' + length b') ≤ g) × (walk order key same go.turns l a b ≡ put row (walk order key same g l' a' b'))
      turn_is =
          let s = step_is order total key same q go.turns l a b (sym e) go.enough in (
            s.0,
            rw (el, ea, eb) s.1,
            s.2 ∙ sym (λ i. put ((er ∙ (λ j. outcome same (ql j) (qa j) (qb j))) i) (walk order key same s.0 (el i) (ea i) (eb i))),
          )

      pub going_on : {after : List R} {m : ℕ} → Added out after n row (Some m) → Going order key same base first second before l' a' b' after m
      going_on {after} {m} w =
          let add = added_some before out after n m row go.within go.long go.untouched w in
          let t = turn_is in
          record {
            within = add.within;
            long = add.long;
            untouched = add.untouched;
            turns = t.0;
            enough = t.1;
            front = add.front _ ∙ ap (λ ys. take n out ++ ys) (sym t.2) ∙ go.front;
          }

      -- there is no place for its row
      pub going_full : {after : List R} → Added out after n row None → Joins order key same base first second before after None
      going_full {after} w =
          let add = added_none out after n row w in
          join_full order total key same base first second before out after n add.0 row _ _ go.within go.long add.2 add.3 add.1 turn_is.2 go.front

  -- there is no turn more
  pub going_end : None ≡ lowest order key l a b → Joins order key same base first second before out (Some n)
  going_end e =
      join_done order total key same base first second before out n go.within go.long go.untouched _ (end_is order total key same go.turns l a b (sym e)) go.front

-- ---- what a caller reads off a join's answer
module _ {K R : Type 0} (order : K → K → Ordering) (key : R → K) (same : R → R → Bool) (base first second before after : List R) where
  abbrev rows : List R
  rows = walked order key same base first second

  pub joins_some : (n : ℕ) → Joins order key same base first second before after (Some n) →
      (n ≤ length before) × (take n after ≡ walked order key same base first second)
  joins_some n j = go (leb (length rows) (length before)) refl j.count
    where
      go : (t : Bool) → leb (length rows) (length before) ≡ t → Some n ≡ cond t (Some (length rows)) None → (n ≤ length before) × (take n after ≡ rows)
      go true l e =
          let m : n ≡ length rows = cc in
          let h : length rows ≤ length before = leb-true (length rows) (length before) l in (
            omega arith,
            ap (take n) j.written ∙ take-take n (length before) (rows ++ drop (length rows) before) (omega arith) ∙ take_at rows (drop (length rows) before) n (sym m),
          )
      go false l e = (cc, cc)

  pub joins_none : Joins order key same base first second before after None → length before < length (walked order key same base first second)
  joins_none j = go (leb (length rows) (length before)) refl j.count
    where
      go : (t : Bool) → leb (length rows) (length before) ≡ t → None ≡ cond t (Some (length rows)) None → length before < length rows
      go true l e = absurd cc
      go false l e = leb-false (length rows) (length before) l
