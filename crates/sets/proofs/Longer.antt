-- What a mark and a clear do to the rows, and a merge.
use Rattle.std.proofs.Common.{◌≡◌, ◌<◌, Bool, true, false, cond, not, eqb, ◌⊎◌, List, [], ◌∷◌, ◌++◌, length, Some, None, filter, Option, sym, refl, ap, ◌∙◌, subst, inl, inr, arith, lt-ltb, eq-eqb, eqb-true}
use borrow.Author.Tests.{eqb-false, lt-leb}
use Rattle.std.proofs.lemmas.Bool.{false_from_ne_true, and_parts, and_from, both_ways}
use Rattle.kinds.specs.Events.{Event, Seen, In, pick, common, joined}
use Rattle.kinds.specs.History.{History, Closed, Next}
use Rattle.kinds.proofs.Histories.{coherent, by_last}
use Rattle.rows.specs.Rows.{outcome, Joined}
use Rattle.rows.proofs.KeysLemmas as keys
use Rattle.rows.proofs.Finds.{find_none, find_first, find_next, rising_same, rises_none, rises_make}
use Rattle.rows.proofs.Sorts.{sift, find_kept, rises_kept}
use Rattle.rows.proofs.Walks.{walked_joined, joined_one}
use Rattle.rows.proofs.Listed.{everything, pick_all, before, pick_before}
use Rattle.sets.specs.Set.{object, is_mark, clears, rows, object_set}
use Rattle.sets.specs.Table.{by_object_then_branch, mark_key, same_mark, row_of, table, in_order, join_of}
use Rattle.sets.specs.declared.marks.Mark.{Mark}
use Rattle.sets.specs.declared.marks.MarkKey.{MarkKey}
use Rattle.sets.proofs.Orders.{total_keys}
use Rattle.sets.proofs.Lives.{key_of, at_key, MarksAt, cuts, Live, one_live, found_row, no_row, row_or_none, table_rises}
use Rattle.sets.specs.Fitting.{table_length}
use Rattle.sets.proofs.Sides.{rows_joined}

-- two parts of a history with the same rows at a key
same_at : (w : List Event) → History w → (s t : Seen) (k : MarkKey) → ((f : Event) → Live w s k f → Live w t k f) → ((f : Event) → Live w t k f → Live w s k f) →
    at_key k (table (pick s w)) ≡ at_key k (table (pick t w))
same_at w hist s t k to from =
    elim (row_or_none w hist s k) [
      | inl r ↦ found_row w hist s k r.0 r.1 ∙ sym (found_row w hist t k r.0 (to r.0 r.1))
      | inr n ↦ no_row w hist s k n ∙ sym (no_row w hist t k (λ f l. n f (from f l)))
    ]

put_in : (r : Mark) (b : Option Mark) → outcome same_mark None (Some r) b ≡ Some r
put_in r None = refl
put_in r (Some x) = refl

-- the rows of a history are in order
pub table_in_order : (h : List Event) → History h → in_order (table h) ≡ true
table_in_order h hist = subst (λ x. in_order (table x) ≡ true) (pick_all h) (table_rises h hist everything)

-- what has the rows of a join, in order, is the join
join_is : (a b c rows : List Mark) → in_order a ≡ true → in_order b ≡ true → in_order c ≡ true → Joined by_object_then_branch mark_key same_mark a b c rows → join_of a b c ≡ rows
join_is a b c rows p q r j =
    joined_one by_object_then_branch total_keys mark_key same_mark a b c _ _ (walked_joined by_object_then_branch total_keys mark_key same_mark a b c p q r) j

-- one row is
pub one_row : (r : Mark) → in_order (r ∷ []) ≡ true
one_row r = rises_make by_object_then_branch mark_key None r [] refl (rises_none by_object_then_branch mark_key (Some (mark_key r)))

module _ (h : List Event) (hist : History h) (e : Event) (next : Next h e) where
  w : List Event
  w = h ++ (e ∷ [])

  hist' : History w
  unfolding w
  hist' = coherent.longer h e hist next

  seen_before : (f : Event) → In f h → before e f.number ≡ true
  seen_before f i = lt-ltb _ _ (next.above f i)

  whole : pick everything w ≡ w
  whole = pick_all w

  part : pick (before e) w ≡ h
  unfolding w
  part = pick_before e h next.above

  -- an event is one of those before, or the new one
  split : (f : Event) → In f w → In f h ⊎ (f ≡ e)
  unfolding w
  split f i = by_last (λ g. In g h ⊎ (g ≡ e)) h e (λ g j. inl j) (inr refl) f i

  newest : In e w
  unfolding w
  newest = last h
    where
      last : (xs : List Event) → In e (xs ++ (e ∷ []))
      last [] = In.here
      last (x ∷ xs) = In.there (last xs)

  -- a row of the whole that is not the new event was one before
  earlier_row : (k : MarkKey) (f : Event) → In f h → Live w everything k f → Live w (before e) k f
  earlier_row k f i l = record {
    inside = l.inside;
    seen = seen_before f i;
    mark = l.mark;
    last = λ g j s m. l.last g j refl m;
    uncut = λ g j s. l.uncut g j refl;
  }

  -- and the other way round, where the new event neither marks the key nor cuts the row
  later_row : (k : MarkKey) (f : Event) → (MarksAt k e → ⊥) → cuts e f ≡ false → Live w (before e) k f → Live w everything k f
  later_row k f nm nc l = record {
    inside = l.inside;
    seen = refl;
    mark = l.mark;
    last = λ g j s m. elim (split g j) [ inl i ↦ l.last g j (seen_before g i) m | inr q ↦ absurd (nm (subst (MarksAt k) q m)) ];
    uncut = λ g j s. elim (split g j) [ inl i ↦ l.uncut g j (seen_before g i) | inr q ↦ ap (λ z. cuts z f) q ∙ nc ];
  }

  module _ (mark : is_mark e ≡ true) where
    new_row : Live w everything (key_of e) e
    new_row = record {
      inside = newest;
      seen = refl;
      mark = record { verb = mark; key = refl };
      last = λ g j s m. elim (split g j) [ inl i ↦ let a = next.above g i in omega arith | inr q ↦ let a : g.number ≡ e.number = ap (λ z. z.number) q in omega arith ];
      uncut = λ g j s. false_from_ne_true (cuts g e) (λ y.
          let n = hist'.earlier g e.number j (and_parts (clears (object e) g) (g.saw e.number) y).1 in
          elim (split g j) [ inl i ↦ let a = next.above g i in omega arith | inr q ↦ let a : g.number ≡ e.number = ap (λ z. z.number) q in omega arith ]);
    }

    no_clear : (f : Event) → cuts e f ≡ false
    no_clear f = false_from_ne_true (cuts e f) (λ y.
        let a = and_parts (clears (object f) e) (e.saw f.number) y in
        let b = eqb-true _ _ (and_parts (eqb e.change.verb 2) (eqb (object e) (object f)) a.0).0 in
        let c = eqb-true _ _ mark in
        omega arith)

    marked_at : (k : MarkKey) → at_key k (table (pick everything w)) ≡ outcome same_mark None (at_key k (row_of e ∷ [])) (at_key k (table (pick (before e) w)))
    marked_at k =
        elim (keys.either by_object_then_branch total_keys (key_of e) k) [
          | inl q ↦
              found_row w hist' everything k e (subst (λ z. Live w everything z e) q new_row)
              ∙ sym (ap (λ o. outcome same_mark None o (at_key k (table (pick (before e) w)))) (find_first by_object_then_branch mark_key total_keys k (row_of e) [] q) ∙ put_in (row_of e) _)
          | inr q ↦
              same_at w hist' everything (before e) k
              (λ f l. elim (split f l.inside) [ inl i ↦ earlier_row k f i l | inr z ↦ absurd (q (sym (ap key_of z) ∙ l.mark.key)) ])
              (λ f l. later_row k f (λ m. q m.key) (no_clear f) l)
              ∙ sym (ap (λ o. outcome same_mark None o (at_key k (table (pick (before e) w))))
              (find_next by_object_then_branch mark_key total_keys k (row_of e) [] q ∙ find_none by_object_then_branch mark_key k))
        ]

    marked_joined : Joined by_object_then_branch mark_key same_mark [] (row_of e ∷ []) (table h) (table (h ++ (e ∷ [])))
    unfolding w
    marked_joined = record {
      rising = table_in_order w hist';
      at = λ k.
          ap (λ x. at_key k (table x)) (sym whole) ∙ marked_at k ∙ ap (λ x. outcome same_mark None (at_key k (row_of e ∷ [])) (at_key k (table x))) part
          ∙ ap (λ o. outcome same_mark o (at_key k (row_of e ∷ [])) (at_key k (table h))) (sym (find_none by_object_then_branch mark_key k));
    }

    -- a mark joins its row to those before
    pub marked_table : join_of [] (row_of e ∷ []) (table h) ≡ table (h ++ (e ∷ []))
    marked_table =
        join_is [] (row_of e ∷ []) (table h) _ (rises_none by_object_then_branch mark_key None) (one_row (row_of e)) (table_in_order h hist) marked_joined

  module _ (clear : eqb e.change.verb 2 ≡ true) where
    abbrev others : Mark → Bool
    others x = not (eqb x.object (object e))

    no_mark : (k : MarkKey) → MarksAt k e → ⊥
    no_mark k m = let a = eqb-true _ _ m.verb in let b = eqb-true _ _ clear in omega arith

    still : (k : MarkKey) (f : Event) → Live w everything k f → Live w (before e) k f
    still k f l = elim (split f l.inside) [ inl i ↦ earlier_row k f i l | inr z ↦ absurd (no_mark k (subst (MarksAt k) z l.mark)) ]

    cleared_at : (k : MarkKey) → at_key k (table (pick everything w)) ≡ sift by_object_then_branch mark_key total_keys others (at_key k (table (pick (before e) w)))
    cleared_at k =
        elim (row_or_none w hist' (before e) k) [
          | inr n ↦ no_row w hist' everything k (λ f l. n f (still k f l)) ∙ sym (ap (sift by_object_then_branch mark_key total_keys others) (no_row w hist' (before e) k n))
          | inl r ↦
              go r.0 r.1 (eqb (object r.0) (object e)) refl
              ∙ sym (ap (sift by_object_then_branch mark_key total_keys others) (found_row w hist' (before e) k r.0 r.1))
        ]
      where
        go : (f : Event) → Live w (before e) k f → (t : Bool) → eqb (object f) (object e) ≡ t → at_key k (table (pick everything w)) ≡ sift by_object_then_branch mark_key total_keys others (Some (row_of f))
        go f l true q =
            no_row w hist' everything k (λ g m.
            let s : g ≡ f = one_live w hist' (before e) k g f (still k g m) l in
            let o : object f ≡ object e = eqb-true (object f) (object e) q in
            let z : object e ≡ object g = sym o ∙ ap object (sym s) in
            let i : In g h = elim (split g m.inside) [ inl i ↦ i | inr c ↦ absurd (no_mark k (subst (MarksAt k) c m.mark)) ] in
            both_ways (cuts e g) (m.uncut e newest refl)
            (and_from (clears (object g) e) (e.saw g.number) (and_from (eqb e.change.verb 2) (eqb (object e) (object g)) clear (eq-eqb _ _ z)) (next.all g i)))
            ∙ sym (ap {B = Option Mark} (λ t. cond (not t) (Some (row_of f)) None) q)
        go f l false q =
            found_row w hist' everything k f (later_row k f (no_mark k) (false_from_ne_true (cuts e f) (λ y.
            let a = and_parts (clears (object f) e) (e.saw f.number) y in
            let b = eqb-true (object e) (object f) (and_parts (eqb e.change.verb 2) (eqb (object e) (object f)) a.0).1 in
            eqb-false (object f) (object e) q (sym b))) l)
            ∙ sym (ap {B = Option Mark} (λ t. cond (not t) (Some (row_of f)) None) q)

    -- a clear takes away the rows of its object
    pub cleared_table : filter (λ (x : Mark). not (eqb x.object (object e))) (table h) ≡ table (h ++ (e ∷ []))
    unfolding w
    cleared_table =
        let rise : in_order (table (pick (before e) w)) ≡ true = table_rises w hist' (before e) in
        sym (ap table (sym whole)
        ∙ rising_same by_object_then_branch mark_key total_keys None None (table (pick everything w)) (filter others (table (pick (before e) w))) (table_rises w hist' everything)
        (rises_kept by_object_then_branch mark_key total_keys others None (table (pick (before e) w)) rise)
        (λ k. cleared_at k ∙ sym (find_kept by_object_then_branch mark_key total_keys others k None (table (pick (before e) w)) rise))
        ∙ ap (λ x. filter others (table x)) part)

-- a merge joins the rows of its sides
pub merged_table : (w : List Event) → History w → (a b : Seen) → Closed a w → Closed b w →
    join_of (table (pick (common a b) w)) (table (pick a w)) (table (pick b w)) ≡ table (pick (joined a b) w)
merged_table w hist a b ca cb =
    join_is (table (pick (common a b) w)) (table (pick a w)) (table (pick b w)) _ (table_rises w hist (common a b)) (table_rises w hist a) (table_rises w hist b) (rows_joined w hist a b ca cb)

-- rows that are too many are those of a history that doesn't fit
pub too_many : (h : List Event) (xs : List Mark) → xs ≡ table h → 96 < length xs → object_set.fits h ≡ false
too_many h xs e l =
    let m = ap length e in
    let t = table_length h in
    lt-leb (length (rows h)) 96 (omega arith)
