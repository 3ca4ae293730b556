-- The join of the rows of two parts of a history is the rows of both parts together.
use Rattle.std.proofs.Common.{◌≡◌, ℕ, Bool, true, false, not, ◌&&◌, eqb, ◌⊎◌, List, Some, None, Option, sym, refl, ap, ◌∙◌, subst, inl, inr, arith, eqb-true}
use Rattle.std.proofs.Math.Logic.{⊎_swap}
use Rattle.std.specs.List.{list_any}
use borrow.Author.Tests.{eqb-false, not-true, clash}
use Rattle.std.proofs.lemmas.Bool.{false_from_ne_true, and_parts, and_from, both_ways, cases_Bool, cases_order, or_cases, or_left, or_right}
use Rattle.std.specs.Ordering.{is_eq}
use Rattle.kinds.specs.Events.{Event, Seen, In, pick, common, joined}
use Rattle.kinds.specs.History.{History, Closed}
use Rattle.rows.specs.Rows.{alike, or_else, outcome, Joined}
use Rattle.rows.proofs.Listed.{any_some, any_none, one_number}
use Rattle.sets.specs.Set.{object, clears}
use Rattle.sets.specs.Table.{by_object_then_branch, mark_key, same_mark, row_of, table}
use Rattle.sets.specs.declared.marks.Mark.{Mark}
use Rattle.sets.specs.declared.marks.MarkKey.{MarkKey}
use Rattle.sets.proofs.Orders.{same_true, same_itself, other_event, key_from_level, level_from_key}
use Rattle.sets.proofs.Lives.{key_of, at_key, MarksAt, cuts, Live, key_same, one_live, found_row, no_row, row_or_none, table_rises}

-- how the four rows at a key can lie, where the first part has no mark there that the second lacks
data Side (l a b j : Option Mark) : Type 0 where
  kept : alike same_mark a l ≡ true → j ≡ b → Side l a b j
  gone : a ≡ None → alike same_mark a l ≡ false → alike same_mark b l ≡ true → j ≡ None → Side l a b j
  new : a ≡ None → alike same_mark a l ≡ false → alike same_mark b l ≡ false → j ≡ b → Side l a b j

alike_true : (x y : Option Mark) → alike same_mark x y ≡ true → x ≡ y
alike_true None None e = refl
alike_true None (Some y) e = absurd (clash e)
alike_true (Some x) None e = absurd (clash e)
alike_true (Some x) (Some y) e = ap Some (same_true x y e)

alike_refl : (x : Option Mark) → alike same_mark x x ≡ true
alike_refl None = refl
alike_refl (Some x) = same_itself x

alike_eq : (x y : Option Mark) → x ≡ y → alike same_mark x y ≡ true
alike_eq x y e = subst (λ z. alike same_mark x z ≡ true) e (alike_refl x)

or_none : (b : Option Mark) → or_else b None ≡ b
or_none None = refl
or_none (Some x) = refl

from_side : (l a b j : Option Mark) → Side l a b j → j ≡ outcome same_mark l a b
from_side l a b j (kept p e) = rw p e
from_side l a b j (gone n p q e) = rw (p, q) (e ∙ sym n)
from_side l a b j (new n p q e) = rw (p, q, n) e

from_side_swapped : (l a b j : Option Mark) → Side l a b j → j ≡ outcome same_mark l b a
from_side_swapped l a b j (kept p e) =
    elim (cases_Bool (alike same_mark b l)) [
      | inl q ↦ rw q (e ∙ alike_true b l q ∙ sym (alike_true a l p))
      | inr q ↦ rw (q, p) e
    ]
from_side_swapped l a b j (gone n p q e) = rw q (e ∙ sym n)
from_side_swapped l a b j (new n p q e) = rw (q, p) (e ∙ sym (or_none b) ∙ ap (or_else b) (sym n))

module _ (w : List Event) (hist : History w) (l a b j : Seen)
    (la : (n : ℕ) → l n ≡ true → a n ≡ true) (lb : (n : ℕ) → l n ≡ true → b n ≡ true) (both : (n : ℕ) → a n ≡ true → b n ≡ true → l n ≡ true)
    (aj : (n : ℕ) → a n ≡ true → j n ≡ true) (bj : (n : ℕ) → b n ≡ true → j n ≡ true) (either : (n : ℕ) → j n ≡ true → (a n ≡ true) ⊎ (b n ≡ true))
    (closed : Closed a w) (k : MarkKey) (within : (e : Event) → In e w → MarksAt k e → a e.number ≡ true → b e.number ≡ true) where
  abbrev at : Seen → Option Mark
  at s = at_key k (table (pick s w))

  -- a clear of the first part cuts only what is in the first part
  cut_in : (c e : Event) → In c w → a c.number ≡ true → cuts c e ≡ true → a e.number ≡ true
  cut_in c e i s y = closed c e.number i s (and_parts (clears (object e) c) (c.saw e.number) y).1

  mark_in_b : (e : Event) → In e w → MarksAt k e → j e.number ≡ true → b e.number ≡ true
  mark_in_b e i m s = elim (either e.number s) [ inl x ↦ within e i m x | inr x ↦ x ]

  -- what is a row of both together is one of the second part
  down : (e : Event) → Live w j k e → Live w b k e
  down e r = record {
    inside = r.inside;
    seen = mark_in_b e r.inside r.mark r.seen;
    mark = r.mark;
    last = λ f i s m. r.last f i (bj _ s) m;
    uncut = λ f i s. r.uncut f i (bj _ s);
  }

  -- and a row of the second part is one of both, unless the first part cut it
  up : (e : Event) → Live w b k e → ((c : Event) → In c w → a c.number ≡ true → a e.number ≡ true → cuts c e ≡ true → ⊥) → Live w j k e
  up e r u = record {
    inside = r.inside;
    seen = bj _ r.seen;
    mark = r.mark;
    last = λ f i s m. r.last f i (mark_in_b f i m s) m;
    uncut = λ c i s. elim (either c.number s) [
      | inl x ↦ false_from_ne_true (cuts c e) (λ y. u c i x (cut_in c e i x y) y)
      | inr x ↦ r.uncut c i x
    ];
  }

  first_common : (e : Event) → Live w a k e → Live w l k e
  first_common e r = record {
    inside = r.inside;
    seen = both _ r.seen (within e r.inside r.mark r.seen);
    mark = r.mark;
    last = λ f i s m. r.last f i (la _ s) m;
    uncut = λ c i s. r.uncut c i (la _ s);
  }

  -- the two parts' rows together, where nothing of the second's is cut by the first
  as_second : ((e : Event) → Live w b k e → (c : Event) → In c w → a c.number ≡ true → a e.number ≡ true → cuts c e ≡ true → ⊥) → at j ≡ at b
  as_second u =
      elim (row_or_none w hist b k) [
        | inl r ↦ found_row w hist j k r.0 (up r.0 r.1 (u r.0 r.1)) ∙ sym (found_row w hist b k r.0 r.1)
        | inr n ↦ no_row w hist j k (λ e x. n e (down e x)) ∙ sym (no_row w hist b k n)
      ]

  side : Side (at l) (at a) (at b) (at j)
  side =
      elim (row_or_none w hist a k) [
        | inl r ↦
            let e = r.0 in
            let x = r.1 in
            kept (alike_eq (at a) (at l) (found_row w hist a k e x ∙ sym (found_row w hist l k e (first_common e x))))
            (as_second (λ f y c i s t z.
            let p = x.last f y.inside t y.mark in
            let q = y.last e x.inside (within e x.inside x.mark x.seen) x.mark in
            let o : f ≡ e = one_number hist.rising f e y.inside x.inside (omega arith) in
            both_ways (cuts c e) (x.uncut c i s) (ap (cuts c) (sym o) ∙ z)))
        | inr n ↦ elim (row_or_none w hist l k) [
          | inr m ↦
              kept (alike_eq (at a) (at l) (no_row w hist a k n ∙ sym (no_row w hist l k m)))
              (as_second (λ f y c i s t z. m f (record {
                inside = y.inside;
                seen = both _ t y.seen;
                mark = y.mark;
                last = λ g u v h. y.last g u (lb _ v) h;
                uncut = λ g u v. y.uncut g u (lb _ v);
              })))
          | inl r ↦ cut_case n r.0 r.1 (row_or_none w hist b k)
        ]
      ]
    where
      cut_case : ((e : Event) → Live w a k e → ⊥) → (e : Event) → Live w l k e → ((f : Event) × Live w b k f) ⊎ ((f : Event) → Live w b k f → ⊥) → Side (at l) (at a) (at b) (at j)
      cut_case n e x (inr m) =
          new (no_row w hist a k n) (rw (no_row w hist a k n, found_row w hist l k e x) refl) (rw (no_row w hist b k m, found_row w hist l k e x) refl)
          (no_row w hist j k (λ f y. m f (down f y)) ∙ sym (no_row w hist b k m))
      cut_case n e x (inl r) =
          elim (cases_Bool (eqb r.0.number e.number)) [
            | inl q ↦
                let o : r.0 ≡ e = one_number hist.rising r.0 e r.1.inside x.inside (eqb-true _ _ q) in
                gone (no_row w hist a k n) (rw (no_row w hist a k n, found_row w hist l k e x) refl)
                (alike_eq (at b) (at l) (found_row w hist b k r.0 r.1 ∙ ap (λ z. Some (row_of z)) o ∙ sym (found_row w hist l k e x)))
                (no_row w hist j k (λ f y.
                let s : f ≡ e = one_live w hist b k f r.0 (down f y) r.1 ∙ o in
                n f (record {
                  inside = y.inside;
                  seen = subst (λ z. a z.number ≡ true) (sym s) (la _ x.seen);
                  mark = y.mark;
                  last = λ g u v h. y.last g u (aj _ v) h;
                  uncut = λ g u v. y.uncut g u (aj _ v);
                })))
            | inr q ↦
                new (no_row w hist a k n) (rw (no_row w hist a k n, found_row w hist l k e x) refl)
                (rw (found_row w hist b k r.0 r.1, found_row w hist l k e x) (other_event (row_of r.0) (row_of e) q))
                (as_second (λ f y c i s t z.
                let p = x.last f y.inside (both _ t y.seen) y.mark in
                let v = y.last e x.inside (lb _ x.seen) x.mark in
                let o : f ≡ r.0 = one_live w hist b k f r.0 y r.1 in
                let o' : f.number ≡ r.0.number = ap (λ g. g.number) o in
                eqb-false _ _ q (omega arith)))
          ]

module _ (w : List Event) (hist : History w) (a b : Seen) (ca : Closed a w) (cb : Closed b w) where
  -- of two closed parts, one has all of a branch's marks that the other has
  nested : (k : MarkKey) → ((e : Event) → In e w → MarksAt k e → a e.number ≡ true → b e.number ≡ true) ⊎ ((e : Event) → In e w → MarksAt k e → b e.number ≡ true → a e.number ≡ true)
  nested k =
      let test : Event → Bool = λ e. is_eq (by_object_then_branch (key_of e) k) && (a e.number && not (b e.number)) in
      elim (cases_Bool (list_any test w)) [
        | inr n ↦ inl (λ e i m s. elim (cases_Bool (b e.number)) [
          | inl y ↦ y
          | inr y ↦ absurd (both_ways (test e) (any_none test n i)
              (and_from (is_eq (by_object_then_branch (key_of e) k)) (a e.number && not (b e.number)) (level_from_key (key_of e) k m.key)
              (and_from (a e.number) (not (b e.number)) s (ap not y))))
        ])
        | inl y ↦
            let r = any_some test w y in
            let u = and_parts (is_eq (by_object_then_branch (key_of r.0) k)) (a r.0.number && not (b r.0.number)) r.2 in
            let v = and_parts (a r.0.number) (not (b r.0.number)) u.1 in
            inr (λ f i m s. order r.0 f r.1 i (key_same r.0 f (key_from_level (key_of r.0) k u.0 ∙ sym m.key)).1 v.0 (not-true _ v.1) s)
      ]
    where
      order : (e f : Event) → In e w → In f w → e.branch ≡ f.branch → a e.number ≡ true → b e.number ≡ false → b f.number ≡ true → a f.number ≡ true
      order e f i j q s t u =
          elim (cases_order e.number f.number) [
            | inl z ↦ subst (λ n. a n ≡ true) z s
            | inr z ↦ elim z [
              | inl x ↦ absurd (both_ways (b e.number) t (cb f e.number j u (hist.in_turn f e j i (sym q) x)))
              | inr x ↦ ca e f.number i s (hist.in_turn e f i j q x)
            ]
          ]

  pub rows_joined : Joined by_object_then_branch mark_key same_mark (table (pick (common a b) w)) (table (pick a w)) (table (pick b w)) (table (pick (joined a b) w))
  rows_joined = record {
    rising = table_rises w hist (joined a b);
    at = λ k. elim (nested k) [
      | inl h ↦ from_side _ _ _ _ (side w hist (common a b) a b (joined a b)
          (λ n y. (and_parts (a n) (b n) y).0) (λ n y. (and_parts (a n) (b n) y).1) (λ n y z. and_from (a n) (b n) y z)
          (λ n y. or_left (a n) (b n) y) (λ n y. or_right (a n) (b n) y) (λ n y. or_cases (a n) (b n) y) ca k h)
      | inr h ↦ from_side_swapped _ _ _ _ (side w hist (common a b) b a (joined a b)
          (λ n y. (and_parts (a n) (b n) y).1) (λ n y. (and_parts (a n) (b n) y).0) (λ n y z. and_from (a n) (b n) z y)
          (λ n y. or_right (a n) (b n) y) (λ n y. or_left (a n) (b n) y) (λ n y. ⊎_swap (or_cases (a n) (b n) y)) cb k h)
    ];
  }
