-- Which objects are members, read off the rows.
use Rattle.std.specs.Prelude.{◌≡◌, ℕ, ◌≤◌, Bool, true, false, cond, not, ◌&&◌, ◌||◌, List, [], ◌∷◌, map, filter, ◌==◌, nat_eq}
use Rattle.std.proofs.Common.{sym, ap, ◌∙◌}
use Rattle.std.specs.Cmp.Derive.{one_truth}
use Rattle.std.specs.List.{list_any}
use Rattle.std.proofs.Math.Path.{refl, subst}
use Rattle.std.proofs.Math.Logic.{inl, inr}
use native.Mathlib.Omega.{arith}
use borrow.Author.Tests.{eqb-true, eq-eqb, not-true}
use Rattle.std.proofs.lemmas.Bool.{false_from_ne_true, and_parts, and_from, both_ways, cases_Bool, cases_lt}
use Rattle.std.specs.Ordering.{is_eq}
use Rattle.kinds.specs.Events.{Event, In, Rising}
use Rattle.kinds.specs.History.{History}
use Rattle.kinds.proofs.Picks.{in_cons, in_none}
use Rattle.rows.proofs.Sorts.{any_sorted}
use Rattle.rows.proofs.Listed.{any_some, any_none, any_make, everything, pick_all}
use Rattle.sets.specs.Set.{object, is_mark, clears, cleared, live, latest, is_row, rows, member}
use Rattle.sets.specs.Table.{by_object_then_branch, mark_key, row_of, table}
use Rattle.sets.specs.declared.marks.Mark.{Mark}
use Rattle.sets.specs.declared.marks.MarkKey.{MarkKey}
use Rattle.sets.proofs.Orders.{key_from_level, level_from_key}
use Rattle.sets.proofs.Lives.{key_of, MarksAt, cuts, Live, key_same, from_live}

any_rows : (p : Mark → Bool) (q : Event → Bool) (es : List Event) → list_any p (map row_of (filter q es)) ≡ list_any (λ e. q e && p (row_of e)) es
any_rows p q [] = refl
any_rows p q (e ∷ es) = go (q e) (any_rows p q es)
  where
    go : (t : Bool) → list_any p (map row_of (filter q es)) ≡ list_any (λ x. q x && p (row_of x)) es →
        list_any p (map row_of (cond t (e ∷ filter q es) (filter q es))) ≡ ((t && p (row_of e)) || list_any (λ x. q x && p (row_of x)) es)
    go true ih = ap (λ b. p (row_of e) || b) ih
    go false ih = ih

marks_test : MarkKey → Event → Bool
marks_test k g = is_mark g && is_eq (by_object_then_branch (key_of g) k)

to_mark : (k : MarkKey) (g : Event) → marks_test k g ≡ true → MarksAt k g
unfolding marks_test
to_mark k g y =
    let b = and_parts (is_mark g) (is_eq (by_object_then_branch (key_of g) k)) y in
    record { verb = b.0; key = key_from_level (key_of g) k b.1 }

from_mark : (k : MarkKey) (g : Event) → MarksAt k g → marks_test k g ≡ true
unfolding marks_test
from_mark k g m = and_from (is_mark g) (is_eq (by_object_then_branch (key_of g) k)) m.verb (level_from_key (key_of g) k m.key)

-- of the marks at a key there is a last one
last_mark : (k : MarkKey) {es : List Event} → Rising es → (e : Event) → In e es → MarksAt k e →
    (f : Event) × In f es × MarksAt k f × ((g : Event) → In g es → MarksAt k g → g.number ≤ f.number)
last_mark k Rising.none e i m = absurd (in_none i)
last_mark k (Rising.one {e = x} {es = es} h r) e i m =
    elim (cases_Bool (list_any (marks_test k) es)) [
      | inl y ↦
          let a = any_some (marks_test k) es y in
          let b = last_mark k r a.0 a.1 (to_mark k a.0 a.2) in (
            b.0,
            In.there b.1,
            b.2,
            λ g j n. elim (in_cons j) [
              | inl q ↦ let c = h b.0 b.1 in let d : x.number ≡ g.number = ap (λ z. z.number) q in omega arith
              | inr l ↦ b.3 g l n
            ],
          )
      | inr n ↦
          let other : (g : Event) → In g es → MarksAt k g → ⊥ = λ g j c. both_ways (marks_test k g) (any_none (marks_test k) n j) (from_mark k g c) in
          let same : x ≡ e = elim (in_cons i) [ inl q ↦ q | inr j ↦ absurd (other e j m) ] in (
            x,
            In.here,
            subst (MarksAt k) (sym same) m,
            λ g j c. elim (in_cons j) [
              | inl q ↦ let d : x.number ≡ g.number = ap (λ z. z.number) q in omega arith
              | inr l ↦ absurd (other g l c)
            ],
          )
    ]

module _ (h : List Event) (hist : History h) (o : ℕ) where
  row_of_object : Event → Bool
  row_of_object e = is_row h e && object e == o

  live_of_object : Event → Bool
  live_of_object e = live h e && object e == o

  to : list_any row_of_object h ≡ true → list_any live_of_object h ≡ true
  unfolding row_of_object live_of_object
  to y =
      let r = any_some row_of_object h y in
      let e : Event = r.0 in
      let a = and_parts (is_row h e) (object e == o) r.2 in
      let b = and_parts (live h e) (latest h e) a.0 in
      any_make live_of_object r.1 (and_from (live h e) (object e == o) b.0 a.1)

  from : list_any live_of_object h ≡ true → list_any row_of_object h ≡ true
  unfolding row_of_object live_of_object
  from y =
      let r = any_some live_of_object h y in
      let e : Event = r.0 in
      let a = and_parts (live h e) (object e == o) r.2 in
      let b = and_parts (is_mark e) (not (cleared h e)) a.0 in
      let m : MarksAt (key_of e) e = record { verb = b.0; key = refl } in
      let last = last_mark (key_of e) hist.rising e r.1 m in
      let f : Event = last.0 in
      let s = key_same f e last.2.key in
      let le : e.number ≤ f.number = last.3 e r.1 m in
      let found : Live h everything (key_of e) f = record {
        inside = last.1;
        seen = refl;
        mark = last.2;
        last = λ g j t c. last.3 g j c;
        uncut = λ c j t. false_from_ne_true (cuts c f) (λ z.
            let d = and_parts (clears (object f) c) (c.saw f.number) z in
            let saw : c.saw e.number ≡ true = elim (cases_lt e.number f.number) [
              | inl v ↦ hist.transitive c f e.number j last.1 d.1 (hist.in_turn f e last.1 r.1 s.1 v)
              | inr v ↦ let n : f.number ≡ e.number = omega arith in subst (λ k. c.saw k ≡ true) n d.1
            ] in
            let cl : clears (object e) c ≡ true = subst (λ z. clears z c ≡ true) s.0 d.0 in
            both_ways (clears (object e) c && c.saw e.number) (any_none (λ g. clears (object e) g && g.saw e.number) (not-true (cleared h e) b.1) j)
            (and_from (clears (object e) c) (c.saw e.number) cl saw));
      } in
      let row : is_row h f ≡ true = subst (λ z. is_row z f ≡ true) (pick_all h) (from_live h hist everything (key_of e) f found).1 in
      any_make row_of_object last.1 (and_from (is_row h f) (object f == o) row (eq-eqb _ _ (s.0 ∙ eqb-true _ _ a.1)))

  pub member_is : list_any (λ (x : Mark). nat_eq x.object o) (table h) ≡ member h o
  unfolding table row_of_object live_of_object
  member_is =
      any_sorted by_object_then_branch mark_key (λ (x : Mark). nat_eq x.object o) (map row_of (rows h)) ∙ any_rows (λ (x : Mark). nat_eq x.object o) (is_row h) h
      ∙ one_truth (list_any row_of_object h) (list_any live_of_object h) to from
