-- The rows of a part of a history, found by key.
use Rattle.std.specs.Prelude.{◌≡◌, ◌<◌, ◌≤◌, Bool, true, false, cond, not, ◌&&◌, ◌⊎◌, List, ◌∷◌, map, Some, None, filter, Option, ◌==◌, nat_lt, refl}
use Rattle.std.proofs.Common.{◌∙◌, arith}
use Rattle.std.specs.List.{list_any}
use Rattle.std.proofs.Math.Path.{sym, ap}
use Rattle.std.proofs.Math.Logic.{inl, inr}
use borrow.Author.Tests.{eqb-true, ltb-true, lt-ltb, eq-eqb, not-true}
use Rattle.std.proofs.lemmas.Bool.{false_from_ne_true, and_parts, and_from, both_ways, cases_Bool, cases_lt}
use Rattle.std.specs.Ordering.{is_eq}
use Rattle.kinds.specs.Events.{Event, Seen, In, Rising, pick}
use Rattle.kinds.specs.History.{History}
use Rattle.kinds.proofs.Picks.{of_picked, picked, rising_pick}
use Rattle.rows.specs.Rows.{find}
use Rattle.rows.proofs.Sorts.{find_sorted, sorted_rises, Apart, none as no_rows, more}
use Rattle.rows.proofs.Listed.{any_some, any_none, any_nothing, one_number, found, not_found}
use Rattle.sets.specs.Set.{object, is_mark, marks, clears, cleared, live, latest, is_row, rows}
use Rattle.sets.specs.Table.{by_object_then_branch, mark_key, row_of, table, in_order}
use Rattle.sets.specs.declared.marks.Mark.{Mark}
use Rattle.sets.specs.declared.marks.MarkKey.{MarkKey}
use Rattle.sets.proofs.Orders.{total_keys, key_from_level, level_from_key}

-- the key at which an event's row stands
abbrev pub key_of : Event → MarkKey
key_of e = mark_key (row_of e)

-- the row at a key
abbrev pub at_key : MarkKey → List Mark → Option Mark
at_key k xs = find by_object_then_branch mark_key k xs

pub apart_rows : (p : Event → Bool) {es : List Event} → Rising es →
    ((e f : Event) → In e es → In f es → p e ≡ true → p f ≡ true → key_of e ≡ key_of f → e.number ≡ f.number) → Apart by_object_then_branch mark_key (map row_of (filter p es))
apart_rows p Rising.none u = no_rows
apart_rows p (Rising.one {e = e} {es = es} h r) u =
    go (apart_rows p r (λ x y i j. u x y (In.there i) (In.there j))) (p e) refl
  where
    go : Apart by_object_then_branch mark_key (map row_of (filter p es)) → (t : Bool) → p e ≡ t → Apart by_object_then_branch mark_key (map row_of (cond t (e ∷ filter p es) (filter p es)))
    go ih true q = more (not_found by_object_then_branch total_keys mark_key row_of p (key_of e) es
        (λ f j y c. let a = h f j in let b = u f e (In.there j) In.here y q c in absurd (omega arith))) ih
    go ih false q = ih

-- a mark at a key
pub record MarksAt (k : MarkKey) (e : Event) : Type 0 where
  pub verb : is_mark e ≡ true
  pub key : key_of e ≡ k

-- f is a clear of e's object that saw e
abbrev pub cuts : Event → Event → Bool
cuts f e = clears (object e) f && f.saw e.number

-- e is the row at the key k, among the events of w that are in s
pub record Live (w : List Event) (s : Seen) (k : MarkKey) (e : Event) : Type 0 where
  pub inside : In e w
  pub seen : s e.number ≡ true
  pub mark : MarksAt k e
  pub last : (f : Event) → In f w → s f.number ≡ true → MarksAt k f → f.number ≤ e.number
  pub uncut : (f : Event) → In f w → s f.number ≡ true → cuts f e ≡ false

pub key_same : (e f : Event) → key_of e ≡ key_of f → (object e ≡ object f) × (e.branch ≡ f.branch)
key_same e f q = (ap (λ k. k.object) q, ap (λ k. k.branch) q)

pub same_key : (e f : Event) → object e ≡ object f → e.branch ≡ f.branch → key_of e ≡ key_of f
same_key e f p q = λ i. record { object = p i; branch = q i }

later : Event → Event → Bool
later e f = marks (object e) f && (f.branch == e.branch && nat_lt e.number f.number)

module _ (w : List Event) (hist : History w) (s : Seen) where
  pub to_live : (k : MarkKey) (e : Event) → In e (pick s w) → is_row (pick s w) e ≡ true → key_of e ≡ k → Live w s k e
  unfolding later
  to_live k e i y q =
      let v = and_parts (live (pick s w) e) (latest (pick s w) e) y in
      let u = and_parts (is_mark e) (not (cleared (pick s w) e)) v.0 in
      let i' = of_picked s w e i in
      record {
        inside = i'.0;
        seen = i'.1;
        mark = record { verb = u.0; key = q };
        last = λ f j t m. elim (cases_lt e.number f.number) [
          | inl l ↦
              let z = key_same f e (m.key ∙ sym q) in
              let c : later e f ≡ true = and_from (marks (object e) f) (f.branch == e.branch && nat_lt e.number f.number)
              (and_from (is_mark f) (object f == object e) m.verb (eq-eqb _ _ z.0))
              (and_from (f.branch == e.branch) (nat_lt e.number f.number) (eq-eqb _ _ z.1) (lt-ltb _ _ l)) in
              absurd (both_ways (later e f) (any_none (later e) (not-true (list_any (later e) (pick s w)) v.1) (picked s w f j t)) c)
          | inr l ↦ l
        ];
        uncut = λ f j t. any_none (λ g. cuts g e) (not-true (cleared (pick s w) e) u.1) (picked s w f j t);
      }

  pub from_live : (k : MarkKey) (e : Event) → Live w s k e → In e (pick s w) × (is_row (pick s w) e ≡ true)
  unfolding later
  from_live k e l =
      let i = picked s w e l.inside l.seen in
      let no-later : list_any (later e) (pick s w) ≡ false = any_nothing (later e) (pick s w) (λ f j. false_from_ne_true (later e f) (λ y.
      let j' = of_picked s w f j in
      let a = and_parts (marks (object e) f) (f.branch == e.branch && nat_lt e.number f.number) y in
      let b = and_parts (is_mark f) (object f == object e) a.0 in
      let c = and_parts (f.branch == e.branch) (nat_lt e.number f.number) a.1 in
      let q : key_of f ≡ key_of e = same_key f e (eqb-true _ _ b.1) (eqb-true _ _ c.0) in
      let n : e.number < f.number = ltb-true _ _ c.1 in
      let m = l.last f j'.0 j'.1 (record { verb = b.0; key = q ∙ l.mark.key }) in
      omega arith)) in
      let no_clear : cleared (pick s w) e ≡ false = any_nothing (λ g. cuts g e) (pick s w) (λ f j.
      let j' = of_picked s w f j in l.uncut f j'.0 j'.1) in (
        i,
        and_from (live (pick s w) e) (latest (pick s w) e) (and_from (is_mark e) (not (cleared (pick s w) e)) l.mark.verb (ap not no_clear)) (ap not no-later),
      )

  -- at most one row at a key
  pub one_live : (k : MarkKey) (e f : Event) → Live w s k e → Live w s k f → e ≡ f
  one_live k e f l m =
      let a = l.last f m.inside m.seen m.mark in
      let b = m.last e l.inside l.seen l.mark in
      one_number hist.rising e f l.inside m.inside (omega arith)

  pub found_row : (k : MarkKey) (e : Event) → Live w s k e → at_key k (table (pick s w)) ≡ Some (row_of e)
  unfolding table
  found_row k e l =
      let i = from_live k e l in
      find_sorted by_object_then_branch mark_key total_keys k (map row_of (rows (pick s w)))
      ∙ found by_object_then_branch total_keys mark_key row_of (is_row (pick s w)) k (pick s w) e i.0 i.1 l.mark.key
      (λ f j y q. ap row_of (one_live k f e (to_live k f j y q) l))

  pub no_row : (k : MarkKey) → ((e : Event) → Live w s k e → ⊥) → at_key k (table (pick s w)) ≡ None
  unfolding table
  no_row k u =
      find_sorted by_object_then_branch mark_key total_keys k (map row_of (rows (pick s w)))
      ∙ not_found by_object_then_branch total_keys mark_key row_of (is_row (pick s w)) k (pick s w) (λ f j y q. u f (to_live k f j y q))

  pub row_or_none : (k : MarkKey) → ((e : Event) × Live w s k e) ⊎ ((e : Event) → Live w s k e → ⊥)
  row_or_none k =
      let test : Event → Bool = λ e. is_row (pick s w) e && is_eq (by_object_then_branch (key_of e) k) in
      elim (cases_Bool (list_any test (pick s w))) [
        | inl y ↦ let r = any_some test (pick s w) y in
            let b = and_parts (is_row (pick s w) r.0) (is_eq (by_object_then_branch (key_of r.0) k)) r.2 in
            inl (r.0, to_live k r.0 r.1 b.0 (key_from_level (key_of r.0) k b.1))
        | inr n ↦ inr (λ e l. let i = from_live k e l in
            both_ways (test e) (any_none test n i.0)
            (and_from (is_row (pick s w) e) (is_eq (by_object_then_branch (key_of e) k)) i.1 (level_from_key (key_of e) k l.mark.key)))
      ]

  pub table_rises : in_order (table (pick s w)) ≡ true
  unfolding table
  table_rises = sorted_rises by_object_then_branch mark_key total_keys (apart_rows (is_row (pick s w)) (rising_pick s hist.rising) (λ e f i j y z q.
      ap (λ x. x.number) (one_live (key_of f) e f (to_live (key_of f) e i y q) (to_live (key_of f) f j z refl))))
