-- Lists of events: what passes a test, what a history with one event more holds, and the rows that events stand for.
use Rattle.std.proofs.Common.{◌≡◌, ◌<◌, Bool, true, false, cond, ltb, List, [], ◌∷◌, ◌++◌, map, Some, None, filter, Ordering, sym, refl, ap, ◌∙◌, inl, inr, arith, le-ltb, lt-ltb}
use borrow.Author.Tests.{clash}
use Rattle.std.proofs.lemmas.Bool.{false_from_ne_true, both_ways, or_cases, or_parts, or_left, or_right}
use Rattle.kinds.specs.Events.{Event, Seen, In, Rising, pick}
use Rattle.kinds.proofs.Picks.{in_cons, in_none, pick_none, pick_yes, pick_no}
use Rattle.rows.specs.Keys.{Total}
use Rattle.rows.specs.Rows.{find}
use Rattle.std.specs.List.{list_any}
use Rattle.rows.proofs.KeysLemmas as keys
use Rattle.rows.proofs.Finds.{find_none, find_first, find_next}

-- ---- tests
pub any_some : (p : Event → Bool) (es : List Event) → list_any p es ≡ true → (e : Event) × In e es × (p e ≡ true)
any_some p [] h = absurd (clash h)
any_some p (e ∷ es) h =
    elim (or_cases (p e) (list_any p es) h) [
      | inl y ↦ (e, In.here, y)
      | inr y ↦ let r = any_some p es y in (r.0, In.there r.1, r.2)
    ]

pub any_none : (p : Event → Bool) {e : Event} {es : List Event} → list_any p es ≡ false → In e es → p e ≡ false
any_none p {e} h (In.here {es = es}) = (or_parts (p e) (list_any p es) h).0
any_none p h (In.there {f = f} {es = es} i) = any_none p (or_parts (p f) (list_any p es) h).1 i

pub any_make : (p : Event → Bool) {e : Event} {es : List Event} → In e es → p e ≡ true → list_any p es ≡ true
any_make p {e} (In.here {es = es}) y = or_left (p e) (list_any p es) y
any_make p (In.there {f = f} {es = es} i) y = or_right (p f) (list_any p es) (any_make p i y)

pub any_nothing : (p : Event → Bool) (es : List Event) → ((e : Event) → In e es → p e ≡ false) → list_any p es ≡ false
any_nothing p es h = false_from_ne_true (list_any p es) (λ y. let r = any_some p es y in both_ways (p r.0) (h r.0 r.1) r.2)

-- ---- numbers
pub one_number : {es : List Event} → Rising es → (e f : Event) → In e es → In f es → e.number ≡ f.number → e ≡ f
one_number Rising.none e f i j q = absurd (in_none i)
one_number (Rising.one {e = x} {es = es} h r) e f i j q =
    elim (in_cons i) [
      | inl p ↦ elim (in_cons j) [
        | inl u ↦ sym p ∙ u
        | inr m ↦ let a = h f m in let b : x.number ≡ e.number = ap (λ y. y.number) p in absurd (omega arith)
      ]
      | inr l ↦ elim (in_cons j) [
        | inl u ↦ let a = h e l in let b : x.number ≡ f.number = ap (λ y. y.number) u in absurd (omega arith)
        | inr m ↦ one_number r e f l m q
      ]
    ]

-- ---- the whole, and the part before the last event
abbrev pub everything : Seen
everything n = true

pub pick_all : (es : List Event) → pick everything es ≡ es
pick_all [] = pick_none everything
pick_all (e ∷ es) = pick_yes everything e es refl ∙ ap {B = List Event} (λ l. e ∷ l) (pick_all es)

abbrev pub before : Event → Seen
before e n = ltb n e.number

pub pick_before : (e : Event) (h : List Event) → ((f : Event) → In f h → f.number < e.number) → pick (before e) (h ++ (e ∷ [])) ≡ h
pick_before e [] u = pick_no (before e) e [] (le-ltb e.number e.number (omega arith)) ∙ pick_none (before e)
pick_before e (f ∷ h) u =
    pick_yes (before e) f (h ++ (e ∷ [])) (lt-ltb f.number e.number (u f In.here))
    ∙ ap {B = List Event} (λ l. f ∷ l) (pick_before e h (λ g i. u g (In.there i)))

-- ---- the rows that events stand for, at a key
module _ {K R : Type 0} (order : K → K → Ordering) (total : Total order) (key : R → K) (row : Event → R) where
  pub found : (p : Event → Bool) (k : K) (es : List Event) (e : Event) → In e es → p e ≡ true → key (row e) ≡ k →
      ((f : Event) → In f es → p f ≡ true → key (row f) ≡ k → row f ≡ row e) → find order key k (map row (filter p es)) ≡ Some (row e)
  found p k [] e i y h u = absurd (in_none i)
  found p k (f ∷ es) e i y h u = go (λ (m : In e es). found p k es e m y h (λ g j. u g (In.there j))) (p f) refl
    where
      go : (In e es → find order key k (map row (filter p es)) ≡ Some (row e)) → (t : Bool) → p f ≡ t →
          find order key k (map row (cond t (f ∷ filter p es) (filter p es))) ≡ Some (row e)
      go ih true q =
          elim (in_cons i) [
            | inl c ↦ find_first order key total k (row f) (map row (filter p es)) (ap (λ g. key (row g)) c ∙ h) ∙ ap (λ g. Some (row g)) c
            | inr m ↦ by_key (ih m)
          ]
        where
          by_key : find order key k (map row (filter p es)) ≡ Some (row e) → find order key k (row f ∷ map row (filter p es)) ≡ Some (row e)
          by_key rest = elim (keys.either order total (key (row f)) k) [
            | inl c ↦ find_first order key total k (row f) (map row (filter p es)) c ∙ ap Some (u f In.here q c)
            | inr d ↦ find_next order key total k (row f) (map row (filter p es)) d ∙ rest
          ]
      go ih false q =
          elim (in_cons i) [
            | inl c ↦ absurd (both_ways (p f) q (ap p c ∙ y))
            | inr m ↦ ih m
          ]

  pub not_found : (p : Event → Bool) (k : K) (es : List Event) → ((f : Event) → In f es → p f ≡ true → key (row f) ≡ k → ⊥) → find order key k (map row (filter p es)) ≡ None
  not_found p k [] u = find_none order key k
  not_found p k (f ∷ es) u = go (not_found p k es (λ g j. u g (In.there j))) (p f) refl
    where
      go : find order key k (map row (filter p es)) ≡ None → (t : Bool) → p f ≡ t → find order key k (map row (cond t (f ∷ filter p es) (filter p es))) ≡ None
      go ih true q = find_next order key total k (row f) (map row (filter p es)) (λ c. u f In.here q c) ∙ ih
      go ih false q = ih
