-- What a set picks of a list of events.
use Rattle.std.proofs.Common.{◌≡◌, Bool, true, false, ◌⊎◌, List, [], ◌∷◌, ◌++◌, sym, refl, ap, ◌∙◌, subst, inl, inr, ⊎_elim}
use Rattle.std.proofs.lemmas.Bool.{both_ways, and_parts, and_from, and_left, and_right, or_cases, or_left, or_right}
use Rattle.kinds.specs.Events.{Event, Seen, In, Rising, pick, common, joined}
use Rattle.kinds.specs.History.{Closed}

-- cases of a test, with what came out
pub by_bool : (b : Bool) {P : Type 0} → (b ≡ true → P) → (b ≡ false → P) → P
by_bool true f g = f refl
by_bool false f g = g refl

-- ---- an event that is picked, and one that is not
pub pick_none : (s : Seen) → pick s [] ≡ []
unfolding pick
pick_none s = refl

pub pick_yes : (s : Seen) (e : Event) (es : List Event) → s e.number ≡ true → pick s (e ∷ es) ≡ e ∷ pick s es
unfolding pick
pick_yes s e es y = rw y

pub pick_no : (s : Seen) (e : Event) (es : List Event) → s e.number ≡ false → pick s (e ∷ es) ≡ pick s es
unfolding pick
pick_no s e es y = rw y

-- to show a fact of what is picked of a longer list, show it in each of the two cases
by_pick : (s : Seen) (e : Event) (es : List Event) (P : List Event → Type 0) →
    (s e.number ≡ true → P (e ∷ pick s es)) → (s e.number ≡ false → P (pick s es)) → P (pick s (e ∷ es))
by_pick s e es P f g =
    by_bool (s e.number) (λ y. subst P (sym (pick_yes s e es y)) (f y)) (λ y. subst P (sym (pick_no s e es y)) (g y))

-- ---- the events of a list
pub in_cons : {e f : Event} {es : List Event} → In e (f ∷ es) → (f ≡ e) ⊎ In e es
in_cons In.here = inl refl
in_cons (In.there i) = inr i

pub in_none : {e : Event} → In e [] → ⊥
in_none i = elim i [ ]

pub of_picked : (s : Seen) (es : List Event) (e : Event) → In e (pick s es) → In e es × (s e.number ≡ true)
of_picked s [] e i = absurd (in_none (subst (In e) (pick_none s) i))
of_picked s (f ∷ fs) e i =
    let later : In e (pick s fs) → In e (f ∷ fs) × (s e.number ≡ true) = λ j. let r = of_picked s fs e j in (In.there r.0, r.1) in
    by_pick s f fs (λ l. In e l → In e (f ∷ fs) × (s e.number ≡ true))
    (λ y j. ⊎_elim (λ p. subst (λ x. In x (f ∷ fs) × (s x.number ≡ true)) p (In.here, y)) later (in_cons j)) (λ y. later) i

pub picked : (s : Seen) (es : List Event) (e : Event) → In e es → s e.number ≡ true → In e (pick s es)
picked s [] e i y = absurd (in_none i)
picked s (f ∷ fs) e i y =
    by_pick s f fs (λ l. In e l)
    (λ z. ⊎_elim (λ p. subst (λ x. In x (f ∷ pick s fs)) p In.here) (λ j. In.there (picked s fs e j y)) (in_cons i))
    (λ z. ⊎_elim (λ p. absurd (both_ways (s e.number) (subst (λ (x : Event). s x.number ≡ false) p z) y)) (λ j. picked s fs e j y) (in_cons i))

pub rising_pick : (s : Seen) {es : List Event} → Rising es → Rising (pick s es)
rising_pick s Rising.none = subst Rising (sym (pick_none s)) Rising.none
rising_pick s (Rising.one {e} {es} above rest) =
    by_pick s e es Rising (λ y. Rising.one (λ f i. above f (of_picked s es f i).0) (rising_pick s rest)) (λ y. rising_pick s rest)

-- ---- closed sets
pub closed_common : (a b : Seen) (h : List Event) → Closed a h → Closed b h → Closed (common a b) h
closed_common a b h ca cb e n i y saw =
    let p = and_parts (a e.number) (b e.number) y in and_from (a n) (b n) (ca e n i p.0 saw) (cb e n i p.1 saw)

pub closed_joined : (a b : Seen) (h : List Event) → Closed a h → Closed b h → Closed (joined a b) h
closed_joined a b h ca cb e n i y saw =
    ⊎_elim (λ p. or_left (a n) (b n) (ca e n i p saw)) (λ p. or_right (a n) (b n) (cb e n i p saw)) (or_cases (a e.number) (b e.number) y)

-- ---- equations
pub pick_append : (s : Seen) (es fs : List Event) → pick s (es ++ fs) ≡ pick s es ++ pick s fs
pick_append s [] fs = rw (pick_none s)
pick_append s (e ∷ es) fs =
    by_bool (s e.number)
    (λ y. rw (pick_yes s e (es ++ fs) y, pick_yes s e es y) (ap {B = List Event} (λ l. e ∷ l) (pick_append s es fs)))
    (λ y. rw (pick_no s e (es ++ fs) y, pick_no s e es y) (pick_append s es fs))

-- two sets that agree on the events of a list pick the same of it
pub pick_same : (s t : Seen) (es : List Event) → ((e : Event) → In e es → s e.number ≡ t e.number) → pick s es ≡ pick t es
pick_same s t [] q = rw (pick_none s, pick_none t)
pick_same s t (e ∷ es) q =
    let more = pick_same s t es (λ f i. q f (In.there i)) in
    let at = q e In.here in
    by_bool (s e.number)
    (λ y. rw (pick_yes s e es y, pick_yes t e es (sym at ∙ y)) (ap {B = List Event} (λ l. e ∷ l) more))
    (λ y. rw (pick_no s e es y, pick_no t e es (sym at ∙ y)) more)

pub pick_pick : (s t : Seen) (es : List Event) → pick s (pick t es) ≡ pick (common s t) es
pick_pick s t [] = rw (pick_none t, pick_none s, pick_none (common s t))
pick_pick s t (e ∷ es) =
    let more = pick_pick s t es in
    by_bool (t e.number)
    (λ y. rw (pick_yes t e es y)
    (by_bool (s e.number)
    (λ z. rw (pick_yes s e (pick t es) z, pick_yes (common s t) e es (and_from _ _ z y)) (ap {B = List Event} (λ l. e ∷ l) more))
    (λ z. rw (pick_no s e (pick t es) z, pick_no (common s t) e es (and_left _ _ z)) more)))
    (λ y. rw (pick_no t e es y, pick_no (common s t) e es (and_right _ _ y)) more)
