-- How histories grow, and what closed sets pick of them.
use Rattle.std.proofs.Common.{◌≡◌, ℕ, ◌<◌, ◌≤◌, true, ◌⊎◌, List, [], ◌∷◌, ◌++◌, sym, subst, inl, inr, ⊎_elim, arith}
use Rattle.kinds.specs.Events.{Event, Seen, In, Rising, pick}
use Rattle.kinds.specs.History.{History, Closed, Next, Coherent}
use Rattle.kinds.proofs.Picks.{in_cons, in_none, of_picked, picked, rising_pick, closed_common, closed_joined}

history_none : History []
history_none = record {
  rising = Rising.none;
  numbered = λ e i. absurd (in_none i);
  branched = λ e i. absurd (in_none i);
  whole = λ e n i. absurd (in_none i);
  earlier = λ e n i. absurd (in_none i);
  transitive = λ e f n i. absurd (in_none i);
  in_turn = λ e f i. absurd (in_none i);
}

pub history_pick : (s : Seen) (w : List Event) → History w → Closed s w → History (pick s w)
history_pick s w H closed =
    let of : (e : Event) → In e (pick s w) → In e w = λ e i. (of_picked s w e i).0 in
    record {
      rising = rising_pick s H.rising;
      numbered = λ e i. H.numbered e (of e i);
      branched = λ e i. H.branched e (of e i);
      whole = λ e n i y. let k = H.whole e n (of e i) y in
          (k.0, (picked s w k.0 k.1.0 (subst (λ x. s x ≡ true) (sym k.1.1) (closed e n (of e i) (of_picked s w e i).1 y)), k.1.1));
      earlier = λ e n i. H.earlier e n (of e i);
      transitive = λ e f n i j. H.transitive e f n (of e i) (of f j);
      in_turn = λ e f i j. H.in_turn e f (of e i) (of f j);
    }

-- ---- one event more
pub in_more : (h : List Event) (e f : Event) → In f h → In f (h ++ (e ∷ []))
in_more [] e f i = absurd (in_none i)
in_more (g ∷ gs) e f i = ⊎_elim (λ p. subst (λ x. In x (g ∷ (gs ++ (e ∷ [])))) p In.here) (λ j. In.there (in_more gs e f j)) (in_cons i)

of_more : (h : List Event) (e f : Event) → In f (h ++ (e ∷ [])) → In f h ⊎ (e ≡ f)
of_more [] e f i = ⊎_elim inr (λ j. absurd (in_none j)) (in_cons i)
of_more (g ∷ gs) e f i =
    ⊎_elim (λ p. inl (subst (λ x. In x (g ∷ gs)) p In.here)) (λ j. ⊎_elim (λ k. inl (In.there k)) inr (of_more gs e f j)) (in_cons i)

-- what holds of each event and of one more
pub by_last : (P : Event → Type 0) (h : List Event) (e : Event) → ((f : Event) → In f h → P f) → P e → (f : Event) → In f (h ++ (e ∷ [])) → P f
by_last P h e old new f i = ⊎_elim (λ j. old f j) (λ p. subst P p new) (of_more h e f i)

rising_more : {h : List Event} (e : Event) → Rising h → ((f : Event) → In f h → f.number < e.number) → Rising (h ++ (e ∷ []))
rising_more e Rising.none above = Rising.one (λ f i. absurd (in_none i)) Rising.none
rising_more e (Rising.one {e = g} {es} low rest) above =
    Rising.one (by_last (λ f. g.number < f.number) es e low (above g In.here)) (rising_more e rest (λ f i. above f (In.there i)))

-- An event that saw a closed set of the history's events, with all of its own branch, makes it a longer history.
module _ (h : List Event) (e : Event) (H : History h) (numbered : (0 < e.number) × (e.number ≤ 4095)) (branched : e.branch < 16)
    (above : (f : Event) → In f h → f.number < e.number) (closed : Closed e.saw h)
    (only : (n : ℕ) → e.saw n ≡ true → (f : Event) × (In f h × (f.number ≡ n)))
    (own : (f : Event) → In f h → e.branch ≡ f.branch → e.saw f.number ≡ true) where
  backward : (f : Event) → In f h → e.number < f.number → ⊥
  backward f i q = let p = above f i in omega arith

  saw_below : (n : ℕ) → e.saw n ≡ true → n < e.number
  saw_below n y = let k = only n y in subst (λ x. x < e.number) k.1.1 (above k.0 k.1.0)

  itself : e.number < e.number → ⊥
  itself q = omega arith

  pub history_more : History (h ++ (e ∷ []))
  history_more = record {
    rising = rising_more e H.rising above;
    numbered = by_last (λ f. (0 < f.number) × (f.number ≤ 4095)) h e H.numbered numbered;
    branched = by_last (λ f. f.branch < 16) h e H.branched branched;
    whole = λ f n. by_last (λ g. g.saw n ≡ true → (x : Event) × (In x (h ++ (e ∷ [])) × (x.number ≡ n))) h e
        (λ g i y. let k = H.whole g n i y in (k.0, (in_more h e k.0 k.1.0, k.1.1)))
        (λ y. let k = only n y in (k.0, (in_more h e k.0 k.1.0, k.1.1))) f;
    earlier = λ f n. by_last (λ g. g.saw n ≡ true → n < g.number) h e (λ g i. H.earlier g n i) (saw_below n) f;
    transitive = λ f g n i j. by_last (λ f. In g (h ++ (e ∷ [])) → f.saw g.number ≡ true → g.saw n ≡ true → f.saw n ≡ true) h e
        (λ f i. by_last (λ g. f.saw g.number ≡ true → g.saw n ≡ true → f.saw n ≡ true) h e (λ g j. H.transitive f g n i j)
        (λ y z. absurd (backward f i (H.earlier f e.number i y))) g)
        (by_last (λ g. e.saw g.number ≡ true → g.saw n ≡ true → e.saw n ≡ true) h e (λ g j. closed g n j)
        (λ y z. absurd (itself (saw_below e.number y))) g) f i j;
    in_turn = λ f g i j. by_last (λ f. In g (h ++ (e ∷ [])) → f.branch ≡ g.branch → g.number < f.number → f.saw g.number ≡ true) h e
        (λ f i. by_last (λ g. f.branch ≡ g.branch → g.number < f.number → f.saw g.number ≡ true) h e (λ g j. H.in_turn f g i j)
        (λ p q. absurd (backward f i q)) g)
        (by_last (λ g. e.branch ≡ g.branch → g.number < e.number → e.saw g.number ≡ true) h e (λ g j p q. own g j p)
        (λ p q. absurd (itself q)) g) f i j;
  }

history_next : (h : List Event) (e : Event) → History h → Next h e → History (h ++ (e ∷ []))
history_next h e H N =
    history_more h e H N.numbered N.branched N.above
    (λ f n i y saw. let k = H.whole f n i saw in subst (λ x. e.saw x ≡ true) k.1.1 (N.all k.0 k.1.0))
    N.only (λ f i p. N.all f i)

pub coherent : Coherent
coherent = record {
  none = history_none;
  longer = history_next;
  within = history_pick;
  both = closed_common;
  either = closed_joined;
}
