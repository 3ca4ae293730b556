-- The two parts of a pair's history.
use Rattle.std.proofs.Common.{◌≡◌, ℕ, ◌<◌, ◌≤◌, Bool, true, false, ◌&&◌, eqb, List, [], ◌∷◌, ◌++◌, sym, refl, ap, ◌∙◌, subst, ⊎_elim, append-nil, arith}
use mathlib.Core.Path.{fun_ext}
use Rattle.std.proofs.lemmas.Bool.{and_parts, and_from, and_left, and_right, eqb-true, eq-eqb, ne_eqb}
use Rattle.kinds.specs.Events.{Event, Seen, In, Rising, pick, common}
use Rattle.kinds.specs.History.{History, Closed, Next}
use Rattle.kinds.specs.Meaning.{Meaning, Known}
use Rattle.kinds.specs.Pair.{side_of, on, same_side, halved, sent, cut, cuts, part, pair}
use Rattle.kinds.specs.declared.pair.Side.{Side}
use Rattle.kinds.specs.declared.pair.Side.TheVariants.{Left, Right}
use Rattle.kinds.proofs.Picks.{by_bool, pick_none, pick_yes, pick_no, in_cons, in_none, of_picked, picked, rising_pick, pick_append, pick_same, pick_pick}

-- ---- sides
abbrev pub opposite : Side → Side
opposite side = on side Right Left

pub same_yes : (side s : Side) → s ≡ side → same_side side s ≡ true
same_yes Left s y = rw y
same_yes Right s y = rw y

pub same_no : (side s : Side) → s ≡ side → same_side (opposite side) s ≡ false
same_no Left s y = rw y
same_no Right s y = rw y

off : false ≡ true → ⊥
off p = let z : ◌≡◌ {A = ℕ} 0 1 = cc in omega arith

pub same_is : (side s : Side) → same_side side s ≡ true → s ≡ side
same_is Left Left y = refl
same_is Left Right y = absurd (off y)
same_is Right Left y = absurd (off y)
same_is Right Right y = refl

-- ---- which side an event is sent to
sent_none : (side : Side) (n : ℕ) → sent side [] n ≡ false
unfolding sent
sent_none side n = refl

sent_here : (side : Side) (e : Event) (es : List Event) (n : ℕ) → eqb e.number n ≡ true → sent side (e ∷ es) n ≡ same_side side (side_of e.change.place)
unfolding sent
sent_here side e es n y = rw y

sent_past : (side : Side) (e : Event) (es : List Event) (n : ℕ) → eqb e.number n ≡ false → sent side (e ∷ es) n ≡ sent side es n
unfolding sent
sent_past side e es n y = rw y

sent_pick : (side : Side) (s : Seen) (w : List Event) (n : ℕ) → sent side (pick s w) n ≡ (s n && sent side w n)
sent_pick side s [] n = rw (pick_none s, sent_none side n) (sym (and_right (s n) false refl))
sent_pick side s (e ∷ es) n =
    let more = sent_pick side s es n in
    by_bool (eqb e.number n)
    (λ q. let p = eqb-true e.number n q in
    by_bool (s e.number)
    (λ y. let z : s n ≡ true = subst (λ m. s m ≡ true) p y in
    rw (pick_yes s e es y, sent_here side e (pick s es) n q, sent_here side e es n q, z))
    (λ y. let z : s n ≡ false = subst (λ m. s m ≡ false) p y in rw (pick_no s e es y) (more ∙ and_left (s n) _ z ∙ sym (and_left (s n) _ z))))
    (λ q. by_bool (s e.number)
    (λ y. rw (pick_yes s e es y, sent_past side e (pick s es) n q, sent_past side e es n q) more)
    (λ y. rw (pick_no s e es y, sent_past side e es n q) more))

-- in a rising list an event is sent where its place says
sent_of : (side : Side) {w : List Event} → Rising w → (e : Event) → In e w → sent side w e.number ≡ same_side side (side_of e.change.place)
sent_of side Rising.none e i = absurd (in_none i)
sent_of side (Rising.one {e = f} {es} above rest) e i =
    ⊎_elim
    (λ p. subst (λ (x : Event). sent side (f ∷ es) x.number ≡ same_side side (side_of x.change.place)) p (sent_here side f es f.number (eq-eqb _ _ refl)))
    (λ j. let lt = above e j in let ne : f.number ≡ e.number → ⊥ = λ q. omega arith in
    sent_past side f es e.number (ne_eqb _ _ ne) ∙ sent_of side rest e j)
    (in_cons i)

-- ---- events cut down to a part
cuts_same : (s t : Seen) (es : List Event) → ((e : Event) → In e es → (n : ℕ) → (e.saw n && s n) ≡ (e.saw n && t n)) → cuts s es ≡ cuts t es
unfolding cuts
cuts_same s t [] q = refl
cuts_same s t (e ∷ es) q =
    let more = cuts_same s t es (λ f i. q f (In.there i)) in
    let first = fun_ext (q e In.here) in
    λ i. record { number = e.number; branch = e.branch; change = halved e.change; saw = first i } ∷ more i

cuts_append : (s : Seen) (es fs : List Event) → cuts s (es ++ fs) ≡ cuts s es ++ cuts s fs
unfolding cuts
cuts_append s [] fs = refl
cuts_append s (e ∷ es) fs = ap {B = List Event} (λ l. cut s e ∷ l) (cuts_append s es fs)

cuts_one : (s : Seen) (e : Event) → cuts s (e ∷ []) ≡ cut s e ∷ []
unfolding cuts
cuts_one s e = refl

pick_cuts : (s t : Seen) (es : List Event) → pick s (cuts t es) ≡ cuts t (pick s es)
unfolding cuts
pick_cuts s t [] = rw (pick_none s)
pick_cuts s t (e ∷ es) =
    let more = pick_cuts s t es in
    by_bool (s e.number)
    (λ y. pick_yes s (cut t e) (cuts t es) y ∙ ap {B = List Event} (λ l. cut t e ∷ l) more ∙ sym (ap (cuts t) (pick_yes s e es y)))
    (λ y. pick_no s (cut t e) (cuts t es) y ∙ more ∙ sym (ap (cuts t) (pick_no s e es y)))

in_cuts : (s : Seen) (es : List Event) (e : Event) → In e es → In (cut s e) (cuts s es)
unfolding cuts
in_cuts s [] e i = absurd (in_none i)
in_cuts s (f ∷ fs) e i = ⊎_elim (λ p. subst (λ x. In (cut s x) (cut s f ∷ cuts s fs)) p In.here) (λ j. In.there (in_cuts s fs e j)) (in_cons i)

of_cuts : (s : Seen) (es : List Event) (e : Event) → In e (cuts s es) → (f : Event) × In f es × (cut s f ≡ e)
unfolding cuts
of_cuts s [] e i = absurd (in_none i)
of_cuts s (f ∷ fs) e i = ⊎_elim (λ p. (f, In.here, p)) (λ j. let r = of_cuts s fs e j in (r.0, In.there r.1, r.2)) (in_cons i)

rising_cuts : (s : Seen) {es : List Event} → Rising es → Rising (cuts s es)
unfolding cuts
rising_cuts s Rising.none = Rising.none
rising_cuts s (Rising.one {e} {es} above rest) =
    Rising.one (λ f i. let r = of_cuts s es f i in subst (λ (x : Event). e.number < x.number) r.2 (above r.0 r.1)) (rising_cuts s rest)

-- ---- a part's events
of_part : (side : Side) (w : List Event) (e : Event) → In e (part side w) →
    (f : Event) × In f w × (sent side w f.number ≡ true) × (cut (sent side w) f ≡ e)
of_part side w e i =
    let r = of_cuts (sent side w) (pick (sent side w) w) e i in
    let p = of_picked (sent side w) w r.0 r.1 in
    (r.0, p.0, p.1, r.2)

in_part : (side : Side) (w : List Event) (f : Event) → In f w → sent side w f.number ≡ true → In (cut (sent side w) f) (part side w)
in_part side w f i y = in_cuts (sent side w) (pick (sent side w) w) f (picked (sent side w) w f i y)

-- the part of what a closed set picks is what the set picks of the part
pub part_pick : (side : Side) (s : Seen) (w : List Event) → Closed s w → part side (pick s w) ≡ pick s (part side w)
part_pick side s w closed =
    let S = sent side w in
    let as-common : sent side (pick s w) ≡ common s S = fun_ext (sent_pick side s w) in
    let twice : pick (common s S) (pick s w) ≡ pick (common s S) w =
    pick_pick (common s S) s w ∙ pick_same (common (common s S) s) (common s S) w (λ e i. again (s e.number) (S e.number)) in
    let cut-same : cuts (common s S) (pick (common s S) w) ≡ cuts S (pick (common s S) w) =
    cuts_same (common s S) S (pick (common s S) w)
    (λ e i n. let r = of_picked (common s S) w e i in
    by_bool (e.saw n)
    (λ y. rw (y, closed e n r.0 (and_parts _ _ r.1).0 y))
    (λ y. rw y)) in
    ap (λ (t : Seen). cuts t (pick t (pick s w))) as-common ∙ ap (cuts (common s S)) twice ∙ cut-same
    ∙ sym (ap (cuts S) (pick_pick s S w)) ∙ sym (pick_cuts s S (pick S w))
  where
    again : (x y : Bool) → (x && y && x) ≡ (x && y)
    again true true = refl
    again true false = refl
    again false y = refl

pub closed_part : (side : Side) (s : Seen) (w : List Event) → Closed s w → Closed s (part side w)
closed_part side s w closed e n i y saw =
    let q = of_part side w e i in
    let z : (q.0.saw n && sent side w n) ≡ true = subst (λ (x : Event). x.saw n ≡ true) (sym q.3) saw in
    closed q.0 n q.1 (subst (λ (x : Event). s x.number ≡ true) (sym q.3) y) (and_parts _ _ z).0

-- ---- a part of a history is a history
pub history_part : (side : Side) (w : List Event) → History w → History (part side w)
history_part side w H =
    let S = sent side w in
    record {
      rising = rising_cuts S (rising_pick S H.rising);
      numbered = λ e i. let q = of_part side w e i in subst (λ (x : Event). (0 < x.number) × (x.number ≤ 4095)) q.3 (H.numbered q.0 q.1);
      branched = λ e i. let q = of_part side w e i in subst (λ (x : Event). x.branch < 16) q.3 (H.branched q.0 q.1);
      whole = λ e n i. let q = of_part side w e i in
          subst (λ (x : Event). x.saw n ≡ true → (f : Event) × (In f (part side w) × (f.number ≡ n))) q.3
          (λ y. let z = and_parts (q.0.saw n) (S n) y in
          let k = H.whole q.0 n q.1 z.0 in
          (cut S k.0, (in_part side w k.0 k.1.0 (ap S k.1.1 ∙ z.1), k.1.1)));
      earlier = λ e n i. let q = of_part side w e i in
          subst (λ (x : Event). x.saw n ≡ true → n < x.number) q.3 (λ y. H.earlier q.0 n q.1 (and_parts _ _ y).0);
      transitive = λ e f n i j. let q = of_part side w e i in let k = of_part side w f j in
          subst (λ (x : Event). x.saw f.number ≡ true → f.saw n ≡ true → x.saw n ≡ true) q.3
          (subst (λ (y : Event). (cut S q.0).saw y.number ≡ true → y.saw n ≡ true → (cut S q.0).saw n ≡ true) k.3
          (λ a b. and_from _ _ (H.transitive q.0 k.0 n q.1 k.1 (and_parts _ _ a).0 (and_parts (k.0.saw n) (S n) b).0) (and_parts (k.0.saw n) (S n) b).1));
      in_turn = λ e f i j. let q = of_part side w e i in let k = of_part side w f j in
          subst (λ (x : Event). x.branch ≡ f.branch → f.number < x.number → x.saw f.number ≡ true) q.3
          (subst (λ (y : Event). q.0.branch ≡ y.branch → y.number < q.0.number → (cut S q.0).saw y.number ≡ true) k.3
          (λ a b. and_from _ _ (H.in_turn q.0 k.0 q.1 k.1 a b) k.2));
    }

pub known_part : (l r : Meaning) (side : Side) (w : List Event) → Rising w → Known (pair l r) w → Known (on side l r) (part side w)
known_part l r side w rising K e i =
    let q = of_part side w e i in
    let at = same_is side _ (sym (sent_of side rising q.0 q.1) ∙ q.2) in
    subst (λ (x : Event). (on side l r).knows x.change ≡ true) q.3
    (ap (λ (s : Side). (on s l r).knows (halved q.0.change)) (sym at) ∙ K q.0 q.1)

-- ---- one event more
sent_other : (side : Side) (h : List Event) (e : Event) (n : ℕ) → eqb e.number n ≡ false → sent side (h ++ (e ∷ [])) n ≡ sent side h n
sent_other side [] e n q = sent_past side e [] n q
sent_other side (f ∷ fs) e n q =
    by_bool (eqb f.number n)
    (λ y. sent_here side f (fs ++ (e ∷ [])) n y ∙ sym (sent_here side f fs n y))
    (λ y. sent_past side f (fs ++ (e ∷ [])) n y ∙ sent_other side fs e n q ∙ sym (sent_past side f fs n y))

sent_last : (side : Side) (h : List Event) (e : Event) → ((f : Event) → In f h → f.number < e.number) →
    sent side (h ++ (e ∷ [])) e.number ≡ same_side side (side_of e.change.place)
sent_last side [] e above = sent_here side e [] e.number (eq-eqb _ _ refl)
sent_last side (f ∷ fs) e above =
    let lt = above f In.here in
    let ne : f.number ≡ e.number → ⊥ = λ q. omega arith in
    sent_past side f (fs ++ (e ∷ [])) e.number (ne_eqb _ _ ne) ∙ sent_last side fs e (λ g i. above g (In.there i))

-- the event as the part gets it
abbrev pub last_cut : Side → List Event → Event → Event
last_cut side h e = cut (sent side (h ++ (e ∷ []))) e

module _ (side : Side) (h : List Event) (e : Event) (H : History h) (N : Next h e) where
  sent_below : (f : Event) → In f h → sent side (h ++ (e ∷ [])) f.number ≡ sent side h f.number
  sent_below f i = let lt = N.above f i in let ne : e.number ≡ f.number → ⊥ = λ q. omega arith in sent_other side h e f.number (ne_eqb _ _ ne)

  -- the events of before are picked and cut as they were
  as_before : cuts (sent side (h ++ (e ∷ []))) (pick (sent side (h ++ (e ∷ []))) h) ≡ part side h
  as_before =
      ap (cuts (sent side (h ++ (e ∷ [])))) (pick_same (sent side (h ++ (e ∷ []))) (sent side h) h sent_below)
      ∙ cuts_same (sent side (h ++ (e ∷ []))) (sent side h) (pick (sent side h) h)
      (λ f i n. let j = (of_picked (sent side h) h f i).0 in
      by_bool (f.saw n)
      (λ y. let a = N.above f j in let b = H.earlier f n j y in let ne : e.number ≡ n → ⊥ = λ q. omega arith in
      ap (λ (x : Bool). f.saw n && x) (sent_other side h e n (ne_eqb _ _ ne)))
      (λ y. rw y))

  pub part_mine : same_side side (side_of e.change.place) ≡ true → part side (h ++ (e ∷ [])) ≡ part side h ++ (last_cut side h e ∷ [])
  part_mine y =
      let S = sent side (h ++ (e ∷ [])) in
      let z : S e.number ≡ true = sent_last side h e N.above ∙ y in
      ap (cuts S) (pick_append S h (e ∷ []) ∙ ap (λ (l : List Event). pick S h ++ l) (pick_yes S e [] z ∙ ap {B = List Event} (λ l. e ∷ l) (pick_none S)))
      ∙ cuts_append S (pick S h) (e ∷ []) ∙ ap (λ (l : List Event). cuts S (pick S h) ++ l) (cuts_one S e)
      ∙ ap (λ (l : List Event). l ++ (cut S e ∷ [])) as_before

  pub part_other : same_side side (side_of e.change.place) ≡ false → part side (h ++ (e ∷ [])) ≡ part side h
  part_other y =
      let S = sent side (h ++ (e ∷ [])) in
      let z : S e.number ≡ false = sent_last side h e N.above ∙ y in
      ap (cuts S) (pick_append S h (e ∷ []) ∙ ap (λ (l : List Event). pick S h ++ l) (pick_no S e [] z ∙ pick_none S) ∙ append-nil (pick S h)) ∙ as_before

  pub next_part : Next (part side h) (last_cut side h e)
  next_part =
      let S = sent side (h ++ (e ∷ [])) in
      record {
        numbered = N.numbered;
        branched = N.branched;
        above = λ f i. let q = of_part side h f i in subst (λ (x : Event). x.number < e.number) q.3 (N.above q.0 q.1);
        all = λ f i. let q = of_part side h f i in
            subst (λ (x : Event). (e.saw x.number && S x.number) ≡ true) q.3
            (and_from _ _ (N.all q.0 q.1) (sent_below q.0 q.1 ∙ q.2));
        only = λ n y. let z = and_parts (e.saw n) (S n) y in
            let k = N.only n z.0 in (
              cut (sent side h) k.0,
              (in_part side h k.0 k.1.0 (sym (sent_below k.0 k.1.0) ∙ ap S k.1.1 ∙ z.1), k.1.1),
            );
      }
