-- What a part's call gives, as the pair gives it.
use Rattle.std.proofs.Common.{◌≡◌, ℕ, ◌/◌, ◌%◌, ◌^◌, ◌<◌, Bool, true, false, ◌&&◌, eqb, List, [], ◌∷◌, ◌++◌, ℤ, Ok, Err, Result, MatchResult, IsErrAnd, sym, refl, ap, ◌∙◌, subst, arith}
use Rattle.std.proofs.lemmas.Bool.{and_from, and_left, and_right, eqb-true, eqb-false}
use Rattle.kinds.specs.Events.{Event, Seen, pick, common, joined}
use Rattle.kinds.specs.History.{History, Closed, Next}
use Rattle.kinds.specs.Meaning.{Meaning, Known}
use Rattle.kinds.specs.Duties.{Changed, Changes, Merged, Merges, Answers, Stamped}
use Rattle.kinds.specs.Pair.{side_of, on, outer, outer_fault, halved, halved_question, part, pair}
use Rattle.kinds.specs.declared.calls.Change.{Change}
use Rattle.kinds.specs.declared.calls.Question.{Question}
use Rattle.kinds.specs.declared.calls.Stamp.{Stamp}
use Rattle.kinds.specs.declared.fault.KindFault.{KindFault}
use Rattle.kinds.specs.declared.fault.KindFault.TheVariants.{UnknownChange, DoesNotFit, UnknownQuestion}
use Rattle.kinds.specs.declared.pair.Pair.{Pair}
use Rattle.kinds.specs.declared.pair.Side.{Side}
use Rattle.kinds.specs.declared.pair.Side.TheVariants.{Left, Right}
use Rattle.kinds.proofs.Outcomes.{ok_not_err, same_fault, same_value}
use Rattle.kinds.proofs.Picks.{by_bool, closed_common, closed_joined}
use Rattle.kinds.proofs.Parts.{opposite, same_yes, same_no, history_part, known_part, next_part, closed_part, part_mine, part_other, part_pick, last_cut}

-- halved and sent back, a place is as it was asked
outer_half : (p : ℕ) → p < 2 ^ 32 → outer (side_of p) (p / 2) ≡ p
outer_half p b =
    by_bool (eqb (p % 2) 0)
    (λ y. let q = eqb-true (p % 2) 0 y in rw y (omega arith))
    (λ y. let q = eqb-false (p % 2) 0 y in rw y (omega arith))

outer_at : (side : Side) (p : ℕ) → side_of p ≡ side → p < 2 ^ 32 → outer side (p / 2) ≡ p
outer_at side p o b = ap (λ (s : Side). outer s (p / 2)) (sym o) ∙ outer_half p b

-- a part's result as the pair's: a fault names the pair's place
abbrev pub outer_result : {A : Type 0} → Side → Result A KindFault → Result A KindFault
outer_result side (Ok v) = Ok v
outer_result side (Err f) = Err (outer_fault side f)

-- that is what the result x of side s becomes where its fault is mapped
pub mapped : {A : Type 0} (s : Side) (x : Result A KindFault) {y w : Result A KindFault} {post : KindFault → KindFault → Type 0} → MatchResult x (λ v. y ≡ Ok v) (λ e. IsErrAnd y (post e)) →
    ((e f : KindFault) → post e f → f ≡ outer_fault s e) → y ≡ w → w ≡ outer_result s x
mapped {A} s x {y} {w} {post} m says is = sym is ∙ go x y m
  where
    go : (x y : Result A KindFault) → MatchResult x (λ v. y ≡ Ok v) (λ e. IsErrAnd y (post e)) → y ≡ outer_result s x
    go (Ok v) y m = m
    go (Err e) (Ok w) m = absurd m
    go (Err e) (Err f) m = ap Err (says e f m)

-- where s is this side, and x this result of the side's part
pub sent_out : {A : Type 0} (side s : Side) (x w y : Result A KindFault) → s ≡ side → x ≡ w → y ≡ outer_result s x → y ≡ outer_result side w
sent_out side s x w y p q out = out ∙ ap (λ (t : Side). outer_result t x) p ∙ ap (outer_result side) q

-- ---- a question
module _ {X V : Type 0} (l r : Meaning) (side : Side) (P : X → List Event → Type 0) (R : V → List Event → Type 0) (v-in : X) (v : V)
    (split : (h : List Event) → R v h → P v-in (part side h)) where
  pub pair_answers : (q inner : Question) (x y : Result ℤ KindFault) → side_of q.place ≡ side → q.place < 2 ^ 32 → inner ≡ halved_question q →
      y ≡ outer_result side x → Answers (on side l r) P v-in inner x → Answers (pair l r) R v q y
  pair_answers q inner x y o b is out given =
      let call = subst (λ (i : Question). Answers (on side l r) P v-in i x) is given in
      record {
        known = λ heard h H K rep.
            let z = call.known (ap (λ (s : Side). (on s l r).hears (halved_question q)) (sym o) ∙ heard) (part side h) (history_part side h H)
            (known_part l r side h H.rising K) (split h rep) in
            out ∙ ap (outer_result side) z ∙ ap (λ (s : Side). Ok ((on s l r).answer (part s h) (halved_question q))) (sym o);
        unknown = λ unheard.
            out ∙ ap (outer_result side) (call.unknown (ap (λ (s : Side). (on s l r).hears (halved_question q)) (sym o) ∙ unheard))
            ∙ ap (λ (n : ℕ). Err (UnknownQuestion n)) (outer_at side q.place o b);
      }

-- ---- a change
-- where the other part fits, the pair fits as this part does
fits_side : (l r : Meaning) (side : Side) (h : List Event) → (on side r l).fits (part (opposite side) h) ≡ true → (pair l r).fits h ≡ (on side l r).fits (part side h)
fits_side l r Right h p = rw p
fits_side l r Left h p = and_true (l.fits (part Left h)) (r.fits (part Right h)) p
  where
    and_true : (x y : Bool) → y ≡ true → (x && y) ≡ x
    and_true true y q = q
    and_true false y q = refl

misfit_side : (l r : Meaning) (side : Side) (h : List Event) → (on side r l).fits (part (opposite side) h) ≡ true → (on side l r).fits (part side h) ≡ false →
    (pair l r).misfit h ≡ outer side ((on side l r).misfit (part side h))
misfit_side l r Right h p q = rw p
misfit_side l r Left h p q = rw q

outer_err : (side : Side) (x : Result ℤ KindFault) (f : KindFault) → outer_result side x ≡ Err f → (g : KindFault) × (x ≡ Err g)
outer_err side (Ok v) f p = absurd (ok_not_err p)
outer_err side (Err g) f p = (g, refl)

-- The change goes to one side's part, whose value is v-in, and the other part's value stays.
module _ {X Y V : Type 0} (l r : Meaning) (side : Side) (P : X → List Event → Type 0) (Q : Y → List Event → Type 0) (R : V → List Event → Type 0)
    (fitting : (y : Y) (h : List Event) → Q y h → (on side r l).fits h ≡ true) (before-in after-in : X) (other : Y) (before after : V)
    (split : (h : List Event) → R before h → P before-in (part side h) × Q other (part (opposite side) h))
    (made : (h : List Event) → P after-in (part side h) → Q other (part (opposite side) h) → R after h)
    (kept : after-in ≡ before-in → after ≡ before)
    (stamp : Stamp) (change inner : Change) (x : Result ℤ KindFault) (o : side_of change.place ≡ side) (b : change.place < 2 ^ 32) (is : inner ≡ halved change) where
  module _ (h : List Event) (e : Event) (H : History h) (N : Next h e) (S : Stamped stamp change e) (rep : R before h) where
    at : side_of e.change.place ≡ side
    at = ap (λ (c : Change). side_of c.place) S.made ∙ o

    mine : part side (h ++ (e ∷ [])) ≡ part side h ++ (last_cut side h e ∷ [])
    mine = part_mine side h e H N (same_yes side _ at)

    idle : part (opposite side) (h ++ (e ∷ [])) ≡ part (opposite side) h
    idle = part_other (opposite side) h e H N (same_no side _ at)

    idle_fits : (on side r l).fits (part (opposite side) (h ++ (e ∷ []))) ≡ true
    idle_fits = ap (on side r l).fits idle ∙ fitting other _ (split h rep).1

    knows_is : (pair l r).knows e.change ≡ (on side l r).knows (halved e.change)
    knows_is = ap (λ (s : Side). (on s l r).knows (halved e.change)) at

    place_is : outer side (e.change.place / 2) ≡ e.change.place
    place_is = outer_at side _ at (subst (λ (c : Change). c.place < 2 ^ 32) (sym S.made) b)

    pair_changed : Changed (on side l r) P (part side h) (last_cut side h e) x after-in → Changed (pair l r) R h e (outer_result side x) after
    pair_changed (Changed.unknown k p) = Changed.unknown (knows_is ∙ k) (ap (outer_result side) p ∙ ap (λ (n : ℕ). Err (UnknownChange n)) place_is)
    pair_changed (Changed.misfit k f p) =
        let f' : (on side l r).fits (part side (h ++ (e ∷ []))) ≡ false = ap (on side l r).fits mine ∙ f in
        Changed.misfit (knows_is ∙ k) (fits_side l r side _ idle_fits ∙ f')
        (ap (outer_result side) p ∙ ap (λ (n : ℕ). Err (DoesNotFit n))
        (ap (λ (t : List Event). outer side ((on side l r).misfit t)) (sym mine) ∙ sym (misfit_side l r side _ idle_fits f')))
    pair_changed (Changed.done k f p q) =
        Changed.done (knows_is ∙ k) (fits_side l r side _ idle_fits ∙ ap (on side l r).fits mine ∙ f)
        (ap (outer_result side) p ∙ ap (λ (s : Side). Ok ((on s l r).reply (part s h) (halved e.change))) (sym at))
        (made _ (subst (P after-in) (sym mine) q) (subst (Q other) (sym idle) (split h rep).1))

  pub pair_changes : (y : Result ℤ KindFault) → y ≡ outer_result side x → Changes (on side l r) P before-in stamp inner x after-in →
      Changes (pair l r) R before stamp change y after
  pair_changes y out call = record {
    defined = λ h e H K N S rep.
        subst (λ (z : Result ℤ KindFault). Changed (pair l r) R h e z after) (sym out) (pair_changed h e H N S rep
        (call.defined (part side h) (last_cut side h e) (history_part side h H) (known_part l r side h H.rising K) (next_part side h e H N)
        (record { number = S.number; branch = S.branch; made = ap halved S.made ∙ sym is }) (split h rep).0));
    unaltered = λ f p. let g = outer_err side x f (sym out ∙ p) in kept (call.unaltered g.0 g.1);
  }

-- ---- a merge
-- what a part's merge gives, on the part's history
part_merged : {X : Type 0} (l r : Meaning) (side : Side) (P : X → List Event → Type 0) (base first second : X) (x : Result X KindFault) →
    Merges (on side l r) P base first second x → (w : List Event) (a b : Seen) → History w → Known (pair l r) w → Closed a w → Closed b w →
    P base (part side (pick (common a b) w)) → P first (part side (pick a w)) → P second (part side (pick b w)) →
    Merged (on side l r) P (part side (pick (joined a b) w)) x
part_merged l r side P base first second x call w a b H K ca cb r0 r1 r2 =
    subst (λ (h : List Event). Merged (on side l r) P h x) (sym (part_pick side (joined a b) w (closed_joined a b w ca cb)))
    (call (part side w) a b (history_part side w H) (known_part l r side w H.rising K) (closed_part side a w ca) (closed_part side b w cb)
    (subst (P base) (part_pick side (common a b) w (closed_common a b w ca cb)) r0) (subst (P first) (part_pick side a w ca) r1) (subst (P second) (part_pick side b w cb) r2))

-- a pair's value stands for a history if its parts' values stand for the parts
abbrev Both : {X Y : Type 0} → (X → List Event → Type 0) → (Y → List Event → Type 0) → Pair X Y → List Event → Type 0
Both P Q v h = P v.left (part Left h) × Q v.right (part Right h)

module _ {X Y : Type 0} (l r : Meaning) (P : X → List Event → Type 0) (Q : Y → List Event → Type 0) (h : List Event) (x : Result X KindFault) where
  left_named : (f : KindFault) → ◌≡◌ {A = Result X KindFault} (Err f) (outer_result Left x) → Merged l P (part Left h) x → Merged (pair l r) (Both P Q) h (Err f)
  left_named f o (Merged.done v s p u) = absurd (ok_not_err (sym (o ∙ ap (outer_result Left) p)))
  left_named f o (Merged.misfit s p) = let e = same_fault (o ∙ ap (outer_result Left) p) in Merged.misfit (and_left _ _ s) (rw (e, s))

  right_named : (y : Result Y KindFault) (f : KindFault) (u : X) → Ok u ≡ outer_result Left x → ◌≡◌ {A = Result Y KindFault} (Err f) (outer_result Right y) →
      Merged l P (part Left h) x → Merged r Q (part Right h) y → Merged (pair l r) (Both P Q) h (Err f)
  right_named y f u i o (Merged.misfit s p) m = absurd (ok_not_err (i ∙ ap (outer_result Left) p))
  right_named y f u i o (Merged.done a s p t) (Merged.done v q e w) = absurd (ok_not_err (sym (o ∙ ap (outer_result Right) e)))
  right_named y f u i o (Merged.done a s p t) (Merged.misfit q e) =
      let d = same_fault (o ∙ ap (outer_result Right) e) in Merged.misfit (and_right _ _ q) (rw (d, s))

  both_made : (y : Result Y KindFault) (u : X) (v : Y) → Ok u ≡ outer_result Left x → Ok v ≡ outer_result Right y →
      Merged l P (part Left h) x → Merged r Q (part Right h) y → Merged (pair l r) (Both P Q) h (Ok (record { left = u; right = v }))
  both_made y u v i j (Merged.misfit s p) m = absurd (ok_not_err (i ∙ ap (outer_result Left) p))
  both_made y u v i j (Merged.done a s p t) (Merged.misfit q e) = absurd (ok_not_err (j ∙ ap (outer_result Right) e))
  both_made y u v i j (Merged.done a s p t) (Merged.done b q e w) =
      Merged.done (record { left = u; right = v }) (and_from _ _ s q) refl (
        subst (λ (z : X). P z (part Left h)) (sym (same_value (i ∙ ap (outer_result Left) p))) t,
        subst (λ (z : Y). Q z (part Right h)) (sym (same_value (j ∙ ap (outer_result Right) e))) w,
      )

-- The three ends of a pair's merge, which begins with the left part: x and y are what the parts' merges give, and x' and y' are these
-- where their faults are mapped.
module _ {X Y : Type 0} (l r : Meaning) (P : X → List Event → Type 0) (Q : Y → List Event → Type 0) (base first second : Pair X Y) where
  abbrev Owed : Result (Pair X Y) KindFault → Type 0
  Owed z = Merges (pair l r) (λ v h. P v.left (part Left h) × Q v.right (part Right h)) base first second z

  module _ (x : Result X KindFault) (on-left : Merges l P base.left first.left second.left x) {x' : Result X KindFault} {left-post : KindFault → KindFault → Type 0}
      (left-mapped : MatchResult x (λ v. x' ≡ Ok v) (λ e. IsErrAnd x' (left-post e))) (left-says : (e f : KindFault) → left-post e f → f ≡ outer_fault Left e) where
    pub merge_stops_left : (f : KindFault) (z : Result (Pair X Y) KindFault) → z ≡ Err f → x' ≡ Err f → Owed z
    merge_stops_left f z e o w a b H K ca cb r0 r1 r2 =
        subst (λ (m : Result (Pair X Y) KindFault). Merged (pair l r) (Both P Q) (pick (joined a b) w) m) (sym e)
        (left_named l r P Q (pick (joined a b) w) x f (mapped Left x left-mapped left-says o) (part_merged l r Left P _ _ _ x on-left w a b H K ca cb r0.0 r1.0 r2.0))

    module _ (u : X) (i : x' ≡ Ok u) (y : Result Y KindFault) (on-right : Merges r Q base.right first.right second.right y) {y' : Result Y KindFault}
        {right-post : KindFault → KindFault → Type 0} (right-mapped : MatchResult y (λ v. y' ≡ Ok v) (λ e. IsErrAnd y' (right-post e)))
        (right-says : (e f : KindFault) → right-post e f → f ≡ outer_fault Right e) where
      pub merge_stops_right : (f : KindFault) (z : Result (Pair X Y) KindFault) → z ≡ Err f → y' ≡ Err f → Owed z
      merge_stops_right f z e o w a b H K ca cb r0 r1 r2 =
          subst (λ (m : Result (Pair X Y) KindFault). Merged (pair l r) (Both P Q) (pick (joined a b) w) m) (sym e)
          (right_named l r P Q (pick (joined a b) w) x y f u (mapped Left x left-mapped left-says i) (mapped Right y right-mapped right-says o)
          (part_merged l r Left P _ _ _ x on-left w a b H K ca cb r0.0 r1.0 r2.0) (part_merged l r Right Q _ _ _ y on-right w a b H K ca cb r0.1 r1.1 r2.1))

      pub merge_ends : (v : Y) → y' ≡ Ok v → Owed (Ok (record { left = u; right = v }))
      merge_ends v o w a b H K ca cb r0 r1 r2 =
          both_made l r P Q (pick (joined a b) w) x y u v (mapped Left x left-mapped left-says i) (mapped Right y right-mapped right-says o)
          (part_merged l r Left P _ _ _ x on-left w a b H K ca cb r0.0 r1.0 r2.0) (part_merged l r Right Q _ _ _ y on-right w a b H K ca cb r0.1 r1.1 r2.1)
