-- The join of what waits in two parts of a history is what waits in both together.
use Rattle.std.specs.Prelude.{◌≡◌, ℕ, Bool, true, false, cond, not, ◌&&◌, ◌||◌, List, [], ◌∷◌, map, Some, None, filter, Option, ◌==◌, ◌≢◌, nat_eq, refl}
use Rattle.std.proofs.Common.{sym, subst, ◌∙◌, inl, inr, rules, tests}
use Rattle.std.proofs.Math.Path.{ap}
use Rattle.std.proofs.Math.Bool.{and-or_distrib_right}
use Rattle.std.proofs.lemmas.Bool.{both_ways, not-true, eqb-true, eq-eqb, and_parts, and_from, cases_Bool}
use Rattle.std.proofs.lemmas.List.Elements.{All-contains}
use Rattle.std.proofs.lemmas.List.Folds.{Any-from_list_any, list_any-from_Any}
use Rattle.std.specs.Ordering.{is_lt}
use Rattle.kinds.specs.Events.{Event, Seen, In, Rising, pick, common, joined}
use Rattle.kinds.specs.History.{History, Closed}
use Rattle.kinds.proofs.Picks.{of_picked, picked, rising_pick, closed_common, closed_joined}
use Rattle.std.specs.Ordering.{nat_cmp}
use Rattle.rows.specs.Rows.{find, over, rises_over, rises, outcome, Joined}
use Rattle.std.specs.List.{list_any}
use Rattle.rows.proofs.KeysLemmas.{number_less, total_number}
use Rattle.rows.proofs.Finds.{rises_none, rises_make}
use Rattle.rows.proofs.Listed.{any_some, any_none, one_number, found, not_found}
use Rattle.queues.specs.Queue.{is_put, took, waits, takings, waiting, waiting_in}
use Rattle.queues.specs.Line.{wait_key, same_wait, wait_of, line}
use Rattle.queues.specs.declared.wait.Wait.{Wait}
use Rattle.queues.proofs.Kept.{any_or, any_kept}
use Rattle.queues.proofs.Takings.{taken_in, takings_part, takings_all}

-- rows stand in the order of their events' numbers
line_rises : (p : Event → Bool) (m : Option ℕ) {es : List Event} → Rising es → ((e : Event) → In e es → over nat_cmp m e.number ≡ true) →
    rises_over nat_cmp wait_key m (map wait_of (filter p es)) ≡ true
line_rises p m Rising.none u = rises_none nat_cmp wait_key m
line_rises p m (Rising.one {e} {es} above rest) u =
    go (p e) (line_rises p (Some e.number) rest (λ f i. ap is_lt (number_less e.number f.number (above f i)))) (line_rises p m rest (λ f i. u f (In.there i)))
  where
    go : (t : Bool) → rises_over nat_cmp wait_key (Some e.number) (map wait_of (filter p es)) ≡ true → rises_over nat_cmp wait_key m (map wait_of (filter p es)) ≡ true →
        rises_over nat_cmp wait_key m (map wait_of (cond t (e ∷ filter p es) (filter p es))) ≡ true
    go true ih other = rises_make nat_cmp wait_key m (wait_of e) (map wait_of (filter p es)) (u e In.here) ih
    go false ih other = other

same_itself : (x : Wait) → same_wait x x ≡ true
same_itself x = search (rules, tests)

abbrev maybe : Bool → Wait → Option Wait
maybe b r = cond b (Some r) None

-- the join at a put's number: whether each part has it, and whether a take of each part took it
truth : (r : Wait) → same_wait r r ≡ true → (a b ta tb tl : Bool) → (ta ≡ true → a ≡ true) → (tb ≡ true → b ≡ true) → (tl ≡ true → ta ≡ true) → (tl ≡ true → tb ≡ true) →
    maybe ((a || b) && not (ta || tb)) r ≡ outcome same_wait (maybe ((a && b) && not tl) r) (maybe (a && not ta) r) (maybe (b && not tb) r)
truth r e a b ta tb tl ha hb la lb = search (rules, tests)

module _ (w : List Event) (hist : History w) where
  module _ (s : Seen) (closed : Closed s w) where
    -- whether a put of the part waits there, by what the whole has
    abbrev waits_there : Event → Bool
    waits_there e = waits (λ n. true) (taken_in s (takings w)) e

    line_is : line (pick s w) ≡ map wait_of (filter waits_there (pick s w))
    unfolding line waiting pick
    line_is = ap (λ ts. map wait_of (waiting_in (λ n. true) ts (pick s w))) (takings_part s [] [] w closed)

    took_is : (n : ℕ) → took (λ k. true) (taken_in s (takings w)) n ≡ took s (takings w) n
    took_is n = any_kept (λ t. nat_eq t.item n) (λ t. s t.by) (takings w)

    took_own : (n : ℕ) → took s (takings w) n ≡ true → s n ≡ true
    took_own n y =
        let r = Any-from_list_any (λ t. s t.by && t.item == n) (takings w) y in
        let b = and_parts (s r.1.by) (r.1.item == n) r.4 in
        subst (λ k. s k ≡ true) (eqb-true r.1.item n b.1)
        (All-contains (λ t. s t.by ≡ true → s t.item ≡ true) (takings w) r.1
        (takings_all (λ t. s t.by ≡ true → s t.item ≡ true) w (λ f k i saw z. closed f k i z saw)) (r.0, r.2, r.3) b.0)

    pub rises_line : rises nat_cmp wait_key (line (pick s w)) ≡ true
    rises_line = subst (λ xs. rises nat_cmp wait_key xs ≡ true) (sym line_is) (line_rises waits_there None (rising_pick s hist.rising) (λ e i. refl))

    at_put : (e : Event) → In e w → is_put e ≡ true → find nat_cmp wait_key e.number (line (pick s w)) ≡ maybe (s e.number && not (took s (takings w) e.number)) (wait_of e)
    at_put e i y = ap (find nat_cmp wait_key e.number) line_is ∙ go (s e.number) refl (took s (takings w) e.number) refl
      where
        go : (t : Bool) → s e.number ≡ t → (u : Bool) → took s (takings w) e.number ≡ u →
            find nat_cmp wait_key e.number (map wait_of (filter waits_there (pick s w))) ≡ maybe (t && not u) (wait_of e)
        go true p false q =
            found nat_cmp total_number wait_key wait_of waits_there e.number (pick s w) e (picked s w e i p)
            (and_from (is_put e) (not (took (λ k. true) (taken_in s (takings w)) e.number)) y (ap not (took_is e.number ∙ q))) refl
            (λ f j z c. ap wait_of (one_number hist.rising f e (of_picked s w f j).0 i c))
        go true p true q =
            not_found nat_cmp total_number wait_key wait_of waits_there e.number (pick s w)
            (λ f j z c. let b = not-true (took (λ k. true) (taken_in s (takings w)) f.number) (and_parts (is_put f) (not (took (λ k. true) (taken_in s (takings w)) f.number)) z).1 in
            both_ways (took s (takings w) e.number) (sym (took_is e.number) ∙ ap (took (λ k. true) (taken_in s (takings w))) (sym c) ∙ b) q)
        go false p u q =
            not_found nat_cmp total_number wait_key wait_of waits_there e.number (pick s w)
            (λ f j z c. both_ways (s e.number) p (subst (λ n. s n ≡ true) c (of_picked s w f j).1))

    at_none : (n : ℕ) → ((e : Event) → In e w → is_put e ≡ true → e.number ≢ n) → find nat_cmp wait_key n (line (pick s w)) ≡ None
    at_none n u =
        ap (find nat_cmp wait_key n) line_is
        ∙ not_found nat_cmp total_number wait_key wait_of waits_there n (pick s w)
        (λ f j z c. u f (of_picked s w f j).0 (and_parts (is_put f) (not (took (λ k. true) (taken_in s (takings w)) f.number)) z).0 c)

  module _ (a b : Seen) (ca : Closed a w) (cb : Closed b w) where
    cl : Closed (common a b) w
    cl = closed_common a b w ca cb

    cj : Closed (joined a b) w
    cj = closed_joined a b w ca cb

    -- what a take of both parts took, a take of each took
    less : (s : Seen) → ((n : ℕ) → common a b n ≡ true → s n ≡ true) → (n : ℕ) → took (common a b) (takings w) n ≡ true → took s (takings w) n ≡ true
    less s h n y =
        let r = Any-from_list_any (λ t. common a b t.by && t.item == n) (takings w) y in
        let c = and_parts (common a b r.1.by) (r.1.item == n) r.4 in
        list_any-from_Any (λ t. s t.by && t.item == n) (takings w) (r.0, r.1, r.2, r.3, and_from (s r.1.by) (r.1.item == n) (h r.1.by c.0) c.1)

    either : (n : ℕ) → took (joined a b) (takings w) n ≡ (took a (takings w) n || took b (takings w) n)
    either n =
        (λ i. list_any (λ t. and-or_distrib_right (a t.by) (b t.by) (t.item == n) i) (takings w))
        ∙ any_or (λ t. a t.by && t.item == n) (λ t. b t.by && t.item == n) (takings w)

    abbrev Joined-at : ℕ → Type 0
    Joined-at n = find nat_cmp wait_key n (line (pick (joined a b) w))
        ≡ outcome same_wait (find nat_cmp wait_key n (line (pick (common a b) w))) (find nat_cmp wait_key n (line (pick a w))) (find nat_cmp wait_key n (line (pick b w)))

    here_at : (e : Event) → In e w → is_put e ≡ true → Joined-at e.number
    here_at e i y =
        let n : ℕ = e.number in
        at_put (joined a b) cj e i y
        ∙ ap (λ t. maybe ((a n || b n) && not t) (wait_of e)) (either n)
        ∙ truth (wait_of e) (same_itself (wait_of e)) (a n) (b n) (took a (takings w) n) (took b (takings w) n) (took (common a b) (takings w) n) (took_own a ca n) (took_own b cb n)
        (less a (λ k z. (and_parts (a k) (b k) z).0) n) (less b (λ k z. (and_parts (a k) (b k) z).1) n)
        ∙ sym (λ k. outcome same_wait (at_put (common a b) cl e i y k) (at_put a ca e i y k) (at_put b cb e i y k))

    abbrev put-at : ℕ → Event → Bool
    put-at n e = is_put e && e.number == n

    pub lines_joined : Joined nat_cmp wait_key same_wait (line (pick (common a b) w)) (line (pick a w)) (line (pick b w)) (line (pick (joined a b) w))
    lines_joined = record {
      rising = rises_line (joined a b) cj;
      at = λ n. elim (cases_Bool (list_any (put-at n) w)) [
        | inl y ↦
            let r = any_some (put-at n) w y in
            let c = and_parts (is_put r.0) (r.0.number == n) r.2 in
            subst Joined-at (eqb-true r.0.number n c.1) (here_at r.0 r.1 c.0)
        | inr y ↦
            let u : (e : Event) → In e w → is_put e ≡ true → e.number ≢ n
            = λ e i p q. both_ways (put-at n e) (any_none (put-at n) y i) (and_from (is_put e) (e.number == n) p (eq-eqb e.number n q)) in
            at_none (joined a b) cj n u ∙ sym (λ k. outcome same_wait (at_none (common a b) cl n u k) (at_none a ca n u k) (at_none b cb n u k))
      ];
    }
