-- What waits after a put, and after a take, that comes next after a history.
use Rattle.std.specs.Prelude.{◌≡◌, ℕ, ◌<◌, Bool, true, false, cond, not, ◌&&◌, ◌||◌, List, [], ◌∷◌, ◌++◌, map, drop, filter, ◌==◌, nat_eq}
use Rattle.std.proofs.Math.Path.{refl, sym, ap}
use Rattle.std.proofs.Common.{subst, ◌∙◌, arith, rules, tests}
use mathlib.Core.List.{append-nil}
use Rattle.std.proofs.lemmas.Bool.{and_from, eq-eqb, ne_eqb}
use Rattle.std.proofs.lemmas.List.Elements.{All-weaker, filter-append, filter_agree}
use Rattle.std.proofs.lemmas.List.Folds.{list_any-append, list_any_none}
use Rattle.std.proofs.lemmas.List.{map-append, drop-map}
use Rattle.kinds.specs.Events.{Event, Rising}
use Rattle.kinds.specs.History.{History, Next}
use Rattle.queues.specs.Queue.{is_put, is_take, Taking, took, waits, waiting_in, first_taking, takings, waiting}
use Rattle.queues.specs.Line.{wait_of, line}
use Rattle.queues.proofs.Kept.{any_same, kept_same, kept_kept, kept_all, rising_kept, above_first}
use Rattle.queues.proofs.Takings.{takings_all, takings_more}

module _ (h : List Event) (e : Event) (H : History h) (N : Next h e) where
  -- ---- a put
  -- no take of the history took the event that comes next
  untaken : took (λ n. true) (takings h) e.number ≡ false
  untaken = list_any_none (λ t. nat_eq t.item e.number) (takings h)
      (All-weaker (λ t. t.item < e.number) (λ t. nat_eq t.item e.number ≡ false) (λ t l. ne_eqb t.item e.number (λ (q : t.item ≡ e.number). omega arith)) (takings h)
      (takings_all (λ t. t.item < e.number) h (λ f n i saw. let a = H.earlier f n i saw in let b = N.above f i in omega arith)))

  put_takings : is_take e ≡ false → takings (h ++ (e ∷ [])) ≡ takings h
  put_takings isnt = takings_more h e ∙ ap (λ b. takings h ++ cond b (first_taking e (waiting_in e.saw (takings h) h)) []) isnt ∙ append-nil (takings h)

  pub put_waiting : is_put e ≡ true → is_take e ≡ false → waiting (h ++ (e ∷ [])) ≡ waiting h ++ (e ∷ [])
  unfolding waiting
  put_waiting is isnt =
      let waits-e : waits (λ n. true) (takings h) e ≡ true = and_from (is_put e) (not (took (λ n. true) (takings h) e.number)) is (ap not untaken) in
      ap (λ ts. waiting_in (λ n. true) ts (h ++ (e ∷ []))) (put_takings isnt)
      ∙ filter-append (waits (λ n. true) (takings h)) h (e ∷ [])
      ∙ ap {B = List Event} (λ b. waiting_in (λ n. true) (takings h) h ++ cond b (e ∷ []) []) waits-e

  pub put_line : is_put e ≡ true → is_take e ≡ false → line (h ++ (e ∷ [])) ≡ line h ++ (wait_of e ∷ [])
  unfolding line
  put_line is isnt = ap (map wait_of) (put_waiting is isnt) ∙ map-append wait_of (waiting h) (e ∷ [])

  -- ---- a take
  -- a take that comes next saw all that waits
  all_seen : waiting_in e.saw (takings h) h ≡ waiting h
  unfolding waiting
  all_seen = kept_same (waits e.saw (takings h)) (waits (λ n. true) (takings h)) h
      (λ f i. (λ k. is_put f && (N.all f i k && not (took e.saw (takings h) f.number))) ∙ ap (λ b. is_put f && not b) (same_took f.number))
    where
      same_took : (n : ℕ) → took e.saw (takings h) n ≡ took (λ k. true) (takings h) n
      same_took n = any_same (λ t. e.saw t.by && t.item == n) (λ t. nat_eq t.item n) (takings h)
          (All-weaker (λ t. e.saw t.by ≡ true) (λ t. (e.saw t.by && t.item == n) ≡ nat_eq t.item n) (λ t y. ap (λ b. b && t.item == n) y) (takings h)
          (takings_all (λ t. e.saw t.by ≡ true) h (λ f k i saw. N.all f i)))

  take_takings : is_take e ≡ true → takings (h ++ (e ∷ [])) ≡ takings h ++ first_taking e (waiting h)
  take_takings is =
      takings_more h e ∙ ap (λ b. takings h ++ cond b (first_taking e (waiting_in e.saw (takings h) h)) []) is
      ∙ ap (λ ws. takings h ++ first_taking e ws) all_seen

  rises_waiting : Rising (waiting h)
  unfolding waiting
  rises_waiting = rising_kept (waits (λ n. true) (takings h)) H.rising

  -- what waits after the first of it was taken
  rest : (ws : List Event) → waiting h ≡ ws → waiting_in (λ n. true) (takings h ++ first_taking e ws) h ≡ drop 1 ws
  unfolding waiting
  rest [] q = ap (λ ts. waiting_in (λ n. true) ts h) (append-nil (takings h)) ∙ q
  rest (p ∷ ps) q =
      filter_agree (waits (λ n. true) (takings h ++ first_taking e (p ∷ ps))) (λ f. waits (λ n. true) (takings h) f && others f)
      (λ f. ap (λ b. is_put f && not b) (list_any-append (λ t. nat_eq t.item f.number) (takings h) (first_taking e (p ∷ ps)))
      ∙ apart (is_put f) (took (λ n. true) (takings h) f.number) (p.number == f.number)) h
      ∙ sym (kept_kept others (waits (λ n. true) (takings h)) h)
      ∙ ap (filter others) q
      ∙ ap {B = List Event} (λ b. cond (not b) (p ∷ filter others ps) (filter others ps)) (eq-eqb p.number p.number refl)
      ∙ kept_all others ps (λ f i. let l = above_first (subst Rising q rises_waiting) f i in ap not (ne_eqb p.number f.number (λ (c : p.number ≡ f.number). omega arith)))
    where
      others : Event → Bool
      others f = not (p.number == f.number)

      apart : (a b c : Bool) → (a && not (b || (c || false))) ≡ ((a && not b) && not c)
      apart a b c = search (rules, tests)

  pub take_waiting : is_take e ≡ true → is_put e ≡ false → waiting (h ++ (e ∷ [])) ≡ drop 1 (waiting h)
  unfolding waiting
  take_waiting is isnt =
      let ts : List Taking = takings h ++ first_taking e (waiting h) in
      ap (λ ts. waiting_in (λ n. true) ts (h ++ (e ∷ []))) (take_takings is)
      ∙ filter-append (waits (λ n. true) ts) h (e ∷ [])
      ∙ ap {B = List Event} (λ b. waiting_in (λ n. true) ts h ++ cond (b && not (took (λ n. true) ts e.number)) (e ∷ []) []) isnt
      ∙ append-nil (waiting_in (λ n. true) ts h)
      ∙ rest (waiting h) refl

  pub take_line : is_take e ≡ true → is_put e ≡ false → line (h ++ (e ∷ [])) ≡ drop 1 (line h)
  unfolding line
  take_line is isnt = ap (map wait_of) (take_waiting is isnt) ∙ sym (drop-map wait_of 1 (waiting h))
