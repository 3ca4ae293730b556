-- Which objects are members of a set after a mark, and after a clear, that comes next after a history.
use Rattle.std.specs.Prelude.{◌≡◌, ℕ, Bool, true, false, not, ◌&&◌, ◌||◌, List, [], ◌∷◌, ◌++◌, ◌==◌}
use Rattle.std.specs.List.{list_any}
use Rattle.std.proofs.Common.{sym, ap, refl, ◌∙◌, arith, rules, tests}
use Rattle.std.proofs.Math.Bool.{and-true, and-false, or-false}
use Rattle.std.proofs.lemmas.Bool.{false_from_ne_true, eqb-true}
use Rattle.std.proofs.lemmas.List.Folds.{list_any-append}
use Rattle.kinds.specs.Events.{Event, In}
use Rattle.kinds.specs.History.{History, Next}
use Rattle.rows.proofs.Listed.{any_nothing}
use Rattle.sets.specs.Set.{object, is_mark, clears, cleared, live, member}

-- tests that agree on a list find alike
any_alike : (p q : Event → Bool) (es : List Event) → ((e : Event) → In e es → p e ≡ q e) → list_any p es ≡ list_any q es
any_alike p q [] u = refl
any_alike p q (e ∷ es) u = λ i. u e In.here i || any_alike p q es (λ f j. u f (In.there j)) i

-- a test that asks something else besides
any_and : (p : Event → Bool) (b : Bool) (es : List Event) → list_any (λ e. p e && b) es ≡ (list_any p es && b)
any_and p true es = any_alike (λ e. p e && true) p es (λ e i. and-true (p e)) ∙ sym (and-true (list_any p es))
any_and p false es = any_nothing (λ e. p e && false) es (λ e i. and-false (p e)) ∙ sym (and-false (list_any p es))

module _ (h : List Event) (e : Event) (H : History h) (N : Next h e) where
  w : List Event
  w = h ++ (e ∷ [])

  -- no event before had seen this one
  unseen : (f : Event) → In f h → f.saw e.number ≡ false
  unseen f i = false_from_ne_true (f.saw e.number) (λ y. let a = H.earlier f e.number i y in let b = N.above f i in omega arith)

  -- a mark is cleared by what had cleared it before, or by the event if that is a clear of its object which saw it
  cleared_more : (f : Event) → cleared w f ≡ (cleared h f || (clears (object f) e && e.saw f.number))
  unfolding w
  cleared_more f =
      list_any-append (λ g. clears (object f) g && g.saw f.number) h (e ∷ [])
      ∙ ap (λ b. cleared h f || b) (or-false (clears (object f) e && e.saw f.number))

  member_more : (p : ℕ) → member w p ≡ (list_any (λ f. live w f && object f == p) h || (live w e && object e == p))
  unfolding w
  member_more p =
      list_any-append (λ f. live (h ++ (e ∷ [])) f && object f == p) h (e ∷ [])
      ∙ ap (λ b. list_any (λ f. live (h ++ (e ∷ [])) f && object f == p) h || b) (or-false (live (h ++ (e ∷ [])) e && object e == p))

  module _ (v : e.change.verb ≡ 1) where
    mark_clears_none : (f : Event) → cleared w f ≡ cleared h f
    mark_clears_none f =
        cleared_more f
        ∙ ap (λ (k : ℕ). cleared h f || (((k == 2) && object e == object f) && e.saw f.number)) v
        ∙ or-false (cleared h f)

    -- nothing before had seen the mark, and so nothing clears it
    mark_is_live : live w e ≡ true
    mark_is_live =
        ap (λ (k : ℕ). (k == 1) && not (cleared w e)) v
        ∙ ap not (mark_clears_none e ∙ any_nothing (λ g. clears (object e) g && g.saw e.number) h
        (λ g i. ap (λ b. clears (object e) g && b) (unseen g i) ∙ and-false (clears (object e) g)))

    marked : (p : ℕ) → member w p ≡ (member h p || object e == p)
    marked p =
        member_more p
        ∙ ap (λ b. list_any (λ f. live w f && object f == p) h || (b && object e == p)) mark_is_live
        ∙ ap (λ b. b || object e == p)
        (any_alike (λ f. live w f && object f == p) (λ f. live h f && object f == p) h
        (λ f i. ap (λ b. (is_mark f && not b) && object f == p) (mark_clears_none f)))

  module _ (v : e.change.verb ≡ 2) where
    clear_is_no_mark : live w e ≡ false
    clear_is_no_mark = ap (λ (k : ℕ). (k == 1) && not (cleared w e)) v

    -- the clear saw all that was there
    cleared_now : (f : Event) → In f h → cleared w f ≡ (cleared h f || object e == object f)
    cleared_now f i =
        cleared_more f
        ∙ ap (λ (k : ℕ). cleared h f || (((k == 2) && object e == object f) && e.saw f.number)) v
        ∙ ap (λ b. cleared h f || ((object e == object f) && b)) (N.all f i)
        ∙ ap (λ b. cleared h f || b) (and-true (object e == object f))

    unmarked : (p : ℕ) → member w p ≡ (member h p && not (object e == p))
    unmarked p =
        member_more p
        ∙ ap (λ b. list_any (λ f. live w f && object f == p) h || (b && object e == p)) clear_is_no_mark
        ∙ or-false (list_any (λ f. live w f && object f == p) h)
        ∙ any_alike (λ f. live w f && object f == p) (λ f. (live h f && object f == p) && not (object e == p)) h
        (λ f i. ap (λ b. (is_mark f && not b) && object f == p) (cleared_now f i) ∙ at_object f (object f == p) refl)
        ∙ any_and (λ f. live h f && object f == p) (not (object e == p)) h
      where
        at_object : (f : Event) (t : Bool) → (object f == p) ≡ t →
            ((is_mark f && not (cleared h f || object e == object f)) && t) ≡ (((is_mark f && not (cleared h f)) && t) && not (object e == p))
        at_object f true y = ap (λ (k : ℕ). (is_mark f && not (cleared h f || object e == k)) && true) (eqb-true (object f) p y) ∙ split (is_mark f) (cleared h f) (object e == p)
          where
            split : (a b c : Bool) → ((a && not (b || c)) && true) ≡ (((a && not b) && true) && not c)
            split a b c = search (rules, tests)
        at_object f false y = none (is_mark f && not (cleared h f || object e == object f)) (is_mark f && not (cleared h f)) (not (object e == p))
          where
            none : (a b c : Bool) → (a && false) ≡ ((b && false) && c)
            none a b c = search (rules, tests)

  pub member_mark : e.change.verb ≡ 1 → (p : ℕ) → member (h ++ (e ∷ [])) p ≡ (member h p || object e == p)
  unfolding w
  member_mark = marked

  pub member_clear : e.change.verb ≡ 2 → (p : ℕ) → member (h ++ (e ∷ [])) p ≡ (member h p && not (object e == p))
  unfolding w
  member_clear = unmarked
