-- How many events of each branch a set has, and the sets that these counts tell.
use Rattle.std.proofs.Common.{◌≡◌, ℕ, ◌+◌, ◌<◌, ◌≤◌, min, max, true, false, cond, not, ◌||◌, eqb, ltb, List, [], ◌∷◌, ◌++◌, length, sym, refl, ap, ◌∙◌, subst, ap₂, ⊎_elim, arith}
use mathlib.Core.Path.{fun_ext}
use Rattle.std.proofs.lemmas.Bool.Decides.{nat_tests}
use Rattle.std.proofs.lemmas.Bool.{both_ways, and_parts, or_cases, or_right, eqb-true, ne_eqb, eq-eqb}
use Rattle.kinds.specs.Events.{Seen, Event, In, nothing, common, joined, pick}
use Rattle.kinds.specs.Events.In.{here}
use Rattle.kinds.specs.History.{Closed}
use Rattle.kinds.proofs.Picks.{by_bool, pick_none, pick_yes, pick_no, pick_append, pick_same}
use Rattle.kinds.proofs.Histories.{by_last}
use Rattle.calls.specs.World.{with_event, inside}
use Rattle.calls.specs.Counts.{total, tally}
use Rattle.calls.proofs.Prefixes.{Numbered, Only, one_less, one_more, first_of, Prefix}
use Rattle.calls.proofs.Counted.{first_cong, first_min, first_max, first_within, first_before, first_with, first_above, in_numbered, past_first, at_first}
use Rattle.calls.proofs.Counted.{total_push, numbered_push, implied, inside_from, not_later, pick_earlier}

tally_yes : (s : Seen) (e : Event) (es : List Event) (b : ℕ) → s e.number ≡ true → tally (e ∷ es) s b ≡ cond (eqb b e.branch) (tally es s b + 1) (tally es s b)
unfolding total
tally_yes s e es b y = ap (total b) (pick_yes s e es y)

tally_no : (s : Seen) (e : Event) (es : List Event) (b : ℕ) → s e.number ≡ false → tally (e ∷ es) s b ≡ tally es s b
tally_no s e es b y = ap (total b) (pick_no s e es y)

pub total_pick : (s : Seen) (es : List Event) (b : ℕ) → tally es s b ≤ total b es
unfolding total
total_pick s [] b = rw (pick_none s) (omega arith)
total_pick s (e ∷ es) b =
    let r = total_pick s es b in
    by_bool (s e.number)
    (λ y. let t = tally_yes s e es b y in grind (arith, nat_tests))
    (λ y. let t = tally_no s e es b y in grind (arith, nat_tests))

-- sets inside one another, by their counts
pub inside_tallies : (es : List Event) (a b : Seen) → inside es a b ≡ true → (x : ℕ) → tally es a x ≤ tally es b x
unfolding total
inside_tallies [] a b t x = rw (pick_none a) (omega arith)
inside_tallies (e ∷ es) a b t x =
    let p = and_parts (not (a e.number) || b e.number) (inside es a b) t in
    let r = inside_tallies es a b p.1 x in
    by_bool (a e.number)
    (λ y. let u = tally_yes a e es x y in let v = tally_yes b e es x (implied (a e.number) (b e.number) p.0 y) in grind (arith, nat_tests))
    (λ y. let u = tally_no a e es x y in by_bool (b e.number)
    (λ z. let v = tally_yes b e es x z in grind (arith, nat_tests))
    (λ z. let v = tally_no b e es x z in omega arith))

pub tallies_inside : (es : List Event) (a b : Seen) → Prefix a es → Prefix b es → ((x : ℕ) → tally es a x ≤ tally es b x) → inside es a b ≡ true
tallies_inside es a b pa pb low =
    ap₂ (inside es) pa pb ∙ inside_from es _ _ (λ e i. first_above (tally es a) (tally es b) es e.number low)

-- of the first events of each branch there are as many as were asked for
tally_first : (c : ℕ → ℕ) (k : ℕ) (es : List Event) → Numbered k es → ((b : ℕ) → c b ≤ total b es) → (b : ℕ) → tally es (first_of c es) b ≡ c b
unfolding total
tally_first c k [] num h b = let q = h b in ap (total b) (pick_none (first_of c [])) ∙ omega arith
tally_first c k (e ∷ es) num h b =
    let a = e.branch in
    let rest : tally es (first_of c (e ∷ es)) b ≡ one_less c a b =
    ap (total b) (pick_same (first_of c (e ∷ es)) (first_of (one_less c a) es) es (past_first c k e es num))
    ∙ tally_first (one_less c a) (k + 1) es num.1 (λ x. less_total c e es x (h x)) b in
    by_bool (ltb 0 (c a))
    (λ y. tally_yes (first_of c (e ∷ es)) e es b (at_first c e es ∙ y) ∙ with_one c a b (tally es (first_of c (e ∷ es)) b) rest y)
    (λ y. tally_no (first_of c (e ∷ es)) e es b (at_first c e es ∙ y) ∙ rest ∙ without c a b y)
  where
    less_total : (c : ℕ → ℕ) (e : Event) (es : List Event) (x : ℕ) → c x ≤ total x (e ∷ es) → one_less c e.branch x ≤ total x es
    less_total c e es x h = grind (arith, nat_tests)

    with_one : (c : ℕ → ℕ) (a b t : ℕ) → t ≡ one_less c a b → ltb 0 (c a) ≡ true → cond (eqb b a) (t + 1) t ≡ c b
    with_one c a b t q y = grind (arith, nat_tests)

    without : (c : ℕ → ℕ) (a b : ℕ) → ltb 0 (c a) ≡ false → one_less c a b ≡ c b
    without c a b y = grind (arith, nat_tests)

first_zero : (c : ℕ → ℕ) (es : List Event) (n : ℕ) → ((b : ℕ) → c b ≡ 0) → first_of c es n ≡ false
unfolding first_of
first_zero c [] n h = refl
first_zero c (e ∷ es) n h =
    let at = h e.branch in
    let more = first_zero (one_less c e.branch) es n (λ x. let q = h x in grind (arith, nat_tests)) in
    grind (arith, nat_tests)

tally_nothing : (es : List Event) (b : ℕ) → tally es nothing b ≡ 0
unfolding total
tally_nothing [] b = ap (total b) (pick_none nothing)
tally_nothing (e ∷ es) b = tally_no nothing e es b refl ∙ tally_nothing es b

pub prefix_nothing : (es : List Event) → Prefix nothing es
prefix_nothing es = fun_ext (λ n. sym (first_zero (tally es nothing) es n (tally_nothing es)))

pub prefix_only : (s : Seen) (es : List Event) → Prefix s es → Only s es
prefix_only s es p = subst (λ (z : Seen). Only z es) (sym p) (first_within (tally es s) es)

module _ (es : List Event) (num : Numbered 0 es) (a b : Seen) (pa : Prefix a es) (pb : Prefix b es) where
  abbrev most : ℕ → ℕ
  most x = max (tally es a x) (tally es b x)

  abbrev least : ℕ → ℕ
  least x = min (tally es a x) (tally es b x)

  joined_is : joined a b ≡ first_of most es
  joined_is = ap₂ joined pa pb ∙ fun_ext (λ n. sym (first_max (tally es a) (tally es b) es n))

  common_is : common a b ≡ first_of least es
  common_is = ap₂ common pa pb ∙ fun_ext (λ n. sym (first_min (tally es a) (tally es b) es n))

  pub tally_most : (x : ℕ) → tally es (joined a b) x ≡ max (tally es a x) (tally es b x)
  tally_most x =
      ap (λ (s : Seen). tally es s x) joined_is
      ∙ tally_first most 0 es num (λ y. let p = total_pick a es y in let q = total_pick b es y in omega arith) x

  pub prefix_joined : Prefix (joined a b) es
  prefix_joined = joined_is ∙ fun_ext (λ n. first_cong most (tally es (joined a b)) es n (λ x. sym (tally_most x)))

  pub tally_least : (x : ℕ) → tally es (common a b) x ≡ min (tally es a x) (tally es b x)
  tally_least x = ap (λ (s : Seen). tally es s x) common_is ∙ tally_first least 0 es num (λ y. let p = total_pick a es y in omega arith) x

  pub prefix_common : Prefix (common a b) es
  prefix_common = common_is ∙ fun_ext (λ n. first_cong least (tally es (common a b)) es n (λ x. sym (tally_least x)))

-- ---- one event more
module _ (h : List Event) (e : Event) (num : Numbered 0 h) (number : e.number ≡ length h + 1) where
  pub numbered_more : Numbered 0 (h ++ (e ∷ []))
  numbered_more = numbered_push 0 h e num (omega arith)

  pub number_above : (f : Event) → In f h → f.number < e.number
  number_above f i = let r = in_numbered 0 h f num i in omega arith

  not_yet : (s : Seen) → Only s h → s e.number ≡ false
  not_yet s only = not_later h (e ∷ []) num numbered_more s only e here

  -- a set that has not the event
  pub closed_before : (s : Seen) → Closed s h → Only s h → Closed s (h ++ (e ∷ []))
  closed_before s closed only f n i t u =
      by_last (λ (f : Event). s f.number ≡ true → f.saw n ≡ true → s n ≡ true) h e (λ f i t u. closed f n i t u)
      (λ t u. absurd (both_ways (s e.number) (not_yet s only) t)) f i t u

  pub pick_before : (s : Seen) → Only s h → pick s (h ++ (e ∷ [])) ≡ pick s h
  pick_before = pick_earlier h (e ∷ []) num numbered_more

  pub tally_before : (s : Seen) → Only s h → (b : ℕ) → tally (h ++ (e ∷ [])) s b ≡ tally h s b
  tally_before s only b = ap (total b) (pick_before s only)

  pub prefix_before : (s : Seen) → Prefix s h → Prefix s (h ++ (e ∷ []))
  prefix_before s p =
      p ∙ fun_ext (λ n. sym (first_before (tally h s) h e n (total_pick s h e.branch))
      ∙ first_cong (tally h s) (tally (h ++ (e ∷ [])) s) (h ++ (e ∷ [])) n (λ b. sym (tally_before s (prefix_only s h p) b)))

  -- a set that takes it up
  pub closed_with : (s : Seen) → Closed s h → ((n : ℕ) → e.saw n ≡ s n) → Closed (with_event s e.number) (h ++ (e ∷ []))
  closed_with s closed saw f n i t u =
      by_last (λ (f : Event). with_event s e.number f.number ≡ true → f.saw n ≡ true → with_event s e.number n ≡ true) h e
      (λ f i t u. or_right (eqb n e.number) (s n)
      (closed f n i
      (⊎_elim (λ q. absurd (let a = number_above f i in let b = eqb-true f.number e.number q in omega arith)) (λ x. x)
      (or_cases (eqb f.number e.number) (s f.number) t)) u))
      (λ t u. or_right (eqb n e.number) (s n) (sym (saw n) ∙ u)) f i t u

  pub pick_with : (s : Seen) → pick (with_event s e.number) (h ++ (e ∷ [])) ≡ pick s h ++ (e ∷ [])
  pick_with s =
      let s' = with_event s e.number in
      pick_append s' h (e ∷ [])
      ∙ ap (λ (l : List Event). l ++ pick s' (e ∷ []))
      (pick_same s' s h (λ f i. ap (λ b. b || s f.number) (ne_eqb f.number e.number (λ q. let a = number_above f i in omega arith))))
      ∙ ap (λ (l : List Event). pick s h ++ l)
      (pick_yes s' e [] (ap (λ b. b || s e.number) (eq-eqb e.number e.number refl)) ∙ ap {B = List Event} (λ l. e ∷ l) (pick_none s'))

  pub tally_with : (s : Seen) (b : ℕ) → tally (h ++ (e ∷ [])) (with_event s e.number) b ≡ one_more (tally h s) e.branch b
  tally_with s b = ap (total b) (pick_with s) ∙ total_push b (pick s h) e

  pub prefix_with : (s : Seen) → Prefix s h → tally h s e.branch ≡ total e.branch h → Prefix (with_event s e.number) (h ++ (e ∷ []))
  prefix_with s p own = fun_ext (λ n.
      ap (λ (z : Seen). eqb n e.number || z n) p
      ∙ sym (first_with (tally h s) 0 h e n num (omega arith) own)
      ∙ first_cong (one_more (tally h s) e.branch) (tally (h ++ (e ∷ [])) (with_event s e.number)) (h ++ (e ∷ [])) n (λ b. sym (tally_with s b)))
