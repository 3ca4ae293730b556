-- Counts and sets over lists of events.
use Rattle.std.proofs.Common.{◌≡◌, ℕ, ◌+◌, ◌<◌, ◌≤◌, min, max, Bool, true, false, cond, not, ◌&&◌, ◌||◌, eqb, ltb, List, [], ◌∷◌, ◌++◌, length, sym, refl, ap, ◌∙◌, subst, arith}
use mathlib.Core.Path.{fun_ext}
use Rattle.std.proofs.lemmas.Bool.Decides.{nat_tests, same_from_decides}
use Rattle.std.proofs.lemmas.List.{append-nil}
use Rattle.std.proofs.lemmas.Bool.{eq-eqb, eqb-true, cond-false, and_parts, and_from, or_left, both_ways}
use Rattle.kinds.specs.Events.{Seen, Event, In, pick}
use Rattle.kinds.specs.Events.In.{here, there}
use Rattle.kinds.proofs.Picks.{by_bool, pick_none, pick_no, pick_append}
use Rattle.calls.specs.World.{inside, same}
use Rattle.calls.specs.Run.{Same}
use Rattle.calls.specs.Counts.{total}
use Rattle.calls.proofs.Prefixes.{Numbered, Only, one_less, one_more, first_of}

pub first_cong : (c c' : ℕ → ℕ) (es : List Event) (n : ℕ) → ((b : ℕ) → c b ≡ c' b) → first_of c es n ≡ first_of c' es n
first_cong c c' es n h = ap (λ (f : ℕ → ℕ). first_of f es n) (fun_ext h)

less_min : (c c' : ℕ → ℕ) (b x : ℕ) → one_less (λ y. min (c y) (c' y)) b x ≡ min (one_less c b x) (one_less c' b x)
less_min c c' b x = grind (arith, nat_tests)

less_max : (c c' : ℕ → ℕ) (b x : ℕ) → one_less (λ y. max (c y) (c' y)) b x ≡ max (one_less c b x) (one_less c' b x)
less_max c c' b x = grind (arith, nat_tests)

cond_and : (t a b x y u v : Bool) → a ≡ (b && x) → y ≡ (u && v) → cond t a y ≡ (cond t b u && cond t x v)
cond_and true a b x y u v h k = h
cond_and false a b x y u v h k = k

cond_or : (t a b x y u v : Bool) → a ≡ (b || x) → y ≡ (u || v) → cond t a y ≡ (cond t b u || cond t x v)
cond_or true a b x y u v h k = h
cond_or false a b x y u v h k = k

pub first_min : (c c' : ℕ → ℕ) (es : List Event) (n : ℕ) → first_of (λ y. min (c y) (c' y)) es n ≡ (first_of c es n && first_of c' es n)
unfolding first_of
first_min c c' [] n = refl
first_min c c' (e ∷ es) n =
    let b = e.branch in
    cond_and (eqb n e.number) (ltb 0 (min (c b) (c' b))) (ltb 0 (c b)) (ltb 0 (c' b)) _ _ _ (grind (arith, nat_tests))
    (first_cong _ _ es n (less_min c c' b) ∙ first_min (one_less c b) (one_less c' b) es n)

pub first_max : (c c' : ℕ → ℕ) (es : List Event) (n : ℕ) → first_of (λ y. max (c y) (c' y)) es n ≡ (first_of c es n || first_of c' es n)
unfolding first_of
first_max c c' [] n = refl
first_max c c' (e ∷ es) n =
    let b = e.branch in
    cond_or (eqb n e.number) (ltb 0 (max (c b) (c' b))) (ltb 0 (c b)) (ltb 0 (c' b)) _ _ _ (grind (arith, nat_tests))
    (first_cong _ _ es n (less_max c c' b) ∙ first_max (one_less c b) (one_less c' b) es n)

-- a set by counts holds only numbers of events
pub first_within : (c : ℕ → ℕ) (es : List Event) → Only (first_of c es) es
unfolding first_of
first_within c [] n h = absurd (both_ways false refl h)
first_within c (e ∷ es) n h =
    by_bool (eqb n e.number)
    (λ t. (e, (here, sym (eqb-true n e.number t))))
    (λ f. let r = first_within (one_less c e.branch) es n (sym (cond-false (eqb n e.number) (ltb 0 (c e.branch)) _ f) ∙ h) in
    (r.0, (there r.1.0, r.1.1)))

pub in_numbered : (k : ℕ) (es : List Event) (e : Event) → Numbered k es → In e es → (k < e.number) × (e.number ≤ k + length es)
in_numbered k [] e num i = elim i [ ]
in_numbered k (f ∷ es) e num here = (omega arith, omega arith)
in_numbered k (f ∷ es) e num (there i) = let r = in_numbered (k + 1) es e num.1 i in (omega arith, omega arith)

-- an event more, of which the version has seen nothing
pub first_before : (c : ℕ → ℕ) (es : List Event) (e : Event) (n : ℕ) → c e.branch ≤ total e.branch es → first_of c (es ++ (e ∷ [])) n ≡ first_of c es n
unfolding first_of total
first_before c [] e n h = grind (arith, nat_tests)
first_before c (f ∷ es) e n h =
    let k : one_less c f.branch e.branch ≤ total e.branch es = grind (arith, nat_tests) in
    ap (cond (eqb n f.number) (ltb 0 (c f.branch))) (first_before (one_less c f.branch) es e n k)

less_more : (c : ℕ → ℕ) (a b x : ℕ) → (a ≡ b → 0 < c b) → one_less (one_more c b) a x ≡ one_more (one_less c a) b x
less_more c a b x h = grind (arith, nat_tests)

cond_with : (t p a a' y y' : Bool) → (t ≡ true → (p ≡ false) × (a ≡ a')) → y ≡ (p || y') → cond t a y ≡ (p || cond t a' y')
cond_with true p a a' y y' h k = rw (h refl).0 (h refl).1
cond_with false p a a' y y' h k = k

-- an event more, which the version has seen, with all before it on its branch
pub first_with : (c : ℕ → ℕ) (k : ℕ) (es : List Event) (e : Event) (n : ℕ) → Numbered k es → e.number ≡ k + length es + 1 → c e.branch ≡ total e.branch es →
    first_of (one_more c e.branch) (es ++ (e ∷ [])) n ≡ (eqb n e.number || first_of c es n)
unfolding first_of total
first_with c k [] e n num nu h = grind (arith, nat_tests)
first_with c k (f ∷ es) e n num nu h =
    let a = f.branch in
    let b = e.branch in
    let pos : a ≡ b → 0 < c b = λ q. grind (arith, nat_tests) in
    let h' : one_less c a b ≡ total b es = grind (arith, nat_tests) in
    cond_with (eqb n f.number) (eqb n e.number) (ltb 0 (one_more c b a)) (ltb 0 (c a)) _ _
    (λ t. (grind (arith, nat_tests), grind (arith, nat_tests)))
    (first_cong _ _ (es ++ (e ∷ [])) n (λ x. less_more c a b x pos) ∙ first_with (one_less c a) (k + 1) es e n num.1 (omega arith) h')

pub past_first : (c : ℕ → ℕ) (k : ℕ) (e : Event) (es : List Event) → Numbered k (e ∷ es) → (f : Event) → In f es →
    first_of c (e ∷ es) f.number ≡ first_of (one_less c e.branch) es f.number
unfolding first_of
past_first c k e es num f i =
    let r = in_numbered (k + 1) es f num.1 i in
    let d : eqb f.number e.number ≡ false = grind (arith, nat_tests) in
    rw d

pub at_first : (c : ℕ → ℕ) (e : Event) (es : List Event) → first_of c (e ∷ es) e.number ≡ ltb 0 (c e.branch)
unfolding first_of
at_first c e es = rw (eq-eqb e.number e.number refl)

-- as many events of each branch, or more
pub first_above : (c c' : ℕ → ℕ) (es : List Event) (n : ℕ) → ((b : ℕ) → c b ≤ c' b) → first_of c es n ≡ true → first_of c' es n ≡ true
first_above c c' es n h t =
    first_cong c' (λ y. max (c y) (c' y)) es n (λ y. omega (arith, h y)) ∙ first_max c c' es n ∙ or_left (first_of c es n) (first_of c' es n) t

-- a branch of which all is seen
pub first_own : (c : ℕ → ℕ) (k : ℕ) (es : List Event) (e : Event) → Numbered k es → In e es → total e.branch es ≤ c e.branch → first_of c es e.number ≡ true
unfolding total
first_own c k [] e num i h = elim i [ ]
first_own c k (f ∷ es) e num here h = at_first c f es ∙ grind (arith, nat_tests)
first_own c k (f ∷ es) e num (there i) h =
    past_first c k f es num e i ∙ first_own (one_less c f.branch) (k + 1) es e num.1 i (grind (arith, nat_tests))

pub total_push : (b : ℕ) (es : List Event) (e : Event) → total b (es ++ (e ∷ [])) ≡ cond (eqb b e.branch) (total b es + 1) (total b es)
unfolding total
total_push b [] e = refl
total_push b (f ∷ es) e = rw (total_push b es e) (grind (arith, nat_tests))

pub total_length : (b : ℕ) (es : List Event) → total b es ≤ length es
unfolding total
total_length b [] = omega arith
total_length b (e ∷ es) = let r = total_length b es in grind (arith, nat_tests)

pub numbered_push : (k : ℕ) (es : List Event) (e : Event) → Numbered k es → e.number ≡ k + length es + 1 → Numbered k (es ++ (e ∷ []))
numbered_push k [] e num h = (omega arith, tt)
numbered_push k (f ∷ es) e num h = (num.0, numbered_push (k + 1) es e num.1 (omega arith))

-- ---- tests
pub is_false : (x : Bool) → (x ≡ true → ⊥) → x ≡ false
is_false true n = absurd (n refl)
is_false false n = refl

pub implied : (x y : Bool) → (not x || y) ≡ true → x ≡ true → y ≡ true
implied true y h t = h
implied false y h t = absurd (both_ways false refl t)

implies : (x y : Bool) → (x ≡ true → y ≡ true) → (not x || y) ≡ true
implies true y h = h refl
implies false y h = refl

pub both_same : (x y : Bool) → (x ≡ true → y ≡ true) → (y ≡ true → x ≡ true) → x ≡ y
both_same x y p q = same_from_decides x y (p, q) (λ z. z, λ z. z)

-- ---- sets inside one another
inside_in : (es : List Event) (a b : Seen) → inside es a b ≡ true → (e : Event) → In e es → a e.number ≡ true → b e.number ≡ true
inside_in [] a b h e i t = elim i [ ]
inside_in (f ∷ es) a b h e here t =
    implied (a f.number) (b f.number) (and_parts (not (a f.number) || b f.number) (inside es a b) h).0 t
inside_in (f ∷ es) a b h e (there i) t = inside_in es a b (and_parts (not (a f.number) || b f.number) (inside es a b) h).1 e i t

pub inside_from : (es : List Event) (a b : Seen) → ((e : Event) → In e es → a e.number ≡ true → b e.number ≡ true) → inside es a b ≡ true
inside_from [] a b h = refl
inside_from (e ∷ es) a b h =
    and_from (not (a e.number) || b e.number) (inside es a b) (implies (a e.number) (b e.number) (h e here)) (inside_from es a b (λ f i. h f (there i)))

pub inside_only : (es : List Event) (a b : Seen) → Only a es → inside es a b ≡ true → (n : ℕ) → a n ≡ true → b n ≡ true
inside_only es a b only h n t =
    let f = only n t in
    subst (λ k. b k ≡ true) f.1.1 (inside_in es a b h f.0 f.1.0 (subst (λ k. a k ≡ true) (sym f.1.1) t))

pub same_from : (es : List Event) (a b : Seen) → Same a b → same es a b ≡ true
same_from es a b h =
    and_from (inside es a b) (inside es b a)
    (inside_from es a b (λ e i t. sym (h e.number) ∙ t)) (inside_from es b a (λ e i t. h e.number ∙ t))

-- sets that hold the same of the events are the same where they hold numbers of events only
pub same_is : (es : List Event) (a b : Seen) → Only a es → Only b es → same es a b ≡ true → Same a b
same_is es a b oa ob h n =
    let p = and_parts (inside es a b) (inside es b a) h in
    both_same (a n) (b n) (inside_only es a b oa p.0 n) (inside_only es b a ob p.1 n)

-- ---- events that come after those of a set
later_numbers : (k : ℕ) (es more : List Event) → Numbered k (es ++ more) → (e : Event) → In e more → k + length es < e.number
later_numbers k [] more num e i = let r = in_numbered k more e num i in omega arith
later_numbers k (f ∷ es) more num e i = let r = later_numbers (k + 1) es more num.1 e i in omega arith

pick_unseen : (s : Seen) (es : List Event) → ((e : Event) → In e es → s e.number ≡ false) → pick s es ≡ []
pick_unseen s [] h = pick_none s
pick_unseen s (e ∷ es) h = pick_no s e es (h e here) ∙ pick_unseen s es (λ f i. h f (there i))

module _ (es more : List Event) (num : Numbered 0 es) (all : Numbered 0 (es ++ more)) (s : Seen) (only : Only s es) where
  pub not_later : (e : Event) → In e more → s e.number ≡ false
  not_later e i =
      is_false (s e.number) (λ t.
      let f = only e.number t in
      let r = in_numbered 0 es f.0 num f.1.0 in
      let q = f.1.1 in
      let l = later_numbers 0 es more all e i in
      omega arith)

  pub pick_earlier : pick s (es ++ more) ≡ pick s es
  pick_earlier = pick_append s es more ∙ ap (λ (l : List Event). pick s es ++ l) (pick_unseen s more not_later) ∙ append-nil (pick s es)
