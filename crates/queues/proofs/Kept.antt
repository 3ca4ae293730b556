-- What passes a test, and what a filter keeps of events.
use Rattle.std.specs.Prelude.{◌≡◌, ◌<◌, Bool, true, false, cond, ◌&&◌, ◌||◌, List, [], ◌∷◌, filter, refl}
use Rattle.std.specs.List.{All, list_any}
use Rattle.std.proofs.Common.{subst, ⊎_elim, arith, rules, tests}
use Rattle.std.proofs.lemmas.List.Elements.{All-head, All-tail}
use Rattle.std.proofs.lemmas.Grind.{common_steps}
use Rattle.kinds.specs.Events.{Event, Seen, In, Rising, pick}
use Rattle.kinds.proofs.Picks.{in_cons, in_none}

-- ---- tests
-- tests that agree on each element of a list
pub any_same : {A : Type 0} (p q : A → Bool) (xs : List A) → All (λ x. p x ≡ q x) xs → list_any p xs ≡ list_any q xs
any_same p q [] h = refl
any_same p q (x ∷ xs) h = let e = All-head (λ y. p y ≡ q y) x xs h in let more = any_same p q xs (All-tail (λ y. p y ≡ q y) x xs h) in cc

pub any_or : {A : Type 0} (p q : A → Bool) (xs : List A) → list_any (λ x. p x || q x) xs ≡ (list_any p xs || list_any q xs)
any_or p q [] = refl
any_or p q (x ∷ xs) = let more = any_or p q xs in search (rules, tests)

-- a test of what a filter keeps
pub any_kept : {A : Type 0} (p s : A → Bool) (xs : List A) → list_any p (filter s xs) ≡ list_any (λ x. s x && p x) xs
any_kept p s [] = refl
any_kept p s (x ∷ xs) = let more = any_kept p s xs in search (rules, tests)

-- ---- filters
pub kept_same : (p q : Event → Bool) (es : List Event) → ((e : Event) → In e es → p e ≡ q e) → filter p es ≡ filter q es
kept_same p q [] h = refl
kept_same p q (e ∷ es) h = let more = kept_same p q es (λ f i. h f (In.there i)) in let same = h e In.here in cc

-- a filter that keeps only what a set picks
pub kept_pick : (s : Seen) (p : Event → Bool) (es : List Event) → ((e : Event) → p e ≡ true → s e.number ≡ true) → filter p (pick s es) ≡ filter p es
unfolding pick
kept_pick s p [] h = refl
kept_pick s p (e ∷ es) h = let more = kept_pick s p es h in let seen = h e in grind (arith, common_steps)

-- one filter after another
pub kept_kept : {A : Type 0} (q p : A → Bool) (xs : List A) → filter q (filter p xs) ≡ filter (λ x. p x && q x) xs
kept_kept q p [] = refl
kept_kept q p (x ∷ xs) = let more = kept_kept q p xs in search (rules, tests)

pub kept_all : (p : Event → Bool) (es : List Event) → ((e : Event) → In e es → p e ≡ true) → filter p es ≡ es
kept_all p [] h = refl
kept_all p (e ∷ es) h = let more = kept_all p es (λ f i. h f (In.there i)) in let passes = h e In.here in cc

pub of_kept : (p : Event → Bool) (es : List Event) (e : Event) → In e (filter p es) → In e es × (p e ≡ true)
of_kept p [] e i = absurd (in_none i)
of_kept p (f ∷ es) e i = go (p f) refl (of_kept p es e) i
  where
    go : (t : Bool) → p f ≡ t → (In e (filter p es) → In e es × (p e ≡ true)) → In e (cond t (f ∷ filter p es) (filter p es)) → In e (f ∷ es) × (p e ≡ true)
    go true q ih j = ⊎_elim (λ c. subst (λ x. In x (f ∷ es) × (p x ≡ true)) c (In.here, q)) (λ k. let r = ih k in (In.there r.0, r.1)) (in_cons j)
    go false q ih j = let r = ih j in (In.there r.0, r.1)

pub rising_kept : (p : Event → Bool) {es : List Event} → Rising es → Rising (filter p es)
rising_kept p Rising.none = Rising.none
rising_kept p (Rising.one {e} {es} above rest) = go (p e) (rising_kept p rest)
  where
    go : (t : Bool) → Rising (filter p es) → Rising (cond t (e ∷ filter p es) (filter p es))
    go true ih = Rising.one (λ f i. above f (of_kept p es f i).0) ih
    go false ih = ih

pub above_first : {e : Event} {es : List Event} → Rising (e ∷ es) → (f : Event) → In f es → e.number < f.number
above_first (Rising.one above rest) = above
