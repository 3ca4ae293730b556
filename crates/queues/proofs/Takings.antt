-- What the takes of a history took: in parts of it, and with one event more.
use Rattle.std.specs.Prelude.{◌≡◌, ℕ, Bool, true, false, cond, not, ◌&&◌, List, [], ◌∷◌, ◌++◌, filter, ◌==◌, refl}
use Rattle.std.specs.List.{All}
use Rattle.std.proofs.Common.{sym, ap, ◌∙◌, append-nil, append_assoc}
use Rattle.std.proofs.lemmas.Bool.{and_parts}
use Rattle.std.proofs.lemmas.List.Elements.{All-nil, All-cons, All-head, All-append, All-weaker, filter-append, filter_agree, filter_passes}
use Rattle.std.proofs.lemmas.Map.Views.{any-filter_same}
use Rattle.kinds.specs.Events.{Event, Seen, In, pick}
use Rattle.kinds.specs.History.{Closed}
use Rattle.kinds.proofs.Picks.{pick_append, pick_yes, pick_no, pick_none}
use Rattle.queues.specs.Queue.{is_put, is_take, Taking, took, waits, waiting_in, first_taking, taking, takings_from, takings}
use Rattle.queues.proofs.Kept.{kept_pick}

-- the takings by the takes of a part
abbrev pub taken_in : Seen → List Taking → List Taking
taken_in s ts = filter (λ t. s t.by) ts

-- what a take sees waiting is the same in a part that has all that it saw
waiting_part : (s q : Seen) (ts : List Taking) (past : List Event) → ((n : ℕ) → q n ≡ true → s n ≡ true) → waiting_in q (taken_in s ts) (pick s past) ≡ waiting_in q ts past
waiting_part s q ts past h =
    filter_agree (waits q (taken_in s ts)) (waits q ts)
    (λ e. ap (λ b. is_put e && (q e.number && not b))
    (any-filter_same (λ t. q t.by && t.item == e.number) (λ t. s t.by) true (λ t y. h t.by (and_parts (q t.by) (t.item == e.number) y).0) ts)) (pick s past)
    ∙ kept_pick s (waits q ts) past
    (λ e y. h e.number (and_parts (q e.number) (not (took q ts e.number)) (and_parts (is_put e) (q e.number && not (took q ts e.number)) y).1).0)

first_in : (s : Seen) (e : Event) (ps : List Event) → s e.number ≡ true → taken_in s (first_taking e ps) ≡ first_taking e ps
first_in s e [] h = refl
first_in s e (p ∷ ps) h = λ i. cond (h i) (record { by = e.number; item = p.number } ∷ []) []

first_out : (s : Seen) (e : Event) (ps : List Event) → s e.number ≡ false → taken_in s (first_taking e ps) ≡ []
first_out s e [] h = refl
first_out s e (p ∷ ps) h = λ i. cond (h i) (record { by = e.number; item = p.number } ∷ []) []

-- an event of the part takes there what it takes in the whole
step_in : (s : Seen) (e : Event) (ts : List Taking) (past : List Event) → s e.number ≡ true → ((n : ℕ) → e.saw n ≡ true → s n ≡ true) →
    taken_in s ts ++ taking e (taken_in s ts) (pick s past) ≡ taken_in s (ts ++ taking e ts past)
step_in s e ts past y h = ap (λ us. taken_in s ts ++ us) (go (is_take e)) ∙ sym (filter-append (λ t. s t.by) ts (taking e ts past))
  where
    go : (t : Bool) → cond t (first_taking e (waiting_in e.saw (taken_in s ts) (pick s past))) [] ≡ taken_in s (cond t (first_taking e (waiting_in e.saw ts past)) [])
    go true = ap (first_taking e) (waiting_part s e.saw ts past h) ∙ sym (first_in s e (waiting_in e.saw ts past) y)
    go false = refl

-- and any other takes nothing there
step_out : (s : Seen) (e : Event) (ts : List Taking) (past : List Event) → s e.number ≡ false → taken_in s (ts ++ taking e ts past) ≡ taken_in s ts
step_out s e ts past y = filter-append (λ t. s t.by) ts (taking e ts past) ∙ ap (λ us. taken_in s ts ++ us) (go (is_take e)) ∙ append-nil (taken_in s ts)
  where
    go : (t : Bool) → taken_in s (cond t (first_taking e (waiting_in e.saw ts past)) []) ≡ []
    go true = first_out s e (waiting_in e.saw ts past) y
    go false = refl

-- the takes of a closed part take what they take in the whole
pub takings_part : (s : Seen) (ts : List Taking) (past es : List Event) → Closed s es → takings_from (taken_in s ts) (pick s past) (pick s es) ≡ taken_in s (takings_from ts past es)
unfolding takings_from pick
takings_part s ts past [] c = refl
takings_part s ts past (e ∷ es) c =
    go (s e.number) refl (takings_part s (ts ++ taking e ts past) (past ++ (e ∷ [])) es (λ f n i. c f n (In.there i)))
  where
    go : (t : Bool) → s e.number ≡ t →
        takings_from (taken_in s (ts ++ taking e ts past)) (pick s (past ++ (e ∷ []))) (pick s es) ≡ taken_in s (takings_from (ts ++ taking e ts past) (past ++ (e ∷ [])) es) →
        takings_from (taken_in s ts) (pick s past) (cond t (e ∷ pick s es) (pick s es)) ≡ taken_in s (takings_from ts past (e ∷ es))
    go true y ih =
        let more : pick s past ++ (e ∷ []) ≡ pick s (past ++ (e ∷ [])) =
        ap (λ xs. pick s past ++ xs) (sym (pick_yes s e [] y ∙ ap {B = List Event} (λ l. e ∷ l) (pick_none s))) ∙ sym (pick_append s past (e ∷ [])) in
        (λ i. takings_from (step_in s e ts past y (λ n. c e n In.here y) i) (more i) (pick s es)) ∙ ih
    go false y ih =
        let same : pick s past ≡ pick s (past ++ (e ∷ [])) =
        sym (append-nil (pick s past)) ∙ ap (λ xs. pick s past ++ xs) (sym (pick_no s e [] y ∙ pick_none s)) ∙ sym (pick_append s past (e ∷ [])) in
        (λ i. takings_from (sym (step_out s e ts past y) i) (same i) (pick s es)) ∙ ih

-- ---- what holds of every taking
firsts : (P : Taking → Type 0) (e : Event) (ps : List Event) → All (λ p. P (record { by = e.number; item = p.number })) ps → All P (first_taking e ps)
firsts P e [] h = All-nil P
firsts P e (p ∷ ps) h = All-cons P (record { by = e.number; item = p.number }) [] (All-head (λ x. P (record { by = e.number; item = x.number })) p ps h) (All-nil P)

from_all : (P : Taking → Type 0) (ts : List Taking) (past es : List Event) → All P ts →
    ((f : Event) (n : ℕ) → In f es → f.saw n ≡ true → P (record { by = f.number; item = n })) → All P (takings_from ts past es)
unfolding takings_from
from_all P ts past [] h k = h
from_all P ts past (e ∷ es) h k =
    from_all P (ts ++ taking e ts past) (past ++ (e ∷ [])) es (All-append P ts (taking e ts past) h (go (is_take e))) (λ f n i. k f n (In.there i))
  where
    new : All (λ p. P (record { by = e.number; item = p.number })) (waiting_in e.saw ts past)
    new = All-weaker (λ p. waits e.saw ts p ≡ true) (λ p. P (record { by = e.number; item = p.number }))
        (λ p y. k e p.number In.here (and_parts (e.saw p.number) (not (took e.saw ts p.number)) (and_parts (is_put p) (e.saw p.number && not (took e.saw ts p.number)) y).1).0)
        (waiting_in e.saw ts past) (filter_passes (waits e.saw ts) past)

    go : (b : Bool) → All P (cond b (first_taking e (waiting_in e.saw ts past)) [])
    go true = firsts P e (waiting_in e.saw ts past) new
    go false = All-nil P

-- to show a fact of every taking, show it of an event and what it saw
pub takings_all : (P : Taking → Type 0) (h : List Event) → ((f : Event) (n : ℕ) → In f h → f.saw n ≡ true → P (record { by = f.number; item = n })) → All P (takings h)
takings_all P h k = from_all P [] [] h (All-nil P) k

-- ---- one event more
from_more : (ts : List Taking) (past es : List Event) (e : Event) →
    takings_from ts past (es ++ (e ∷ [])) ≡ takings_from ts past es ++ taking e (takings_from ts past es) (past ++ es)
unfolding takings_from
from_more ts past [] e = ap (λ l. ts ++ taking e ts l) (sym (append-nil past))
from_more ts past (f ∷ es) e =
    from_more (ts ++ taking f ts past) (past ++ (f ∷ [])) es e
    ∙ ap (λ l. takings_from (ts ++ taking f ts past) (past ++ (f ∷ [])) es ++ taking e (takings_from (ts ++ taking f ts past) (past ++ (f ∷ [])) es) l) (append_assoc past (f ∷ []) es)

pub takings_more : (h : List Event) (e : Event) → takings (h ++ (e ∷ [])) ≡ takings h ++ taking e (takings h) h
takings_more h e = from_more [] [] h e
