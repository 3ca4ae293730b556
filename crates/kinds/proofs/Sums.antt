-- The counter: its sum, and that the sum of a history fits.
use Rattle.std.proofs.Common.{◌≡◌, ℕ, ◌+◌, ◌-◌, ◌*◌, ◌%◌, ◌^◌, ◌<◌, ◌≤◌, true, ◌&&◌, eqb, List, [], ◌∷◌, ◌++◌, ℤ, pos, negsuc, ◌+ℤ◌, ◌-ℤ◌, sym, ap, ◌∙◌, mod-lt, arith, w64, SFits, to_z, of_z}
use lib.Signed.{le_z}
use borrow.Author.Differences.{ints, up, down, le-true, fits_in}
use Rattle.std.specs.Int.{int_wrap}
use Rattle.std.proofs.lemmas.Int.{wrapping_add_is, wrapping_sub_onto, int_wrap_fits}
use Rattle.std.proofs.lemmas.Bool.{and_parts, and_from, and_left, and_right, or_left, or_right, or_from}
use Rattle.kinds.specs.Events.{Event, Seen, In, Rising, pick, common, joined}
use Rattle.kinds.specs.History.{History}
use Rattle.kinds.specs.Meaning.{Known}
use Rattle.kinds.specs.Counter.{sum, counter, SumsWithin}
use Rattle.kinds.specs.declared.calls.Change.{Change}
use Rattle.kinds.proofs.Picks.{by_bool, pick_none, pick_yes, pick_no, rising_pick, of_picked}

pub sum_more : (h : List Event) (e : Event) → sum (h ++ (e ∷ [])) ≡ sum h +ℤ e.change.argument
sum_more [] e = omega (arith, ints)
sum_more (f ∷ fs) e = let more = sum_more fs e in omega (arith, ints)

-- ---- how large a sum gets
-- z is between -n and n
abbrev pub Bounded : ℕ → ℤ → Type 0
Bounded n z = (down z ≤ up z + n) × (up z ≤ down z + n)

-- from the number k on, a history's sum is at most a million for each number left
sum_bounded : {h : List Event} (k : ℕ) → Rising h → ((e : Event) → In e h → (k < e.number) × (e.number ≤ 4095)) →
    ((e : Event) → In e h → Bounded 1000000 e.change.argument) → Bounded (1000000 * (4095 - k)) (sum h)
sum_bounded k Rising.none within args = omega arith
sum_bounded k (Rising.one {e} {es} above rest) within args =
    let more = sum_bounded {h = es} e.number rest (λ f i. (above f i, (within f (In.there i)).1)) (λ f i. args f (In.there i)) in
    let first = args e In.here in
    let at = within e In.here in
    omega (arith, ints)

-- a change that the counter knows adds at most a million
known_bounded : (c : Change) → counter.knows c ≡ true → Bounded 1000000 c.argument
known_bounded c y =
    let q = (and_parts (eqb c.place 0 && eqb c.verb 1) _ y).1 in
    let r = and_parts (le_z (negsuc 999999) c.argument) (le_z c.argument (pos 1000000)) q in
    omega (arith, le-true (negsuc 999999) c.argument r.0, le-true c.argument (pos 1000000) r.1)

pub picked_bounded : (s : Seen) (h : List Event) → History h → Known counter h → Bounded 4095000000 (sum (pick s h))
picked_bounded s h H K =
    sum_bounded {h = pick s h} 0 (rising_pick s H.rising) (λ e i. H.numbered e (of_picked s h e i).0)
    (λ e i. known_bounded e.change (K e (of_picked s h e i).0))

pub history_bounded : (h : List Event) → History h → Known counter h → Bounded 4095000000 (sum h)
history_bounded h H K = sum_bounded {h = h} 0 H.rising H.numbered (λ e i. known_bounded e.change (K e i))

pub sums_within : SumsWithin (pos 4095000000)
sums_within h H K =
    let b = history_bounded h H K in
    let low : le_z (negsuc 4094999999) (sum h) ≡ true = sym (omega (arith, ints)) in
    let high : le_z (sum h) (pos 4095000000) ≡ true = sym (omega (arith, ints)) in
    and_from (le_z (negsuc 4094999999) (sum h)) (le_z (sum h) (pos 4095000000)) low high

bounded_fits : (n : ℕ) (z : ℤ) → n < 2 ^ 63 → Bounded n z → SFits w64 z
bounded_fits n z small b = fits_in w64 z (omega arith)

-- ---- what two sides have seen together, and what both have seen
sum_joined : (a b : Seen) (h : List Event) → sum (pick (joined a b) h) +ℤ sum (pick (common a b) h) ≡ sum (pick a h) +ℤ sum (pick b h)
sum_joined a b [] = rw (pick_none a, pick_none b, pick_none (joined a b), pick_none (common a b))
sum_joined a b (e ∷ es) =
    let more = sum_joined a b es in
    by_bool (a e.number)
    (λ p. by_bool (b e.number)
    (λ q. rw (pick_yes a e es p, pick_yes b e es q, pick_yes (joined a b) e es (or_left _ _ p), pick_yes (common a b) e es (and_from _ _ p q)) (omega (arith, ints)))
    (λ q. rw (pick_yes a e es p, pick_no b e es q, pick_yes (joined a b) e es (or_left _ _ p), pick_no (common a b) e es (and_right _ _ q)) (omega (arith, ints))))
    (λ p. by_bool (b e.number)
    (λ q. rw (pick_no a e es p, pick_yes b e es q, pick_yes (joined a b) e es (or_right _ _ q), pick_no (common a b) e es (and_left _ _ p)) (omega (arith, ints)))
    (λ q. rw (pick_no a e es p, pick_no b e es q, pick_no (joined a b) e es (or_from _ _ p q), pick_no (common a b) e es (and_left _ _ p)) (omega (arith, ints))))

-- ---- the code's sums, which wrap, are the sums
add_exact : (a b : ℤ) → SFits w64 a → SFits w64 b → SFits w64 (a +ℤ b) → to_z w64 ((of_z w64 a + of_z w64 b) % 2 ^ 64) ≡ a +ℤ b
add_exact a b f g s = wrapping_add_is w64 a b f g ∙ int_wrap_fits w64 (a +ℤ b) s

pub changed_total : (h : List Event) (e : Event) (total argument : ℤ) → History h → Known counter h → counter.knows e.change ≡ true →
    total ≡ sum h → argument ≡ e.change.argument → to_z w64 ((of_z w64 total + of_z w64 argument) % 2 ^ 64) ≡ sum h +ℤ e.change.argument
changed_total h e total argument H K k t u =
    let x = history_bounded h H K in
    let y = known_bounded e.change k in
    rw (t, u) (add_exact (sum h) e.change.argument (bounded_fits 4095000000 _ (omega arith) x) (bounded_fits 1000000 _ (omega arith) y)
    (bounded_fits 4096000000 (sum h +ℤ e.change.argument) (omega arith) (omega (arith, ints))))

pub merged_total : (w : List Event) (a b : Seen) (base first second : ℤ) → History w → Known counter w →
    base ≡ sum (pick (common a b) w) → first ≡ sum (pick a w) → second ≡ sum (pick b w) →
    to_z w64 (((of_z w64 first + of_z w64 second) % 2 ^ 64 + (2 ^ 64 - of_z w64 base)) % 2 ^ 64) ≡ sum (pick (joined a b) w)
merged_total w a b base first second H K eb ef es =
    let j = picked_bounded (joined a b) w H K in
    let c = picked_bounded (common a b) w H K in
    let x = picked_bounded a w H K in
    let y = picked_bounded b w H K in
    let all = sum_joined a b w in
    let m = sum (pick a w) +ℤ sum (pick b w) in
    let sums = add_exact (sum (pick a w)) (sum (pick b w)) (bounded_fits 4095000000 _ (omega arith) x) (bounded_fits 4095000000 _ (omega arith) y)
    (bounded_fits 8190000000 (sum (pick a w) +ℤ sum (pick b w)) (omega arith) (omega (arith, ints))) in
    let n = (of_z w64 (sum (pick a w)) + of_z w64 (sum (pick b w))) % 2 ^ 64 in
    let less : m -ℤ sum (pick (common a b) w) ≡ sum (pick (joined a b) w) = omega (arith, ints) in
    rw (eb, ef, es)
    (wrapping_sub_onto w64 n (sum (pick (common a b) w)) (mod-lt _ {m = 2 ^ 64} (omega arith)) (bounded_fits 4095000000 _ (omega arith) c)
    ∙ ap (λ z. int_wrap w64 (z -ℤ sum (pick (common a b) w))) sums ∙ ap (int_wrap w64) less ∙ int_wrap_fits w64 _ (bounded_fits 4095000000 _ (omega arith) j))
