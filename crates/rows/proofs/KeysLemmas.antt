-- What follows from a total order of keys, and what gives one.
use Rattle.std.specs.Prelude.{◌≡◌, ℕ, ◌<◌, true, false, ◌⊎◌, ◌≢◌, refl}
use Rattle.std.specs.declared.cmp.Ordering.TheVariants.{Less, Equal, Greater}
use Rattle.std.specs.declared.cmp.Ordering.{Ordering}
use Rattle.std.proofs.Common.{sym, subst, ◌∙◌, inl, inr}
use Rattle.std.proofs.Math.Path.{ap}
use Rattle.std.specs.Ordering.{ordering_reverse, ordering_then, is_eq, is_lt, nat_cmp, on, then_cmp}
use Rattle.std.specs.Cmp.{IsTotalOrder, Equal-is, nat_cmp_total, nat_cmp_is, on_total, ranked, then_total}
use Rattle.rows.specs.Keys.{Total}

level_turned : (o : Ordering) → o ≡ ordering_reverse o → o ≡ Equal
level_turned Less e = cc
level_turned Equal e = refl
level_turned Greater e = cc

pub is_less : (o : Ordering) → is_lt o ≡ true → o ≡ Less
is_less Less e = refl
is_less Equal e = cc
is_less Greater e = cc

-- three ways
pub by_order : (o : Ordering) {P : Type 0} → (o ≡ Less → P) → (o ≡ Equal → P) → (o ≡ Greater → P) → P
by_order Less l e g = l refl
by_order Equal l e g = e refl
by_order Greater l e g = g refl

module _ {K : Type 0} (order : K → K → Ordering) (total : Total order) where
  pub itself : (a : K) → order a a ≡ Equal
  itself a = level_turned (order a a) (total.turned a a)

  pub level_same : (a b : K) → a ≡ b → order a b ≡ Equal
  level_same a b e = subst (λ k. order a k ≡ Equal) e (itself a)

  pub eq_here : (a : K) → is_eq (order a a) ≡ true
  eq_here a = ap is_eq (itself a)

  pub eq_same : (a b : K) → a ≡ b → is_eq (order a b) ≡ true
  eq_same a b e = ap is_eq (level_same a b e)

  pub eq_true : (a b : K) → is_eq (order a b) ≡ true → a ≡ b
  eq_true a b e = total.level a b ((Equal-is (order a b)).0 e)

  pub eq_false : (a b : K) → is_eq (order a b) ≡ false → a ≢ b
  eq_false a b e q = let h = eq_same a b q in cc

  pub ne_false : (a b : K) → (a ≢ b) → is_eq (order a b) ≡ false
  ne_false a b h = by_order (order a b) (λ e. ap is_eq e) (λ e. absurd (h (total.level a b e))) (λ e. ap is_eq e)

  pub greater_less : (a b : K) → order a b ≡ Greater → order b a ≡ Less
  greater_less a b e = total.turned a b ∙ ap ordering_reverse e

  pub less_apart : (a b : K) → order a b ≡ Less → a ≢ b
  less_apart a b l e = let h = level_same a b e in cc

  pub less_back : (a b : K) → order a b ≡ Less → order b a ≢ Less
  less_back a b l m = less_apart a a (total.through a b a l m) refl

  pub three : (a b : K) → (order a b ≡ Less) ⊎ ((a ≡ b) ⊎ (order b a ≡ Less))
  three a b = by_order (order a b) inl (λ e. inr (inl (total.level a b e))) (λ e. inr (inr (greater_less a b e)))

  pub either : (a b : K) → (a ≡ b) ⊎ (a ≢ b)
  either a b = by_order (order a b) (λ e. inr (less_apart a b e)) (λ e. inl (total.level a b e)) (λ e. inr (λ q. less_apart b a (greater_less a b e) (sym q)))

  -- a key that is not below another, and is not it, is above it
  pub above : (a b : K) → (order b a ≢ Less) → (b ≢ a) → order a b ≡ Less
  above a b n d = by_order (order a b) (λ e. e) (λ e. absurd (d (sym (total.level a b e)))) (λ e. absurd (n (greater_less a b e)))

  -- what is below a key is below one that is not below that key
  pub below_more : (x q k : K) → order x q ≡ Less → (order k q ≢ Less) → order x k ≡ Less
  below_more x q k l n =
      by_order (order q k) (λ e. total.through x q k l e) (λ e. subst (λ z. order x z ≡ Less) (total.level q k e) l)
      (λ e. absurd (n (greater_less q k e)))

-- ---- what gives a total order of keys

-- std's total order is one, where keys that are level are one key
pub total_order : {K : Type 0} {order : K → K → Ordering} → IsTotalOrder order → ((a b : K) → order a b ≡ Equal → a ≡ b) → Total order
total_order o level = record { level = level; turned = λ a b. o.antisymm b a; through = o.trans }

-- and the other way round
pub std_order : {K : Type 0} {order : K → K → Ordering} → Total order → IsTotalOrder order
std_order {order = order} t = record { antisymm = λ a b. t.turned b a; trans = t.through; congr = λ a b c e. ap (λ k. order k c) (t.level a b e) }

-- numbers, rising
pub number_level : (m n : ℕ) → nat_cmp m n ≡ Equal → m ≡ n
number_level m n e = ranked m n Equal (sym e)

pub number_less : (m n : ℕ) → m < n → nat_cmp m n ≡ Less
number_less m n l = sym (nat_cmp_is m n Less l)

pub total_number : Total nat_cmp
total_number = total_order nat_cmp_total number_level

-- keys of two parts, compared by the first and then by the second
pub level_two : {K A B : Type 0} (p : K → A) (q : K → B) {first : A → A → Ordering} {second : B → B → Ordering} →
    ((a b : A) → first a b ≡ Equal → a ≡ b) → ((a b : B) → second a b ≡ Equal → a ≡ b) → ((a b : K) → p a ≡ p b → q a ≡ q b → a ≡ b) →
    (a b : K) → then_cmp (on p first) (on q second) a b ≡ Equal → a ≡ b
level_two p q {first} {second} f s whole a b e =
    let r = both (first (p a) (p b)) (second (q a) (q b)) e in
    whole a b (f (p a) (p b) r.0) (s (q a) (q b) r.1)
  where
    both : (o r : Ordering) → ordering_then o r ≡ Equal → (o ≡ Equal) × (r ≡ Equal)
    both Less r e = (cc, cc)
    both Equal r e = (refl, e)
    both Greater r e = (cc, cc)

pub total_two : {K A B : Type 0} (first : A → A → Ordering) (second : B → B → Ordering) → Total first → Total second → (p : K → A) (q : K → B) →
    ((a b : K) → p a ≡ p b → q a ≡ q b → a ≡ b) → Total (λ (a b : K). ordering_then (first (p a) (p b)) (second (q a) (q b)))
total_two first second tf ts p q whole = total_order (then_total (on_total p (std_order tf)) (on_total q (std_order ts))) (level_two p q tf.level ts.level whole)
