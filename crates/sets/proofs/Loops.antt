-- A loop that writes the items of a filter of a slice, one after another.
use denote.Param.Members.{Mut}
use Rattle.std.specs.Fn.{CalledAt}
use Rattle.std.specs.Iterator.Adapters.{filter_source, filter_callee, filter_steps}
use Rattle.std.specs.Slice.Iter.{iter_rest}
use Rattle.std.proofs.iter.Yields.{fronts}
use Rattle.std.proofs.lemmas.Iterator.{YieldsList, YieldsList-from_slice}
use Rattle.std.proofs.lemmas.Iterator.Consumers.{YieldsList-at, YieldsList-from_filter}
use Rattle.std.proofs.Common.{Bool, filter, ◌≡◌, ℕ, ◌+◌, ◌<◌, ◌≤◌, List, [], ◌∷◌, ◌++◌, length, map, take, set, Bor, sym, ap, ◌∙◌, arith, length-set}
use Rattle.std.proofs.lemmas.List.{take_more_set, length_push, map-append}

-- The first n of `out`, which has so many places, are the items so far.
pub record Copied {A : Type 0} (places : ℕ) (out : List A) (n : ℕ) (items : List (Bor A)) : Type 0 where
  pub places_are : length out ≡ places
  pub within : n ≤ places
  pub count : n ≡ length items
  pub written : take n out ≡ map (λ x. x.now) items

pub copied_more : {A : Type 0} {places : ℕ} {out : List A} {n : ℕ} {items : List (Bor A)} (x : Bor A) → n < places → Copied places out n items →
    Copied places (set out n x.now) (n + 1) (items ++ x ∷ [])
copied_more {out = out} {n} {items} x l c = record {
  places_are = length-set out n x.now ∙ c.places_are;
  within = omega arith;
  count = ap (λ k. k + 1) c.count ∙ sym (length_push items x);
  written = take_more_set out n x.now (omega arith) ∙ ap (λ ys. ys ++ x.now ∷ []) c.written ∙ sym (map-append (λ y. y.now) items (x ∷ []));
}

-- the items of such a filter: those of the slice that pass
pub passing : {A F : Type 0} (test : A → Bool) (xs : List A) {s : _} {t : _} {u : _} (g : Mut F (Bor (Bor A) × Unit {0}) Bool) {f : F} →
    u ≡ t → filter_source t ≡ s → iter_rest s ≡ xs → filter_callee t ≡ f → ((x : Bor A) (b : Bool) (q : F) → CalledAt g f x b q → (q ≡ f) × (b ≡ test x.now)) →
    YieldsList (filter_steps fronts g) (λ y. y.now) u (filter test xs)
passing test xs g is source rests closure says = YieldsList-at is (YieldsList-from_filter g test (YieldsList-at source (YieldsList-from_slice xs rests)) closure says)
