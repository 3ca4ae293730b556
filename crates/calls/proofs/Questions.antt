-- What the questions of a call ask, by counts.
use Rattle.std.proofs.Common.{◌≡◌, ℕ, zero, suc, ◌+◌, ◌<◌, ◌≤◌, min, max, Bool, true, false, cond, ◌||◌, List, [], ◌∷◌, map, length, get_or, sym, refl, ap, ◌∙◌, subst, ⊎_elim, arith}
use mathlib.Core.Path.{fun_ext}
use Rattle.std.proofs.lemmas.List.{get_or-map, get_or_past}
use Rattle.std.proofs.ByRecursion.{All-from_get_or}
use Rattle.std.proofs.lemmas.Bool.{cases_lt, both_ways, and_parts, and_from, or_left, or_right, cond-true, cond-false}
use Rattle.std.specs.List.{AllByRecursion as All}
use Rattle.kinds.specs.Events.{Seen, Event, nothing, common, joined}
use Rattle.kinds.specs.declared.calls.Change as kind
use Rattle.calls.specs.declared.calls.Action.TheVariants.{Change}
use Rattle.calls.specs.Counts.{tally, sixteen, record_of, records_of}
use Rattle.calls.specs.World.{World, advance, seen_by, with_event, next_event, inside, same, stored, lowest}
use Rattle.calls.proofs.Prefixes.{one_more}
use Rattle.calls.proofs.Counted.{total_length, is_false}
use Rattle.calls.proofs.Tallies.{total_pick, inside_tallies, tallies_inside, tally_most, tally_least, tally_before, tally_with}
use Rattle.calls.proofs.Worlds.{Sound, both, version_prefix, version_only, seen_prefix, both_prefix}

-- ---- versions that have seen just s
module _ (es : List Event) (s : Seen) where
  pub stored_at : (vs : List Seen) (i : ℕ) → i < length vs → same es (get_or vs i nothing) s ≡ true → stored es s vs ≡ true
  stored_at [] i l q = absurd (omega arith)
  stored_at (v ∷ vs) zero l q = or_left (same es v s) (stored es s vs) q
  stored_at (v ∷ vs) (suc i) l q = or_right (same es v s) (stored es s vs) (stored_at vs i (omega arith) q)

  lowest_at : (vs : List Seen) (i : ℕ) → i < length vs → same es (get_or vs i nothing) s ≡ true →
      ((j : ℕ) → j < i → same es (get_or vs j nothing) s ≡ true → ⊥) → lowest es s vs ≡ i
  lowest_at [] i l q n = absurd (omega arith)
  lowest_at (v ∷ vs) zero l q n = cond-true (same es v s) 0 (lowest es s vs + 1) q
  lowest_at (v ∷ vs) (suc i) l q n =
      let r = lowest_at vs i (omega arith) q (λ j k. n (suc j) (omega arith)) in
      cond-false (same es v s) 0 (lowest es s vs + 1) (is_false (same es v s) (n 0 (omega arith))) ∙ omega arith

  pub lowest_same : (vs : List Seen) → stored es s vs ≡ true → (lowest es s vs < length vs) × (same es (get_or vs (lowest es s vs) nothing) s ≡ true)
  lowest_same [] h = absurd (both_ways false refl h)
  lowest_same (v ∷ vs) h = go (same es v s) refl h (lowest_same vs)
    where
      go : (t : Bool) → same es v s ≡ t → (t || stored es s vs) ≡ true →
          (stored es s vs ≡ true → (lowest es s vs < length vs) × (same es (get_or vs (lowest es s vs) nothing) s ≡ true)) →
          (cond t 0 (lowest es s vs + 1) < length (v ∷ vs)) × (same es (get_or (v ∷ vs) (cond t 0 (lowest es s vs + 1)) nothing) s ≡ true)
      go true q h next = (omega arith, q)
      go false q h next =
          let r = next h in
          let up : suc (lowest es s vs) ≡ lowest es s vs + 1 = omega arith in
          (let l = r.0 in omega arith, subst (λ i. same es (get_or (v ∷ vs) i nothing) s ≡ true) up r.1)

-- ---- records
abbrev upward : ℕ → ℕ → List ℕ
upward k zero = []
upward k (suc n) = k ∷ upward (k + 1) n

upward_at : (k n i : ℕ) → i < n → get_or (upward k n) i 0 ≡ k + i
upward_at k zero i l = absurd (omega arith)
upward_at k (suc n) zero l = omega arith
upward_at k (suc n) (suc i) l = let r = upward_at (k + 1) n i (omega arith) in omega arith

map_each : {A B : Type 0} (f g : A → B) (xs : List A) → All (λ x. f x ≡ g x) xs → map f xs ≡ map g xs
map_each f g [] e = refl
map_each f g (x ∷ xs) e = rw (e.0, map_each f g xs e.1)

module _ (w : World) (h : Sound w) where
  pub tally_small : (s : Seen) (b : ℕ) → tally w.events s b ≤ length w.events
  tally_small s b = let p = total_pick s w.events b in let q = total_length b w.events in omega arith

  pub count_is : (s : Seen) (b : ℕ) → get_or (record_of w.events s).counts b 0 ≡ tally w.events s b
  count_is s b = ⊎_elim
      (λ (l : b < 16). get_or-map (tally w.events s) sixteen b 0 0 l ∙ ap (tally w.events s) (upward_at 0 16 b l ∙ omega arith))
      (λ (l : 16 ≤ b). get_or_past (map (tally w.events s) sixteen) b 0 l
      ∙ (let f = h.few in let o = h.branched b (omega arith) in let p = total_pick s w.events b in omega arith))
      (cases_lt b 16)

  -- the old versions have not seen a change's event
  pub records_kept : (d : ℕ) (c : kind.Change) → records_of w ≡ map (record_of (advance w (Change d c)).events) w.versions
  records_kept d c =
      map_each (record_of w.events) (record_of (advance w (Change d c)).events) w.versions
      (All-from_get_or (λ s. record_of w.events s ≡ record_of (advance w (Change d c)).events s) w.versions nothing (λ i l.
      ap (λ (t : ℕ → ℕ). record { counts = map t sixteen })
      (fun_ext (λ b. sym (tally_before w.events (next_event w d c) h.numbered refl (get_or w.versions i nothing) (version_only w h i) b)))))

  pub tally_change : (d : ℕ) (c : kind.Change) (b : ℕ) →
      tally (advance w (Change d c)).events (with_event (seen_by w d) (length w.events + 1)) b ≡ one_more (tally w.events (seen_by w d)) d b
  tally_change d c b = tally_with w.events (next_event w d c) h.numbered refl (seen_by w d) b

  module _ (d s : ℕ) where
    pub inside_yes : ((b : ℕ) → tally w.events (seen_by w s) b ≤ tally w.events (seen_by w d) b) → inside w.events (seen_by w s) (seen_by w d) ≡ true
    inside_yes = tallies_inside w.events (seen_by w s) (seen_by w d) (seen_prefix w h s) (seen_prefix w h d)

    pub inside_no : (((b : ℕ) → tally w.events (seen_by w s) b ≤ tally w.events (seen_by w d) b) → ⊥) → inside w.events (seen_by w s) (seen_by w d) ≡ false
    inside_no n = is_false (inside w.events (seen_by w s) (seen_by w d)) (λ t. n (inside_tallies w.events (seen_by w s) (seen_by w d) t))

    pub tally_joined : (b : ℕ) → tally w.events (joined (seen_by w d) (seen_by w s)) b ≡ max (tally w.events (seen_by w d) b) (tally w.events (seen_by w s) b)
    tally_joined = tally_most w.events h.numbered (seen_by w d) (seen_by w s) (seen_prefix w h d) (seen_prefix w h s)

    -- version i has seen just what both branches have
    abbrev pub Base : ℕ → Type 0
    Base i = (b : ℕ) → tally w.events (get_or w.versions i nothing) b ≡ min (tally w.events (seen_by w d) b) (tally w.events (seen_by w s) b)

    both_tally : (b : ℕ) → tally w.events (both w d s) b ≡ min (tally w.events (seen_by w d) b) (tally w.events (seen_by w s) b)
    both_tally = tally_least w.events h.numbered (seen_by w d) (seen_by w s) (seen_prefix w h d) (seen_prefix w h s)

    module _ (i : ℕ) where
      abbrev version : Seen
      version = get_or w.versions i nothing

      base_same : Base i → same w.events version (both w d s) ≡ true
      base_same base =
          and_from (inside w.events version (both w d s)) (inside w.events (both w d s) version)
          (tallies_inside w.events version (both w d s) (version_prefix w h i) (both_prefix w h d s) (λ b. omega (arith, base b, both_tally b)))
          (tallies_inside w.events (both w d s) version (both_prefix w h d s) (version_prefix w h i) (λ b. omega (arith, base b, both_tally b)))

      same_base : same w.events version (both w d s) ≡ true → Base i
      same_base t b =
          let p = and_parts (inside w.events version (both w d s)) (inside w.events (both w d s) version) t in
          let x = inside_tallies w.events version (both w d s) p.0 b in
          let y = inside_tallies w.events (both w d s) version p.1 b in
          let z = both_tally b in omega arith

    pub stored_yes : (i : ℕ) → i < length w.versions → Base i → stored w.events (common (seen_by w d) (seen_by w s)) w.versions ≡ true
    stored_yes i l base = stored_at w.events (both w d s) w.versions i l (base_same i base)

    pub stored_no : ((i : ℕ) → i < length w.versions → Base i → ⊥) → stored w.events (common (seen_by w d) (seen_by w s)) w.versions ≡ false
    stored_no n = is_false (stored w.events (both w d s) w.versions) (λ t.
        let r = lowest_same w.events (both w d s) w.versions t in
        n (lowest w.events (both w d s) w.versions) r.0 (same_base (lowest w.events (both w d s) w.versions) r.1))

    pub lowest_is : (i : ℕ) → i < length w.versions → Base i → ((j : ℕ) → j < i → Base j → ⊥) →
        lowest w.events (common (seen_by w d) (seen_by w s)) w.versions ≡ i
    lowest_is i l base n = lowest_at w.events (both w d s) w.versions i l (base_same i base) (λ j k q. n j k (same_base j q))
