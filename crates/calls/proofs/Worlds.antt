-- What holds of the world that possible steps tell of.
use Rattle.std.proofs.Common.{◌≡◌, ℕ, zero, suc, ◌+◌, ◌-◌, ◌<◌, ◌≤◌, true, ◌&&◌, ltb, ◌≢◌, List, [], ◌∷◌, ◌++◌, length, get_or, set, sym, refl, ap, ◌∙◌, subst, ⊎_elim, arith, length-set}
use Rattle.std.proofs.lemmas.Bool.Decides.{nat_tests}
use Rattle.std.proofs.lemmas.List.{get_or_push, get_or_append_left, get_or-set_same, get_or-set_other, length_push}
use Rattle.std.proofs.ByRecursion.{All-push, All-from_get_or}
use Rattle.std.proofs.lemmas.Bool.{cases_eq, cases_lt, and_parts, ltb-true}
use Rattle.std.specs.List.{AllByRecursion as All}
use Rattle.kinds.specs.Events.{Seen, Event, In, nothing, common, joined}
use Rattle.kinds.specs.History.{History, Closed}
use Rattle.kinds.specs.declared.calls.Change as kind
use Rattle.kinds.proofs.Picks.{in_none, closed_joined, pick_none}
use Rattle.kinds.proofs.Histories.{history_more, coherent}
use Rattle.calls.specs.declared.calls.Action.{Action}
use Rattle.calls.specs.declared.calls.Action.TheVariants.{Fork, Change, Merge}
use Rattle.calls.specs.Counts.{total, tally}
use Rattle.calls.specs.World.{World, advance, opened, seen_by, with_event, next_event}
use Rattle.calls.specs.Run.{advances}
use Rattle.calls.specs.Run.{possible, all_possible}
use Rattle.calls.proofs.Prefixes.{Numbered, Only, first_of, Prefix}
use Rattle.calls.proofs.Counted.{first_own, total_push}
use Rattle.calls.proofs.Tallies.{total_pick, prefix_nothing, prefix_only, tally_most, prefix_joined, prefix_common}
use Rattle.calls.proofs.Tallies.{numbered_more, number_above, closed_before, tally_before, prefix_before, closed_with, tally_with, prefix_with}

pub record Sound (w : World) : Type 0 where
  pub numbered : Numbered 0 w.events
  pub history : History w.events
  -- a version has seen the first events of each branch, as many as it has seen at all
  pub prefix : All (λ s. Prefix s w.events) w.versions
  pub closed : All (λ s. Closed s w.events) w.versions
  pub headed : (b : ℕ) → b < length w.heads → get_or w.heads b 0 < length w.versions
  -- the head of a branch has seen all events of the branch
  pub owned : (b : ℕ) → b < length w.heads → tally w.events (seen_by w b) b ≡ total b w.events
  pub branched : (b : ℕ) → length w.heads ≤ b → total b w.events ≡ 0
  pub few : length w.heads ≤ 16
  pub spare : length w.events ≤ length w.versions - 1

-- what holds of each element and of the default holds at every place
all_or : {A : Type 0} (P : A → Type 0) (xs : List A) (i : ℕ) (d : A) → All P xs → P d → P (get_or xs i d)
all_or P [] i d e p = p
all_or P (x ∷ xs) zero d e p = e.0
all_or P (x ∷ xs) (suc i) d e p = all_or P xs i d e.1 p

-- what both branches have seen
abbrev pub both : World → ℕ → ℕ → Seen
both w d s = common (seen_by w d) (seen_by w s)

pub sound_opened : (V : ℕ) → Sound (opened V)
unfolding total first_of
sound_opened zero = record {
  numbered = tt;
  history = coherent.none;
  prefix = tt;
  closed = tt;
  headed = λ b l. absurd (omega arith);
  owned = λ b l. absurd (omega arith);
  branched = λ b l. refl;
  few = omega arith;
  spare = omega arith;
}
sound_opened (suc n) = record {
  numbered = tt;
  history = coherent.none;
  prefix = (refl, tt);
  closed = ((λ e k i t u. absurd (in_none i)), tt);
  headed = at_zero;
  owned = λ b l. ap (total b) (pick_none (seen_by (opened (suc n)) b));
  branched = λ b l. refl;
  few = omega arith;
  spare = omega arith;
}
  where
    at_zero : (b : ℕ) → b < 1 → get_or {A = ℕ} (0 ∷ []) b 0 < 1
    at_zero zero l = omega arith
    at_zero (suc b) l = absurd (omega arith)

module _ (w : World) (h : Sound w) where
  -- past the last version it is nothing that is seen
  pub version_prefix : (i : ℕ) → Prefix (get_or w.versions i nothing) w.events
  version_prefix i = all_or (λ s. Prefix s w.events) w.versions i nothing h.prefix (prefix_nothing w.events)

  pub version_only : (i : ℕ) → Only (get_or w.versions i nothing) w.events
  version_only i = prefix_only (get_or w.versions i nothing) w.events (version_prefix i)

  pub version_closed : (i : ℕ) → Closed (get_or w.versions i nothing) w.events
  version_closed i = all_or (λ s. Closed s w.events) w.versions i nothing h.closed (λ e n i t u. t)

  pub seen_prefix : (b : ℕ) → Prefix (seen_by w b) w.events
  seen_prefix b = version_prefix (get_or w.heads b 0)

  pub seen_only : (b : ℕ) → Only (seen_by w b) w.events
  seen_only b = version_only (get_or w.heads b 0)

  pub seen_closed : (b : ℕ) → Closed (seen_by w b) w.events
  seen_closed b = version_closed (get_or w.heads b 0)

  pub both_prefix : (d s : ℕ) → Prefix (both w d s) w.events
  both_prefix d s = prefix_common w.events h.numbered (seen_by w d) (seen_by w s) (seen_prefix d) (seen_prefix s)

  pub both_only : (d s : ℕ) → Only (both w d s) w.events
  both_only d s = prefix_only (both w d s) w.events (both_prefix d s)

  seen_own : (b : ℕ) → b < length w.heads → (f : Event) → In f w.events → b ≡ f.branch → seen_by w b f.number ≡ true
  seen_own b l f i q =
      ap (λ (s : Seen). s f.number) (seen_prefix b)
      ∙ first_own (tally w.events (seen_by w b)) 0 w.events f h.numbered i
      (subst (λ x. total x w.events ≤ tally w.events (seen_by w b) x) q (omega (arith, h.owned b l)))

  sound_fork : (i : ℕ) → i < length w.versions → length w.heads < 16 → Sound (advance w (Fork i))
  sound_fork i l few = record {
    numbered = h.numbered;
    history = h.history;
    prefix = h.prefix;
    closed = h.closed;
    headed = λ b k. ⊎_elim
        (λ (o : b < length w.heads). rw (get_or_append_left w.heads (i ∷ []) 0 b o) (h.headed b o))
        (λ (o : length w.heads ≤ b). rw (get_or_push w.heads i 0 b (last b k o)) l)
        (cases_lt b (length w.heads));
    owned = λ b k. ⊎_elim
        (λ (o : b < length w.heads). rw (get_or_append_left w.heads (i ∷ []) 0 b o) (h.owned b o))
        (λ (o : length w.heads ≤ b). let p = h.branched b o in let q = total_pick (seen_by (advance w (Fork i)) b) w.events b in omega arith)
        (cases_lt b (length w.heads));
    branched = λ b k. h.branched b (let e = length_push w.heads i in omega arith);
    few = let e = length_push w.heads i in omega arith;
    spare = h.spare;
  }
    where
      last : (b : ℕ) → b < length (w.heads ++ (i ∷ [])) → length w.heads ≤ b → length w.heads ≡ b
      last b k o = let e = length_push w.heads i in omega arith

  -- a version more, to which the head of branch d moves
  module _ (d : ℕ) (s : Seen) (dl : d < length w.heads) where
    abbrev moved : List ℕ
    moved = set w.heads d (length w.versions)

    there_before : (b : ℕ) → b < length moved → b < length w.heads
    there_before b k = subst (λ z. b < z) (length-set w.heads d (length w.versions)) k

    headed_moved : (b : ℕ) → b < length moved → get_or moved b 0 < length (w.versions ++ (s ∷ []))
    headed_moved b k =
        let e = length_push w.versions s in
        ⊎_elim
        (λ (q : b ≡ d). subst (λ z. get_or moved z 0 < length (w.versions ++ (s ∷ []))) (sym q) (rw (get_or-set_same w.heads d (length w.versions) 0 dl) (omega arith)))
        (λ (q : b ≢ d). rw (get_or-set_other w.heads d b (length w.versions) 0 q) (let p = h.headed b (there_before b k) in omega arith))
        (cases_eq b d)

    abbrev seen_moved : ℕ → Seen
    seen_moved b = get_or (w.versions ++ (s ∷ [])) (get_or moved b 0) nothing

    moved_same : seen_moved d ≡ s
    moved_same =
        ap (λ i. get_or (w.versions ++ (s ∷ [])) i nothing) (get_or-set_same w.heads d (length w.versions) 0 dl)
        ∙ get_or_push w.versions s nothing (length w.versions) refl

    moved_other : (b : ℕ) → b < length w.heads → b ≢ d → seen_moved b ≡ seen_by w b
    moved_other b k q =
        ap (λ i. get_or (w.versions ++ (s ∷ [])) i nothing) (get_or-set_other w.heads d b (length w.versions) 0 q)
        ∙ get_or_append_left w.versions (s ∷ []) nothing (get_or w.heads b 0) (h.headed b k)

    owned_moved : (es : List Event) → tally es s d ≡ total d es → ((b : ℕ) → b < length w.heads → b ≢ d → tally es (seen_by w b) b ≡ total b es) →
        (b : ℕ) → b < length moved → tally es (seen_moved b) b ≡ total b es
    owned_moved es here others b k =
        ⊎_elim
        (λ (q : b ≡ d). subst (λ z. tally es (seen_moved z) z ≡ total z es) (sym q) (ap (λ (z : Seen). tally es z d) moved_same ∙ here))
        (λ (q : b ≢ d). ap (λ (z : Seen). tally es z b) (moved_other b (there_before b k) q) ∙ others b (there_before b k) q)
        (cases_eq b d)

  sound_merge : (d f : ℕ) → d < length w.heads → Sound (advance w (Merge d f))
  sound_merge d f dl =
      let s : Seen = joined (seen_by w d) (seen_by w f) in
      record {
        numbered = h.numbered;
        history = h.history;
        prefix = All-push (λ s. Prefix s w.events) w.versions s h.prefix
            (prefix_joined w.events h.numbered (seen_by w d) (seen_by w f) (seen_prefix d) (seen_prefix f));
        closed = All-push (λ s. Closed s w.events) w.versions s h.closed
            (closed_joined (seen_by w d) (seen_by w f) w.events (seen_closed d) (seen_closed f));
        headed = headed_moved d s dl;
        owned = owned_moved d s dl w.events
            (let m = tally_most w.events h.numbered (seen_by w d) (seen_by w f) (seen_prefix d) (seen_prefix f) d in
            let o = h.owned d dl in let p = total_pick (seen_by w f) w.events d in omega arith)
            (λ b k q. h.owned b k);
        branched = λ b k. h.branched b (let e = length-set w.heads d (length w.versions) in omega arith);
        few = let e = length-set w.heads d (length w.versions) in let p = h.few in omega arith;
        spare = let e = length_push w.versions s in let p = h.spare in omega arith;
      }

  module _ (d : ℕ) (c : kind.Change) (dl : d < length w.heads) (room : length w.versions < 4096) where
    abbrev e : Event
    e = next_event w d c

    abbrev longer : List Event
    longer = w.events ++ (e ∷ [])

    sound_change : Sound (advance w (Change d c))
    sound_change =
        let s : Seen = with_event (seen_by w d) (length w.events + 1) in
        record {
          numbered = numbered_more w.events e h.numbered refl;
          history = history_more w.events e h.history (omega arith, (let a = h.spare in let hd = h.headed d dl in omega arith)) (omega (arith, h.few))
              (number_above w.events e h.numbered refl) (seen_closed d) (seen_only d) (seen_own d dl);
          prefix = All-push (λ s. Prefix s longer) w.versions s
              (All-from_get_or (λ s. Prefix s longer) w.versions nothing (λ i l.
              prefix_before w.events e h.numbered refl (get_or w.versions i nothing) (version_prefix i)))
              (prefix_with w.events e h.numbered refl (seen_by w d) (seen_prefix d) (h.owned d dl));
          closed = All-push (λ s. Closed s longer) w.versions s
              (All-from_get_or (λ s. Closed s longer) w.versions nothing (λ i l.
              closed_before w.events e h.numbered refl (get_or w.versions i nothing) (version_closed i) (version_only i)))
              (closed_with w.events e h.numbered refl (seen_by w d) (seen_closed d) (λ n. refl));
          headed = headed_moved d s dl;
          owned = owned_moved d s dl longer
              (let t = tally_with w.events e h.numbered refl (seen_by w d) d in
              let u = total_push d w.events e in let o = h.owned d dl in grind (arith, nat_tests))
              (λ b k q.
              let t = tally_before w.events e h.numbered refl (seen_by w b) (seen_only b) b in
              let u = total_push b w.events e in let o = h.owned b k in grind (arith, nat_tests));
          branched = λ b k.
              let k' : length w.heads ≤ b = (let e = length-set w.heads d (length w.versions) in omega arith) in
              let t = total_push b w.events e in let o = h.branched b k' in grind (arith, nat_tests);
          few = let e = length-set w.heads d (length w.versions) in let p = h.few in omega arith;
          spare = let v = length_push w.versions s in let p = h.spare in let q = length_push w.events e in let hd = h.headed d dl in omega arith;
        }

pub sound_advance : (V : ℕ) (w : World) (a : Action) → V ≤ 4096 → Sound w → possible V w a ≡ true → Sound (advance w a)
sound_advance V w (Fork v) small h p =
    let q = and_parts (ltb v (length w.versions)) (ltb (length w.heads) 16) p in
    sound_fork w h v (ltb-true v (length w.versions) q.0) (ltb-true (length w.heads) 16 q.1)
sound_advance V w (Change b c) small h p =
    let q = and_parts (ltb b (length w.heads)) (ltb (length w.versions) V) p in
    let l = ltb-true (length w.versions) V q.1 in
    sound_change w h b c (ltb-true b (length w.heads) q.0) (omega arith)
sound_advance V w (Merge d s) small h p =
    let q = and_parts (ltb d (length w.heads)) (ltb s (length w.heads) && ltb (length w.versions) V) p in
    sound_merge w h d s (ltb-true d (length w.heads) q.0)

pub sound_after : (V : ℕ) (w : World) (actions : List Action) → V ≤ 4096 → Sound w → all_possible V w actions ≡ true → Sound (advances w actions)
sound_after V w [] small h p = h
sound_after V w (a ∷ more) small h p =
    let q = and_parts (possible V w a) (all_possible V (advance w a) more) p in
    sound_after V (advance w a) more small (sound_advance V w a small h q.0) q.1
