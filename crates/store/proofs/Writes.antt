-- What a write leaves in a ledger.
use Rattle.std.proofs.Common.{◌≡◌, ℕ, zero, suc, ◌+◌, ◌<◌, ◌≤◌, max, true, ltb, ◌≢◌, List, [], ◌∷◌, ◌++◌, length, get_or, take, set, sym, refl, ap, ◌∙◌, subst, ap₂, ⊎_elim, arith, length-set}
use lib.ListN.{length-map}
use Rattle.std.proofs.lemmas.List.{take_more_set, map_push, length_push, get_or-set_same, get_or-set_other, get_or_push, ext_get_or}
use Rattle.std.proofs.lemmas.Bool.{and_from, and_parts, lt-ltb, ltb-true, cases_eq, ne_eqb}
use Rattle.std.proofs.lemmas.Bool.Decides.{nat_tests}
use Rattle.kinds.specs.Events.{Seen, Event, joined, nothing}
use Rattle.kinds.specs.declared.calls.Change as kind
use Rattle.calls.specs.declared.calls.Action.{Action}
use Rattle.calls.specs.declared.calls.Action.TheVariants.{Fork, Change, Merge}
use Rattle.calls.specs.declared.calls.Version.{Version}
use Rattle.store.specs.declared.ledger.Ledger.{Ledger}
use Rattle.calls.specs.World.{World, advance, opened, seen_by, with_event, next_event}
use Rattle.calls.specs.Counts.{tally, record_of, records_of}
use Rattle.calls.specs.Run.{possible, all_possible}
use Rattle.store.specs.Book.{Book, actions, told, world, appended, Appends}
use Rattle.store.specs.Ledgers.{book, record_at}
use Rattle.calls.proofs.Prefixes.{one_more}
use Rattle.calls.proofs.Worlds.{Sound, sound_advance}
use Rattle.calls.proofs.Questions.{count_is, tally_joined, tally_change, tally_small, records_kept}
use Rattle.store.proofs.Books.{actions_more, told_more, still_possible, sound_of, made_of, branches_of, head_below, record_long, head_count}

take_set_below : {A : Type 0} (n : ℕ) (l : List A) (i : ℕ) (a : A) → take n (set l i a) ≡ set (take n l) i a
take_set_below zero [] i a = refl
take_set_below zero (x ∷ l) zero a = refl
take_set_below zero (x ∷ l) (suc i) a = refl
take_set_below (suc n) [] i a = refl
take_set_below (suc n) (x ∷ l) zero a = refl
take_set_below (suc n) (x ∷ l) (suc i) a = ap (λ (k : List _). x ∷ k) (take_set_below n l i a)

-- one more at a place
set_more : (was : List ℕ) (b x : ℕ) (c : ℕ → ℕ) → b < length was → ((y : ℕ) → get_or was y 0 ≡ c y) → get_or (set was b (get_or was b 0 + 1)) x 0 ≡ one_more c b x
set_more was b x c l each =
    ⊎_elim
    (λ (q : x ≡ b). subst (λ y. get_or (set was b (get_or was b 0 + 1)) y 0 ≡ one_more c b y) (sym q)
    (get_or-set_same was b (get_or was b 0 + 1) 0 l ∙ (let e = each b in grind (arith, nat_tests))))
    (λ (q : x ≢ b). get_or-set_other was b x (get_or was b 0 + 1) 0 q ∙ (let e = each x in let n = ne_eqb x b q in grind (arith, nat_tests)))
    (cases_eq x b)

-- ---- what a branch has seen after a change or merge on it: what the new version has seen
module _ (w : World) (b : ℕ) (l : b < length w.heads) (new : Seen) (es : List Event) where
  pub seen_moved : seen_by (record { events = es; versions = w.versions ++ (new ∷ []); heads = set w.heads b (length w.versions) }) b ≡ new
  seen_moved =
      ap (λ (i : ℕ). get_or (w.versions ++ (new ∷ [])) i nothing) (get_or-set_same w.heads b (length w.versions) 0 l)
      ∙ get_or_push w.versions new nothing (length w.versions) refl

-- counts that are the tallies of a set are its record
record_by : (w : World) (h : Sound w) (s : Seen) (counts : List ℕ) → length counts ≡ 16 → ((x : ℕ) → x < 16 → get_or counts x 0 ≡ tally w.events s x) →
    ◌≡◌ {A = Version} (record { counts = counts }) (record_of w.events s)
record_by w h s counts sixteen each =
    ap (λ (l : List ℕ). record { counts = l })
    (ext_get_or 0 counts (record_of w.events s).counts sixteen (λ x l. each x (omega (arith, sixteen)) ∙ sym (count_is w h s x)))

module _ (s : Ledger) where
  abbrev w : World
  w = world (book s)

  -- ---- a merge
  module _ (d f : ℕ) (h : possible s.usable w (Merge d f) ≡ true) where
    parts : (d < length w.heads) × ((f < length w.heads) × (length w.versions < s.usable))
    parts =
        let p = and_parts (ltb d (length w.heads)) _ h in
        let q = and_parts (ltb f (length w.heads)) (ltb (length w.versions) s.usable) p.1 in
        (ltb-true d (length w.heads) p.0, (ltb-true f (length w.heads) q.0, ltb-true (length w.versions) s.usable q.1))

    pub merge_into : d < s.branches
    merge_into = omega (arith, parts.0, branches_of s)

    pub merge_source : f < s.branches
    merge_source = omega (arith, parts.1.0, branches_of s)

    pub merge_room : s.made < s.usable
    merge_room = omega (arith, parts.1.1, made_of s)

    pub merge_appends : (counts : List ℕ) → length counts ≡ 16 →
        ((x : ℕ) → x < 16 → get_or counts x 0 ≡ max (get_or (record_at s (get_or s.heads d 0)).counts x 0) (get_or (record_at s (get_or s.heads f 0)).counts x 0)) →
        Appends s.usable w (Merge d f) d (record { counts = counts }) s.events
    merge_appends counts sixteen high = record {
      possible = h;
      versions = map_push (record_of w.events) w.versions (joined (seen_by w d) (seen_by w f)) ∙ ap (λ (r : Version). records_of w ++ (r ∷ [])) (sym new);
      version = new ∙ ap (record_of w.events) (sym (seen_moved w d parts.0 (joined (seen_by w d) (seen_by w f)) w.events));
      heads = refl;
      events = s.numbered;
    }
      where
        new : ◌≡◌ {A = Version} (record { counts = counts }) (record_of w.events (joined (seen_by w d) (seen_by w f)))
        new = record_by w (sound_of s) (joined (seen_by w d) (seen_by w f)) counts sixteen
            (λ x l. omega (arith, high x l, tally_joined w (sound_of s) d f x, head_count s d x merge_into, head_count s f x merge_source))

  -- ---- a change
  module _ (b : ℕ) (c : kind.Change) (h : possible s.usable w (Change b c) ≡ true) where
    pub change_there : b < s.branches
    change_there = omega (arith, ltb-true b (length w.heads) (and_parts (ltb b (length w.heads)) (ltb (length w.versions) s.usable) h).0, branches_of s)

    pub change_room : s.made < s.usable
    change_room = omega (arith, ltb-true (length w.versions) s.usable (and_parts (ltb b (length w.heads)) (ltb (length w.versions) s.usable) h).1, made_of s)

    abbrev was : List ℕ
    was = (record_at s (get_or s.heads b 0)).counts

    -- there are so few events that the count fits
    pub change_small : get_or was b 0 < 4096
    change_small = omega (arith, head_count s b b change_there, tally_small w (sound_of s) (seen_by w b) b, s.numbered, s.fewer, change_room, s.small)

    pub change_appends : Appends s.usable w (Change b c) b (record { counts = set was b (get_or was b 0 + 1) }) (s.events + 1)
    change_appends = record {
      possible = h;
      versions = map_push (record_of es) w.versions grown
          ∙ ap₂ (λ (rs : List Version) (r : Version). rs ++ (r ∷ [])) (sym (records_kept w (sound_of s) b c)) (sym new);
      version = new ∙ ap (record_of es) (sym (seen_moved w b (omega (arith, branches_of s, change_there)) grown es));
      heads = refl;
      events = ap (λ n. n + 1) s.numbered ∙ sym (length_push w.events (next_event w b c));
    }
      where
        es : List Event
        es = w.events ++ (next_event w b c ∷ [])

        grown : Seen
        grown = with_event (seen_by w b) (length w.events + 1)

        long : length was ≡ 16
        long = record_long s (get_or s.heads b 0) (head_below s b change_there)

        each : (x : ℕ) → get_or (set was b (get_or was b 0 + 1)) x 0 ≡ one_more (tally w.events (seen_by w b)) b x
        each x = set_more was b x (tally w.events (seen_by w b)) (omega (arith, long, s.few, change_there)) (λ y. head_count s b y change_there)

        new : ◌≡◌ {A = Version} (record { counts = set was b (get_or was b 0 + 1) }) (record_of es grown)
        new = record_by (advance w (Change b c)) (sound_advance s.usable w (Change b c) s.small (sound_of s) h) grown (set was b (get_or was b 0 + 1))
            (length-set was b (get_or was b 0 + 1) ∙ long)
            (λ x l. each x ∙ sym (tally_change w (sound_of s) b c x))

-- ---- a version more
pub step_space : (s : Ledger) (b : ℕ) → b < s.branches → s.made < s.usable → s.taken < length s.steps.now
step_space s b bl room = let e = s.stepped (omega arith) in let k = s.counted (omega (arith, head_below s b bl)) in omega (arith, s.few)

pub few_steps : (s : Ledger) (b : ℕ) → b < s.branches → s.made < s.usable → s.taken < 4111
few_steps s b bl room = let k = s.counted (omega (arith, head_below s b bl)) in omega (arith, s.few, s.small)

module _ (s : Ledger) (a : Action) (b : ℕ) (r : Version) (n : ℕ) (bl : b < s.branches) (room : s.made < s.usable)
    (h : Appends s.usable (world (book s)) a b r n) where
  moved : told s.usable (set s.steps.now s.taken (record { action = a })) (s.taken + 1) ≡ advance (world (book s)) a
  moved = told_more s.usable s.steps.now s.taken (record { action = a }) (step_space s b bl room)

  pub append_possible : all_possible s.usable (opened s.usable) (actions (set s.steps.now s.taken (record { action = a })) (s.taken + 1)) ≡ true
  append_possible = still_possible s.usable s.steps.now s.taken (record { action = a }) (step_space s b bl room) s.possible h.possible

  pub append_recorded : take (s.made + 1) (set s.versions.now s.made r) ≡ records_of (told s.usable (set s.steps.now s.taken (record { action = a })) (s.taken + 1))
  append_recorded =
      take_more_set s.versions.now s.made r (omega (arith, s.versioned))
      ∙ ap (λ (rs : List Version). rs ++ (r ∷ [])) s.recorded ∙ sym h.versions ∙ ap records_of (sym moved)

  pub append_standing : take s.branches (set s.heads b s.made) ≡ (told s.usable (set s.steps.now s.taken (record { action = a })) (s.taken + 1)).heads
  append_standing =
      take_set_below s.branches s.heads b s.made
      ∙ ap₂ (λ (hs : List ℕ) (i : ℕ). set hs b i) s.standing (sym (made_of s))
      ∙ sym h.heads ∙ ap (λ (w : World). w.heads) (sym moved)

  pub append_numbered : n ≡ length (told s.usable (set s.steps.now s.taken (record { action = a })) (s.taken + 1)).events
  append_numbered = h.events ∙ ap (λ (w : World). length w.events) (sym moved)

  pub append_fewer : n ≤ s.made + 1
  append_fewer =
      omega (
        arith,
        h.events,
        (sound_advance s.usable (world (book s)) a s.small (sound_of s) h.possible).spare,
        sym (length-map (advance (world (book s)) a).versions (record_of (advance (world (book s)) a).events)) ∙ ap length h.versions
            ∙ length_push (records_of (world (book s))) r ∙ ap (λ k. k + 1) (length-map (world (book s)).versions (record_of (world (book s)).events) ∙ made_of s),
      )

  pub append_counted : s.taken + 1 + 2 ≤ s.made + 1 + s.branches
  append_counted = let k = s.counted (omega (arith, head_below s b bl)) in omega arith

pub append_book : (s : Ledger) (a : Action) (b : ℕ) (r : Version) (n : ℕ) → Appends s.usable (world (book s)) a b r n →
    ◌≡◌ {A = Book} (record {
      usable = s.usable;
      versions = set s.versions.now s.made r;
      made = s.made + 1;
      steps = set s.steps.now s.taken (record { action = a });
      taken = s.taken + 1;
      heads = set s.heads b s.made;
      branches = s.branches;
      events = n;
    }) (appended (book s) a b)
append_book s a b r n h =
    ap₂ {C = Book} (λ (r : Version) (n : ℕ). record {
      usable = s.usable;
      versions = set s.versions.now s.made r;
      made = s.made + 1;
      steps = set s.steps.now s.taken (record { action = a });
      taken = s.taken + 1;
      heads = set s.heads b s.made;
      branches = s.branches;
      events = n;
    }) h.version h.events

-- ---- the steps afterwards
pub appended_steps : (s : Ledger) (a : Action) (b : ℕ) → b < s.branches → s.made < s.usable →
    actions (set s.steps.now s.taken (record { action = a })) (s.taken + 1) ≡ actions s.steps.now s.taken ++ (a ∷ [])
appended_steps s a b bl room = actions_more s.usable s.steps.now s.taken (record { action = a }) (step_space s b bl room)

-- ---- a branch more
module _ (s : Ledger) (v : ℕ) (vl : v < s.made) (bl : s.branches < 16) where
  branch_space : s.taken < length s.steps.now
  branch_space = let e = s.stepped (omega (arith, s.within)) in let k = s.counted (omega arith) in omega (arith, s.within)

  pub forked_steps : actions (set s.steps.now s.taken (record { action = Fork v })) (s.taken + 1) ≡ actions s.steps.now s.taken ++ (Fork v ∷ [])
  forked_steps = actions_more s.usable s.steps.now s.taken (record { action = Fork v }) branch_space

  forking_possible : possible s.usable (world (book s)) (Fork v) ≡ true
  forking_possible =
      and_from (ltb v (length (world (book s)).versions)) (ltb (length (world (book s)).heads) 16)
      (lt-ltb v (length (world (book s)).versions) (omega (arith, made_of s))) (lt-ltb (length (world (book s)).heads) 16 (omega (arith, branches_of s)))

  branched : told s.usable (set s.steps.now s.taken (record { action = Fork v })) (s.taken + 1) ≡ advance (world (book s)) (Fork v)
  branched = told_more s.usable s.steps.now s.taken (record { action = Fork v }) branch_space

  pub fork_possible : all_possible s.usable (opened s.usable) (actions (set s.steps.now s.taken (record { action = Fork v })) (s.taken + 1)) ≡ true
  fork_possible = still_possible s.usable s.steps.now s.taken (record { action = Fork v }) branch_space s.possible forking_possible

  pub fork_recorded : take s.made s.versions.now ≡ records_of (told s.usable (set s.steps.now s.taken (record { action = Fork v })) (s.taken + 1))
  fork_recorded = s.recorded ∙ ap records_of (sym branched)

  pub fork_standing : take (s.branches + 1) (set s.heads s.branches v) ≡ (told s.usable (set s.steps.now s.taken (record { action = Fork v })) (s.taken + 1)).heads
  fork_standing =
      take_more_set s.heads s.branches v (omega (arith, s.sixteen))
      ∙ ap (λ (hs : List ℕ). hs ++ (v ∷ [])) s.standing ∙ ap (λ (w : World). w.heads) (sym branched)

  pub fork_numbered : s.events ≡ length (told s.usable (set s.steps.now s.taken (record { action = Fork v })) (s.taken + 1)).events
  fork_numbered = s.numbered ∙ ap (λ (w : World). length w.events) (sym branched)

  pub fork_counted : s.taken + 1 + 2 ≤ s.made + (s.branches + 1)
  fork_counted = let k = s.counted (omega arith) in omega arith
