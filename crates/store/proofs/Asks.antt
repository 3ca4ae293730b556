-- The store's own questions, by what stands in a ledger.
use Rattle.std.proofs.Common.{◌≡◌, ℕ, ◌<◌, ◌≤◌, min, Bool, true, false, ltb, nat_eq, List, [], length, get_or, take, Option, Some, None, MatchOption, Ok, Err, Result, position, refl, sym, ap, ◌∙◌, subst, ap₂, ⊎_elim, arith}
use lib.Pointwise.{pointwise, bytes_decides}
use Rattle.std.specs.Cmp.Lexicographic.{same_text}
use Rattle.std.specs.List.{position_or_len}
use Rattle.std.specs.Option.{ok_or}
use Rattle.std.proofs.lemmas.Bool.{lt-ltb, le-ltb, both_ways, cases_lt, cond-true, cond-false}
use Rattle.std.proofs.lemmas.List.{get_or-take, get_or_past, ext_get_or}
use Rattle.std.proofs.lemmas.List.Quantifiers.{position-Some}
use Rattle.std.proofs.lemmas.List.Sums.{fails_before_first}
use Rattle.kinds.specs.Events.{Seen, common, nothing}
use Rattle.calls.specs.declared.calls.Meeting.{Meeting}
use Rattle.calls.specs.declared.calls.Meeting.TheVariants.{Seen as Met, Apart}
use Rattle.calls.specs.declared.fault.StoreFault.{StoreFault}
use Rattle.calls.specs.declared.fault.StoreFault.TheVariants.{NoVersion, NoBranch, NoSource, VersionsFull, NoBase}
use Rattle.store.specs.declared.ledger.Ledger.{Ledger}
use Rattle.calls.specs.World.{World, seen_by, inside, stored, lowest}
use Rattle.store.specs.Book.{world}
use Rattle.calls.specs.Counts.{tally}
use Rattle.calls.specs.Outcome.{asked, started, spare, asking, merging}
use Rattle.store.specs.Ledgers.{book, record_at}
use Rattle.calls.proofs.Inversions.{asked_yes, asked_no, asking_ok, meeting}
use Rattle.calls.specs.declared.calls.Version.{Version}
use Rattle.store.proofs.Books.{sound_of, made_of, made_long, branches_of, head_at, head_below, record_long, count_at, head_count}
use Rattle.calls.proofs.Questions.{Base, inside_yes, inside_no, stored_yes, stored_no, lowest_is}

-- where a test has no place at all, it fails at each
no_position : {A : Type 0} (p : A → Bool) (xs : List A) → position p xs ≡ None → (i : ℕ) (d : A) → i < length xs → p (get_or xs i d) ≡ true → ⊥
no_position p xs none i d l h = ⊎_elim
    (λ (some : position_or_len p xs < length xs).
    let found = cond-true (ltb (position_or_len p xs) (length xs)) (Some (position_or_len p xs)) None (lt-ltb (position_or_len p xs) (length xs) some) in cc)
    (λ (all : length xs ≤ position_or_len p xs). both_ways (p (get_or xs i d)) (fails_before_first p xs i d (omega arith)) h)
    (cases_lt (position_or_len p xs) (length xs))

-- what `ok_or` refuses
pub refused_by : (o : Option ℕ) (f e : StoreFault) → Err e ≡ ok_or o f → (o ≡ None) × (e ≡ f)
refused_by None f e q = (refl, cc)
refused_by (Some x) f e q = (cc, cc)

module _ (s : Ledger) where
  abbrev w : World
  w = world (book s)

  -- ---- one question
  module _ {B : Type 0} (next : Result B StoreFault) where
    is_started : 0 < s.made → started w next ≡ next
    is_started l = asked_yes (ltb 0 (length w.versions)) NoVersion next (lt-ltb 0 (length w.versions) (omega (arith, made_of s)))

    has_branch : (b : ℕ) (f : StoreFault) → b < s.branches → asked (ltb b (length w.heads)) f next ≡ next
    has_branch b f l = asked_yes (ltb b (length w.heads)) f next (lt-ltb b (length w.heads) (omega (arith, branches_of s)))

    has_room : (b : ℕ) → s.made < s.usable → spare s.usable w b next ≡ next
    has_room b l = asked_yes (ltb (length w.versions) s.usable) (VersionsFull b) next (lt-ltb (length w.versions) s.usable (omega (arith, made_of s)))

    no_room : (b : ℕ) → s.usable ≤ s.made → spare s.usable w b next ≡ Err (VersionsFull b)
    no_room b l = asked_no (ltb (length w.versions) s.usable) (VersionsFull b) next (le-ltb (length w.versions) s.usable (omega (arith, made_of s)))

  started_at : {B : Type 0} (next : Result B StoreFault) (b : ℕ) (f : StoreFault) → b < s.branches →
      started w (asked (ltb b (length w.heads)) f next) ≡ next
  started_at next b f l = is_started (asked (ltb b (length w.heads)) f next) (omega (arith, head_below s b l)) ∙ has_branch next b f l

-- ---- a call on a branch that is there
module _ (s : Ledger) (d first : ℕ) (at : Ok first ≡ asking (world (book s)) d) where
  abbrev v : World
  v = world (book s)

  there : d < s.branches
  there = omega (arith, branches_of s, (asking_ok v d first (sym at)).0)

  first_is : first ≡ get_or v.heads d 0
  first_is = (asking_ok v d first (sym at)).1

  pub first_below : first < s.made
  first_below = omega (arith, first_is, head_at s d there, head_below s d there)

  -- ---- a merge from another branch
  module _ (f second : ℕ) (r : Option ℕ) (read : MatchOption r (s.branches ≤ f) (λ head. (f < s.branches) × (head ≡ get_or s.heads f 0))) (some : r ≡ Some second) where
    source : (f < s.branches) × (second ≡ get_or s.heads f 0)
    source = subst (λ o. MatchOption o (s.branches ≤ f) (λ head. (f < s.branches) × (head ≡ get_or s.heads f 0))) some read

    abbrev past-source : Result Meeting StoreFault
    past-source = asked (ltb f (length v.heads)) (NoSource f) (meeting s.usable v d f)

    pub second_below : second < s.made
    second_below = omega (arith, source.1, head_below s f source.0)

    merging_met : merging s.usable v d f ≡ meeting s.usable v d f
    merging_met = started_at s past-source d (NoBranch d) there ∙ has_branch s (meeting s.usable v d f) f (NoSource f) source.0

    abbrev ours : List ℕ
    ours = (record_at s first).counts

    abbrev theirs : List ℕ
    theirs = (record_at s second).counts

    ours_are : (x : ℕ) → get_or ours x 0 ≡ tally v.events (seen_by v d) x
    ours_are x = count_at s first x first_below ∙ ap (λ (i : ℕ). tally v.events (get_or v.versions i nothing) x) first_is

    theirs_are : (x : ℕ) → get_or theirs x 0 ≡ tally v.events (seen_by v f) x
    theirs_are x = ap (λ (i : ℕ). get_or (record_at s i).counts x 0) source.1 ∙ head_count s f x source.0

    pub merging_seen : ((x : ℕ) → get_or theirs x 0 ≤ get_or ours x 0) → Ok (Met first) ≡ merging s.usable v d f
    merging_seen low =
        ap (λ (i : ℕ). Ok (Met i)) first_is
        ∙ sym (merging_met ∙ cond-true (inside v.events (seen_by v f) (seen_by v d)) _ _
        (inside_yes v (sound_of s) d f (λ x. omega (arith, low x, ours_are x, theirs_are x))))

    module _ (low : List ℕ) (sixteen : length low ≡ 16) (lows : (x : ℕ) → x < 16 → get_or low x 0 ≡ min (get_or ours x 0) (get_or theirs x 0))
        (high : ((x : ℕ) → get_or theirs x 0 ≤ get_or ours x 0) → ⊥) where
      low_is : (x : ℕ) → get_or low x 0 ≡ min (get_or ours x 0) (get_or theirs x 0)
      low_is x = ⊎_elim
          (λ (l : x < 16). lows x l)
          (λ (l : 16 ≤ x). omega (
            arith,
            get_or_past low x 0 (omega (arith, sixteen)),
            get_or_past ours x 0 (omega (arith, record_long s first first_below)),
            get_or_past theirs x 0 (omega (arith, record_long s second second_below)),
          ))
          (cases_lt x 16)

      -- a version that has seen just what low says
      abbrev Seen-low : Version → Bool
      Seen-low r = pointwise nat_eq r.counts low

      apart : inside v.events (seen_by v f) (seen_by v d) ≡ false
      apart = inside_no v (sound_of s) d f (λ k. high (λ x. omega (arith, k x, ours_are x, theirs_are x)))

      base_of : (i : ℕ) → i < s.made → Seen-low (record_at s i) ≡ true → Base v (sound_of s) d f i
      base_of i l h x =
          let e : get_or (record_at s i).counts x 0 ≡ get_or low x 0 = ap (λ (r : List ℕ). get_or r x 0) (same_text (record_at s i).counts low (sym h)) in
          omega (arith, e, low_is x, ours_are x, theirs_are x, count_at s i x l)

      of_base : (i : ℕ) → i < s.made → Base v (sound_of s) d f i → Seen-low (record_at s i) ≡ true
      of_base i l h = (bytes_decides (record_at s i).counts low).1
          (ext_get_or 0 (record_at s i).counts low (record_long s i l ∙ sym sixteen) (λ x _. omega (arith, h x, low_is x, ours_are x, theirs_are x, count_at s i x l)))

      abbrev shared : Seen
      shared = common (seen_by v d) (seen_by v f)

      abbrev met : Result Meeting StoreFault
      met = Ok (Apart (lowest v.events shared v.versions) (get_or v.heads d 0) (get_or v.heads f 0))

      pub merging_baseless : position Seen-low (take s.made s.versions.now) ≡ None → Err (NoBase d) ≡ merging s.usable v d f
      merging_baseless none =
          sym (merging_met ∙ cond-false (inside v.events (seen_by v f) (seen_by v d)) _ _ apart
          ∙ asked_no (stored v.events shared v.versions) (NoBase d) (spare s.usable v d met)
          (stored_no v (sound_of s) d f (λ i l b.
          let m : i < s.made = omega (arith, made_of s) in
          no_position Seen-low (take s.made s.versions.now) none i (record { counts = [] }) (omega (arith, m, made_long s))
          (ap Seen-low (get_or-take s.made s.versions.now i (record { counts = [] }) m) ∙ of_base i m b))))

      module _ (i : ℕ) (found : position Seen-low (take s.made s.versions.now) ≡ Some i) where
        first-one : (i < length (take s.made s.versions.now)) × (Seen-low (get_or (take s.made s.versions.now) i (record { counts = [] })) ≡ true)
            × ((k : ℕ) → k < i → Seen-low (get_or (take s.made s.versions.now) k (record { counts = [] })) ≡ false)
        first-one = position-Some Seen-low (take s.made s.versions.now) i (record { counts = [] }) found

        il : i < s.made
        il = omega (arith, first-one.0, made_long s)

        here : Base v (sound_of s) d f i
        here = base_of i il (ap Seen-low (sym (get_or-take s.made s.versions.now i (record { counts = [] }) il)) ∙ first-one.1)

        not-before : (j : ℕ) → j < i → Base v (sound_of s) d f j → ⊥
        not-before j k b =
            let m : j < s.made = omega (arith, il) in
            both_ways (Seen-low (record_at s j)) (ap Seen-low (sym (get_or-take s.made s.versions.now j (record { counts = [] }) m)) ∙ first-one.2 j k) (of_base j m b)

        based : merging s.usable v d f ≡ spare s.usable v d met
        based =
            merging_met ∙ cond-false (inside v.events (seen_by v f) (seen_by v d)) _ _ apart
            ∙ asked_yes (stored v.events shared v.versions) (NoBase d) (spare s.usable v d met)
            (stored_yes v (sound_of s) d f i (omega (arith, made_of s, il)) here)

        pub merging_full : s.usable ≤ s.made → Err (VersionsFull d) ≡ merging s.usable v d f
        merging_full l = sym (based ∙ no_room s met d l)

        pub merging_from : s.made < s.usable → Ok (Apart i first second) ≡ merging s.usable v d f
        merging_from l =
            ap (λ (z : ℕ). Ok (Apart z first second)) (sym (lowest_is v (sound_of s) d f i (omega (arith, made_of s, il)) here not-before))
            ∙ ap₂ (λ (y z : ℕ). Ok (Apart (lowest v.events shared v.versions) y z)) first_is (source.1 ∙ head_at s f source.0)
            ∙ sym (based ∙ has_room s met d l)
