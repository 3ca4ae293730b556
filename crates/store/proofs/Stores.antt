-- What the calls of a store owe, from what their parts give.
use Rattle.std.proofs.Common.{◌≡◌, ℕ, ◌<◌, ◌≤◌, true, ltb, List, [], ◌∷◌, ◌++◌, length, get_or, set, ℤ, Ok, Err, Result, sym, refl, ap, ◌∙◌, subst, ap₂, append-nil, arith, length-set}
use Rattle.std.specs.Result.{IsErrAnd}
use Rattle.std.proofs.lemmas.Result.{err_from_is_err_and}
use Rattle.std.proofs.Math.Logic.{∥∥₁_elim, ∥∥₁_map}
use base.Stored.{Coded-set}
use denote.Enum.Declared.{row}
use Rattle.std.specs.contracts.result.Result.{the_type}
use Rattle.calls.specs.contracts.calls.Reply as reply
use Rattle.calls.specs.contracts.fault.StoreFault as fault
use Rattle.std.proofs.lemmas.Bool.{and_from, lt-ltb, cond-true, cond-false}
use Rattle.kinds.specs.Events.{Event}
use Rattle.kinds.specs.Meaning.{Meaning}
use Rattle.kinds.specs.Duties.{Changes, Merges, Answers}
use Rattle.kinds.specs.declared.calls.Change as kind
use Rattle.kinds.specs.declared.calls.Question.{Question}
use Rattle.kinds.specs.declared.calls.Stamp.{Stamp}
use Rattle.kinds.specs.declared.fault.KindFault.{KindFault}
use Rattle.calls.specs.declared.calls.Action.{Action}
use Rattle.calls.specs.declared.calls.Action.TheVariants.{Fork, Change, Merge}
use Rattle.calls.specs.declared.calls.Call.{Call}
use Rattle.calls.specs.declared.calls.Call.TheVariants.{Act, Ask}
use Rattle.calls.specs.declared.calls.Meeting.TheVariants.{Seen as Met, Apart}
use Rattle.calls.specs.declared.calls.Reply.{Reply}
use Rattle.calls.specs.declared.calls.Reply.TheVariants.{Branch, Version, Changed, Answer}
use Rattle.calls.specs.declared.fault.StoreFault.{StoreFault}
use Rattle.calls.specs.declared.fault.StoreFault.TheVariants.{OfKind}
use Rattle.kinds.specs.declared.kind.Kind.{Ghosts}
use Rattle.store.specs.declared.store.Store.{Store}
use Rattle.calls.specs.World.{opened, seen_by, inside, lowest}
use Rattle.calls.specs.Outcome.{Outcome, outcome, forking, asking, changing, merging}
use Rattle.calls.specs.Run.{follow, advances, step_of, possible}
use Rattle.store.specs.Book.{Book, actions, appended, forked}
use Rattle.store.specs.Held.{Memory, Held}
use Rattle.store.specs.Attempt.{past, Reads, next_stamp, ForkTried, ChangeTried, MergeTried, AskTried, Tried, Attempted, replied, Settled}
use Rattle.store.specs.Views.{memory}
use Rattle.calls.proofs.Worlds.{both}
use Rattle.calls.proofs.Questions.{lowest_same}
use Rattle.calls.proofs.Inversions.{forking_ok, asking_ok, changing_ok, Parted, merging_apart, merging_met}
use Rattle.store.proofs.Keeps.{tried_kept}
use Rattle.store.proofs.Books.{advances_append, sound_of, made_of, branches_of, head_at, head_below}
use Rattle.store.proofs.Writes.{change_there, change_room, forked_steps, appended_steps}

clash : {r : Reply} {f : StoreFault} {o : Outcome} → o ≡ Ok r → o ≡ Err f → ⊥
clash p q = let z : ◌≡◌ {A = ℕ} 0 1 = cc in omega arith

-- what a `?` hands on
err_is : {T : Type 0} (r : Result T StoreFault) (f : StoreFault) → IsErrAnd r (λ z. z ≡ f) → r ≡ Err f
err_is r f h = let p = err_from_is_err_and r h in p.1 ∙ ap Err p.2

-- a refused call alters nothing
module _ {A : Type 0} (m : Meaning) (R : A → List Event → Type 0) (k k' : Memory A) (o : Outcome) (f : StoreFault) (e : o ≡ Err f) where
  fork_unaltered : (v : ℕ) → ForkTried k v o k' → k' ≡ k
  fork_unaltered v (ForkTried.refused g q p u) = u
  fork_unaltered v (ForkTried.made b q p u) = absurd (clash p e)

  change_unaltered : (b : ℕ) (c : kind.Change) → ChangeTried m R k b c o k' → k' ≡ k
  change_unaltered b c (ChangeTried.refused g q p u) = u
  change_unaltered b c (ChangeTried.unkind head v x g q r t p u) = u
  change_unaltered b c (ChangeTried.made head v x a q r t p u) = absurd (clash p e)

  merge_unaltered : (d s : ℕ) → MergeTried m R k d s o k' → k' ≡ k
  merge_unaltered d s (MergeTried.refused g q p u) = u
  merge_unaltered d s (MergeTried.idle head q p u) = u
  merge_unaltered d s (MergeTried.unkind base first second x y z g q r r' r'' t p u) = u
  merge_unaltered d s (MergeTried.made base first second x y z new q r r' r'' t p u) = absurd (clash p e)

  ask_unaltered : (b : ℕ) (q : Question) → AskTried m R k b q o k' → k' ≡ k
  ask_unaltered b q (AskTried.refused g h p u) = u
  ask_unaltered b q (AskTried.said head v r h t a p u) = u

  unaltered_by : (c : Call) → Tried m R k c o k' → k' ≡ k
  unaltered_by (Act (Fork v)) t = fork_unaltered v t
  unaltered_by (Act (Change b c)) t = change_unaltered b c t
  unaltered_by (Act (Merge d s)) t = merge_unaltered d s t
  unaltered_by (Ask b q) t = ask_unaltered b q t

module _ {A : Type 0} {κ : Ghosts A} (s : Store A κ) where
  abbrev m : Meaning
  m = κ.meaning

  abbrev R : A → List Event → Type 0
  R = κ.represents

  abbrev k : Memory A
  k = memory s

  abbrev Steps : Call → Outcome → Memory A → Type 0
  Steps c o k' = actions k'.book.steps k'.book.taken ≡ actions k.book.steps k.book.taken ++ step_of (past k) c o

  -- what was tried, and the steps then, are all that a call has to show
  attempted : (c : Call) (o : Outcome) (k' : Memory A) → Tried m R k c o k' → k'.book.usable ≡ k.book.usable → Steps c o k' → Attempted m R k c o k'
  attempted c o k' t u st =
      let seen : past k' ≡ follow (past k) c o =
      ap₂ (λ (V : ℕ) (l : List Action). advances (opened V) l) u st
      ∙ advances_append (opened s.ledger.usable) (actions k.book.steps k.book.taken) (step_of (past k) c o) in
      record {
        tried = t;
        steps = st;
        followed = seen;
        unaltered = λ g e. unaltered_by m R k k' o g e c t;
        kept = tried_kept m R k k' c o (sound_of s.ledger) s.ledger.small (sym (made_of s.ledger)) (λ l. omega (arith, s.valued, made_of s.ledger)) seen t;
      }

  -- the memory with another book, and with a value more
  abbrev with-book : Book → Memory A
  with-book b = record { book = b; values = s.values.now }

  abbrev with-value : A → Book → Memory A
  with-value x b = record { book = b; values = set s.values.now s.ledger.made x }

  pub still_valued : (a : Action) (i : ℕ) (x : A) (b' : Book) → b' ≡ appended k.book a i → b'.usable ≤ length (set s.values.now s.ledger.made x)
  still_valued a i x b' e = omega (arith, s.valued, ap (λ (z : Book). z.usable) e, length-set s.values.now s.ledger.made x)

  -- a call after which all is as it was
  same_steps : actions k.book.steps k.book.taken ≡ actions k.book.steps k.book.taken ++ []
  same_steps = sym (append-nil (actions k.book.steps k.book.taken))

  -- ---- forks
  pub fork_attempted : (v : ℕ) (r : Result ℕ StoreFault) (b' : Book) → r ≡ forking (past k) v → Settled r (b' ≡ forked k.book v) (b' ≡ k.book) →
      Attempted m R k (Act (Fork v)) (replied Branch r) (record { book = b'; values = s.values.now })
  fork_attempted v (Err f) b' q e =
      attempted (Act (Fork v)) (Err f) (with-book b') (ForkTried.refused f (sym q) refl (ap with-book e)) (ap (λ (z : Book). z.usable) e)
      (ap (λ (z : Book). actions z.steps z.taken) e ∙ same_steps)
  fork_attempted v (Ok b) b' q e =
      let p = forking_ok (past k) v b (sym q) in
      attempted (Act (Fork v)) (Ok (Branch b)) (with-book b') (ForkTried.made b (sym q) refl (ap with-book e)) (ap (λ (z : Book). z.usable) e)
      (ap (λ (z : Book). actions z.steps z.taken) e ∙ forked_steps s.ledger v (omega (arith, made_of s.ledger, p.0)) (omega (arith, branches_of s.ledger, p.1)))

  pub fork_valued : (v : ℕ) (r : Result ℕ StoreFault) (b' : Book) → Settled r (b' ≡ forked k.book v) (b' ≡ k.book) → b'.usable ≤ length s.values.now
  fork_valued v (Err f) b' e = omega (arith, s.valued, ap (λ (z : Book). z.usable) e)
  fork_valued v (Ok b) b' e = omega (arith, s.valued, ap (λ (z : Book). z.usable) e)

  -- ---- questions
  module _ (b : ℕ) (q : Question) where
    pub ask_refused : (f : StoreFault) (r : Result ℤ StoreFault) → IsErrAnd r (λ z. z ≡ f) → Err f ≡ asking (past k) b → Attempted m R k (Ask b q) (replied Answer r) k
    ask_refused f r e h =
        subst (λ (r : Result ℤ StoreFault). Attempted m R k (Ask b q) (replied Answer r) k) (sym (err_is r f e)) (attempted (Ask b q) (Err f) k (AskTried.refused f (sym h) refl refl) refl same_steps)

    module _ (head : ℕ) (at : Ok head ≡ asking (past k) b) where
      pub asking_below : head < s.ledger.made
      asking_below = let p = asking_ok (past k) b head (sym at) in omega (arith, p.1, made_of s.ledger, (sound_of s.ledger).headed b p.0)

      module _ (v : A) (read : Reads k head v) where
        pub ask_unkind : (f : KindFault) (r : Result ℤ StoreFault) → IsErrAnd r (λ z. z ≡ OfKind f) → Answers m R v q (Err f) → Attempted m R k (Ask b q) (replied Answer r) k
        ask_unkind f r e duty =
            subst (λ (r : Result ℤ StoreFault). Attempted m R k (Ask b q) (replied Answer r) k) (sym (err_is r (OfKind f) e))
            (attempted (Ask b q) (Err (OfKind f)) k (AskTried.said head v (Err f) (sym at) read duty refl refl) refl same_steps)

        pub ask_answered : (a : ℤ) → Answers m R v q (Ok a) → Attempted m R k (Ask b q) (Ok (Answer a)) k
        ask_answered a duty = attempted (Ask b q) (Ok (Answer a)) k (AskTried.said head v (Ok a) (sym at) read duty refl refl) refl same_steps

  -- ---- changes
  module _ (b : ℕ) (c : kind.Change) where
    abbrev change-reply : Result (ℕ × ℤ) StoreFault → Outcome
    change-reply = replied (λ (p : ℕ × ℤ). Changed p.0 p.1)

    pub change_refused : (f : StoreFault) (r : Result (ℕ × ℤ) StoreFault) → IsErrAnd r (λ z. z ≡ f) → Err f ≡ changing s.ledger.usable (past k) b →
        Attempted m R k (Act (Change b c)) (change-reply r) k
    change_refused f r e h =
        subst (λ (r : Result (ℕ × ℤ) StoreFault). Attempted m R k (Act (Change b c)) (change-reply r) k) (sym (err_is r f e))
        (attempted (Act (Change b c)) (Err f) k (ChangeTried.refused f (sym h) refl refl) refl same_steps)

    module _ (head : ℕ) (at : Ok head ≡ changing s.ledger.usable (past k) b) where
      abbrev inverted : (b < length (past k).heads) × ((length (past k).versions < s.ledger.usable) × (head ≡ get_or (past k).heads b 0))
      inverted = changing_ok s.ledger.usable (past k) b head (sym at)

      pub changing_below : head < s.ledger.made
      changing_below = omega (arith, inverted.1.1, made_of s.ledger, (sound_of s.ledger).headed b inverted.0)

      pub changing_possible : possible s.ledger.usable (past k) (Change b c) ≡ true
      changing_possible =
          and_from (ltb b (length (past k).heads)) (ltb (length (past k).versions) s.ledger.usable)
          (lt-ltb b (length (past k).heads) inverted.0) (lt-ltb (length (past k).versions) s.ledger.usable inverted.1.0)

      module _ (v x : A) (read : Reads k head v) (stamp : Stamp) (stamped : stamp ≡ next_stamp (past k) b) where
        pub change_unkind : (f : KindFault) (r : Result (ℕ × ℤ) StoreFault) → IsErrAnd r (λ z. z ≡ OfKind f) → Changes m R v stamp c (Err f) x →
            Attempted m R k (Act (Change b c)) (change-reply r) k
        change_unkind f r e duty =
            subst (λ (r : Result (ℕ × ℤ) StoreFault). Attempted m R k (Act (Change b c)) (change-reply r) k) (sym (err_is r (OfKind f) e))
            (attempted (Act (Change b c)) (Err (OfKind f)) k
            (ChangeTried.unkind head v x f (sym at) read (subst (λ (z : Stamp). Changes m R v z c (Err f) x) stamped duty) refl refl) refl same_steps)

        pub change_made : (n : ℕ) (a : ℤ) (b' : Book) → n ≡ s.ledger.made → Changes m R v stamp c (Ok a) x → b' ≡ appended k.book (Change b c) b →
            Attempted m R k (Act (Change b c)) (Ok (Changed n a)) (record { book = b'; values = set s.values.now s.ledger.made x })
        change_made n a b' q duty e =
            attempted (Act (Change b c)) (Ok (Changed n a)) (with-value x b')
            (ChangeTried.made head v x a (sym at) read (subst (λ (z : Stamp). Changes m R v z c (Ok a) x) stamped duty) (ap (λ i. Ok (Changed i a)) q) (ap (with-value x) e))
            (ap (λ (z : Book). z.usable) e)
            (ap (λ (z : Book). actions z.steps z.taken) e
            ∙ appended_steps s.ledger (Change b c) b (change_there s.ledger b c changing_possible) (change_room s.ledger b c changing_possible))

  -- ---- merges
  module _ (d f : ℕ) where
    pub merge_refused : (g : StoreFault) (r : Result ℕ StoreFault) → IsErrAnd r (λ z. z ≡ g) → Err g ≡ merging s.ledger.usable (past k) d f →
        Attempted m R k (Act (Merge d f)) (replied Version r) k
    merge_refused g r e h =
        subst (λ (r : Result ℕ StoreFault). Attempted m R k (Act (Merge d f)) (replied Version r) k) (sym (err_is r g e))
        (attempted (Act (Merge d f)) (Err g) k (MergeTried.refused g (sym h) refl refl) refl same_steps)

    module _ (head : ℕ) (at : Ok (Met head) ≡ merging s.ledger.usable (past k) d f) where
      met : (inside (past k).events (seen_by (past k) f) (seen_by (past k) d) ≡ true) × ((d < length (past k).heads) × (head ≡ get_or (past k).heads d 0))
      met = merging_met s.ledger.usable (past k) d f head (sym at)

      pub merging_head_below : head < s.ledger.made
      merging_head_below = omega (arith, met.1.1, made_of s.ledger, (sound_of s.ledger).headed d met.1.0)

      pub merge_idle : Attempted m R k (Act (Merge d f)) (Ok (Version head)) k
      merge_idle =
          attempted (Act (Merge d f)) (Ok (Version head)) k (MergeTried.idle head (sym at) refl refl) refl
          (same_steps ∙ ap (λ (l : List Action). actions k.book.steps k.book.taken ++ l)
          (sym (cond-true (inside (past k).events (seen_by (past k) f) (seen_by (past k) d)) [] (Merge d f ∷ []) met.0)))

    module _ (base first second : ℕ) (at : Ok (Apart base first second) ≡ merging s.ledger.usable (past k) d f) where
      parted : Parted s.ledger.usable (past k) d f (Apart base first second)
      parted = (merging_apart s.ledger.usable (past k) d f base first second (sym at)).1

      pub merging_possible : possible s.ledger.usable (past k) (Merge d f) ≡ true
      merging_possible =
          and_from (ltb d (length (past k).heads)) _ (lt-ltb d (length (past k).heads) parted.into)
          (and_from (ltb f (length (past k).heads)) (ltb (length (past k).versions) s.ledger.usable)
          (lt-ltb f (length (past k).heads) parted.source) (lt-ltb (length (past k).versions) s.ledger.usable parted.room))

      merging_there : d < s.ledger.branches
      merging_there = omega (arith, branches_of s.ledger, parted.into)

      merging_source : f < s.ledger.branches
      merging_source = omega (arith, branches_of s.ledger, parted.source)

      named : (base ≡ lowest (past k).events (both (past k) d f) (past k).versions) × ((first ≡ get_or (past k).heads d 0) × (second ≡ get_or (past k).heads f 0))
      named = let e = parted.named in (cc, (cc, cc))

      pub merging_base_below : base < s.ledger.made
      merging_base_below =
          omega (
            arith,
            named.0,
            made_of s.ledger,
            (lowest_same (past k).events (both (past k) d f) (past k).versions parted.based).0,
          )

      pub merging_first_below : first < s.ledger.made
      merging_first_below = omega (arith, named.1.0, head_at s.ledger d merging_there, head_below s.ledger d merging_there)

      pub merging_second_below : second < s.ledger.made
      merging_second_below = omega (arith, named.1.1, head_at s.ledger f merging_source, head_below s.ledger f merging_source)

      merging_room : s.ledger.made < s.ledger.usable
      merging_room = omega (arith, made_of s.ledger, parted.room)

      module _ (x y z : A) (rx : Reads k base x) (ry : Reads k first y) (rz : Reads k second z) where
        pub merge_unkind : (g : KindFault) (r : Result ℕ StoreFault) → IsErrAnd r (λ z. z ≡ OfKind g) → Merges m R x y z (Err g) →
            Attempted m R k (Act (Merge d f)) (replied Version r) k
        merge_unkind g r e duty =
            subst (λ (r : Result ℕ StoreFault). Attempted m R k (Act (Merge d f)) (replied Version r) k) (sym (err_is r (OfKind g) e))
            (attempted (Act (Merge d f)) (Err (OfKind g)) k (MergeTried.unkind base first second x y z g (sym at) rx ry rz duty refl refl) refl same_steps)

        pub merge_made : (n : ℕ) (new : A) (b' : Book) → n ≡ s.ledger.made → Merges m R x y z (Ok new) → b' ≡ appended k.book (Merge d f) d →
            Attempted m R k (Act (Merge d f)) (Ok (Version n)) (record { book = b'; values = set s.values.now s.ledger.made new })
        merge_made n new b' q duty e =
            attempted (Act (Merge d f)) (Ok (Version n)) (with-value new b')
            (MergeTried.made base first second x y z new (sym at) rx ry rz duty (ap (λ i. Ok (Version i)) q) (ap (with-value new) e))
            (ap (λ (z : Book). z.usable) e)
            (ap (λ (z : Book). actions z.steps z.taken) e ∙ appended_steps s.ledger (Merge d f) d merging_there merging_room
            ∙ ap (λ (l : List Action). actions k.book.steps k.book.taken ++ l)
            (sym (cond-false (inside (past k).events (seen_by (past k) f) (seen_by (past k) d)) [] (Merge d f ∷ [])
            (merging_apart s.ledger.usable (past k) d f base first second (sym at)).0)))

-- ---- what every store holds
-- The outcomes are a set, so that an equation of two may be taken out of a truncation.
outcomes : (o o' : Outcome) → IsProp (o ≡ o')
outcomes = Coded-set (row (the_type reply.the_row fault.the_row)).coded

module _ {A : Type 0} {κ : Ghosts A} (s : Store A κ) {c : Call} {o : Outcome} {k' : Memory A} (t : Attempted κ.meaning κ.represents (memory s) c o k') where
  -- the outcome is the defined one,
  pub defined : o ≡ outcome κ.meaning s.ledger.usable (past (memory s)) c
  defined = ∥∥₁_elim s.held (outcomes o (outcome κ.meaning s.ledger.usable (past (memory s)) c)) (λ h. (t.kept h).as_defined)

  -- and values again stand for what the versions have seen
  pub still_held : ∥ Held κ.meaning κ.represents k' ∥₁
  still_held = ∥∥₁_map s.held (λ h. (t.kept h).held)
