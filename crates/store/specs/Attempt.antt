-- A call that a store has tried: what it asked, what it replied, and what stands in memory after it.
use Rattle.std.specs.Prelude.{◌≡◌, ℕ, ◌+◌, ◌<◌, List, ◌++◌, length, drop, ℤ, Ok, Err, Result, slice_index_or, slice_set}
use Rattle.kinds.specs.Events.{Event}
use Rattle.kinds.specs.Meaning.{Meaning}
use Rattle.kinds.specs.Duties.{Changes, Merges, Answers}
use Rattle.kinds.specs.declared.calls.Change as kind
use Rattle.kinds.specs.declared.calls.Question.{Question}
use Rattle.kinds.specs.declared.calls.Stamp.{Stamp}
use Rattle.kinds.specs.declared.fault.KindFault.{KindFault}
use Rattle.calls.specs.declared.calls.Action.{Action}
use Rattle.calls.specs.declared.calls.Action.TheVariants.{Fork, Change, Merge}
use Rattle.calls.specs.declared.calls.Call.{Call}
use Rattle.calls.specs.declared.calls.Call.TheVariants.{Act, Ask}
use Rattle.calls.specs.declared.calls.Meeting.TheVariants.{Seen as Met, Apart}
use Rattle.calls.specs.declared.calls.Reply.{Reply}
use Rattle.calls.specs.declared.calls.Reply.TheVariants.{Branch, Version, Changed, Answer}
use Rattle.calls.specs.declared.fault.StoreFault.{StoreFault}
use Rattle.calls.specs.declared.fault.StoreFault.TheVariants.{OfKind}
use Rattle.calls.specs.World.{World, opened}
use Rattle.calls.specs.Outcome.{Outcome, forking, asking, changing, merging, outcome}
use Rattle.calls.specs.Run.{Log, follow, after, step_of, steps_of}
use Rattle.store.specs.Book.{Recorded, actions, world, forked, appended}
use Rattle.store.specs.Held.{Memory, Held}

-- what is seen, as the steps in memory tell it
abbrev pub past : {A : Type 0} → Memory A → World
past k = world k.book

-- x is the value of version v
abbrev pub Reads : {A : Type 0} → Memory A → ℕ → A → Type 0
Reads k v x = (v < length k.values) × (x ≡ slice_index_or k.values v x)

-- the stamp of the next change on branch b
abbrev pub next_stamp : World → ℕ → Stamp
next_stamp w b = record { event = length w.events + 1; branch = b }

-- memory after a fork at version v
abbrev pub after_fork : {A : Type 0} → Memory A → ℕ → Memory A
after_fork k v = record { book = forked k.book v; values = k.values }

-- memory after a change or merge on branch b that made the value x
abbrev pub after_action : {A : Type 0} → Memory A → Action → ℕ → A → Memory A
after_action k a b x = record { book = appended k.book a b; values = slice_set k.values k.book.made x }

-- A fork: its own questions settle it.
pub data ForkTried {A : Type 0} (k : Memory A) (v : ℕ) (o : Outcome) (k' : Memory A) : Type 0 where
  refused : (f : StoreFault) → forking (past k) v ≡ Err f → o ≡ Err f → k' ≡ k → ForkTried k v o k'
  made : (b : ℕ) → forking (past k) v ≡ Ok b → o ≡ Ok (Branch b) → k' ≡ after_fork k v → ForkTried k v o k'

-- A change: past the store's own questions the kind changes the head's value, in a copy.
pub data ChangeTried {A : Type 0} (m : Meaning) (R : A → List Event → Type 0) (k : Memory A) (b : ℕ) (c : kind.Change) (o : Outcome) (k' : Memory A) : Type 0 where
  refused : (f : StoreFault) → changing k.book.usable (past k) b ≡ Err f → o ≡ Err f → k' ≡ k → ChangeTried m R k b c o k'
  unkind : (head : ℕ) (v x : A) (f : KindFault) → changing k.book.usable (past k) b ≡ Ok head → Reads k head v →
      Changes m R v (next_stamp (past k) b) c (Err f) x → o ≡ Err (OfKind f) → k' ≡ k → ChangeTried m R k b c o k'
  made : (head : ℕ) (v x : A) (reply : ℤ) → changing k.book.usable (past k) b ≡ Ok head → Reads k head v →
      Changes m R v (next_stamp (past k) b) c (Ok reply) x → o ≡ Ok (Changed k.book.made reply) → k' ≡ after_action k (Change b c) b x →
      ChangeTried m R k b c o k'

-- A merge: past the store's own questions the kind merges the values of the base and of the two heads.
pub data MergeTried {A : Type 0} (m : Meaning) (R : A → List Event → Type 0) (k : Memory A) (d s : ℕ) (o : Outcome) (k' : Memory A) : Type 0 where
  refused : (f : StoreFault) → merging k.book.usable (past k) d s ≡ Err f → o ≡ Err f → k' ≡ k → MergeTried m R k d s o k'
  idle : (head : ℕ) → merging k.book.usable (past k) d s ≡ Ok (Met head) → o ≡ Ok (Version head) → k' ≡ k → MergeTried m R k d s o k'
  unkind : (base first second : ℕ) (x y z : A) (f : KindFault) → merging k.book.usable (past k) d s ≡ Ok (Apart base first second) →
      Reads k base x → Reads k first y → Reads k second z → Merges m R x y z (Err f) → o ≡ Err (OfKind f) → k' ≡ k → MergeTried m R k d s o k'
  made : (base first second : ℕ) (x y z new : A) → merging k.book.usable (past k) d s ≡ Ok (Apart base first second) →
      Reads k base x → Reads k first y → Reads k second z → Merges m R x y z (Ok new) → o ≡ Ok (Version k.book.made) →
      k' ≡ after_action k (Merge d s) d new → MergeTried m R k d s o k'

-- what the kind answered, as the store does
abbrev pub answered : Result ℤ KindFault → Outcome
answered (Ok a) = Ok (Answer a)
answered (Err f) = Err (OfKind f)

-- A question: past the store's own questions the kind answers it on the head's value.
pub data AskTried {A : Type 0} (m : Meaning) (R : A → List Event → Type 0) (k : Memory A) (b : ℕ) (q : Question) (o : Outcome) (k' : Memory A) : Type 0 where
  refused : (f : StoreFault) → asking (past k) b ≡ Err f → o ≡ Err f → k' ≡ k → AskTried m R k b q o k'
  said : (head : ℕ) (v : A) (r : Result ℤ KindFault) → asking (past k) b ≡ Ok head → Reads k head v →
      Answers m R v q r → o ≡ answered r → k' ≡ k → AskTried m R k b q o k'

-- What a call on a store with memory k gives, whatever values lie there: its outcome o, and memory k' afterwards.
abbrev pub Tried : {A : Type 0} → Meaning → (A → List Event → Type 0) → Memory A → Call → Outcome → Memory A → Type 0
Tried m R k (Act (Fork v)) o k' = ForkTried k v o k'
Tried m R k (Act (Change b c)) o k' = ChangeTried m R k b c o k'
Tried m R k (Act (Merge d s)) o k' = MergeTried m R k d s o k'
Tried m R k (Ask b q) o k' = AskTried m R k b q o k'

-- What it gives where each version's value stands for what the version has seen: the defined outcome, and again such values.
pub record Kept {A : Type 0} (m : Meaning) (R : A → List Event → Type 0) (k : Memory A) (c : Call) (o : Outcome) (k' : Memory A) : Type 0 where
  pub as_defined : o ≡ outcome m k.book.usable (past k) c
  pub held : Held m R k'

-- a result of a call of its own as the outcome of a call
abbrev pub replied : {A : Type 0} → (A → Reply) → Result A StoreFault → Outcome
replied reply (Ok a) = Ok (reply a)
replied reply (Err f) = Err f

-- What every call owes, on a store with memory k: its outcome o, and memory k' afterwards.
pub record Attempted {A : Type 0} (m : Meaning) (R : A → List Event → Type 0) (k : Memory A) (c : Call) (o : Outcome) (k' : Memory A) : Type 0 where
  -- what was asked, in its order, and exactly what was written: whatever values lie in memory
  pub tried : Tried m R k c o k'
  -- the steps are those before, and one more where the call made a branch or a version
  pub steps : actions k'.book.steps k'.book.taken ≡ actions k.book.steps k.book.taken ++ step_of (past k) c o
  -- what is seen afterwards, as the steps tell it
  pub followed : past k' ≡ follow (past k) c o
  -- a refusal alters nothing
  pub unaltered : (f : StoreFault) → o ≡ Err f → k' ≡ k
  -- the defined outcome, where values stand for what versions have seen, and again such values
  pub kept : Held m R k → Kept m R k c o k'

-- memory past what is stored and taken is as it was
pub record Beyond {A : Type 0} (k k' : Memory A) : Type 0 where
  pub versions : drop k'.book.made k'.book.versions ≡ drop k'.book.made k.book.versions
  pub values : drop k'.book.made k'.values ≡ drop k'.book.made k.values
  pub steps : drop k'.book.taken k'.book.steps ≡ drop k'.book.taken k.book.steps

-- A store with memory k after a run, of which this is the log.
pub record Ran {A : Type 0} (m : Meaning) (R : A → List Event → Type 0) (k : Memory A) (run : Log) (k' : Memory A) : Type 0 where
  pub usable : k'.book.usable ≡ k.book.usable
  -- the steps are the accepted calls that made a branch or a version,
  pub steps : actions k'.book.steps k'.book.taken ≡ steps_of (opened k.book.usable) run
  -- and they tell what the log tells,
  pub followed : past k' ≡ after (opened k.book.usable) run
  -- as the version records, the heads and the number of events do;
  pub recorded : Recorded k'.book
  -- each version's value stands for what the version has seen,
  pub held : Held m R k'
  -- and all else is as it was
  pub beyond : Beyond k k'

-- what holds of an accepted call, and what of a refused one
abbrev pub Settled : {A : Type 0} → Result A StoreFault → Type 0 → Type 0 → Type 0
Settled (Ok a) P Q = P
Settled (Err f) P Q = Q
