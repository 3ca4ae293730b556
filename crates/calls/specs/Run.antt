-- The law of a whole run: what a freshly opened store says to every list of calls.
use Rattle.std.specs.Prelude.{◌≡◌, ℕ, ◌<◌, Bool, true, cond, ◌&&◌, ◌↔◌, List, [], ◌∷◌, ◌++◌, length, Ok, Err, nat_lt, slice_index_or}
use Rattle.kinds.specs.Events.{Seen, common, nothing}
use Rattle.kinds.specs.Meaning.{Meaning}
use Rattle.kinds.specs.declared.calls.Question.{Question}
use Rattle.calls.specs.declared.calls.Action.{Action}
use Rattle.calls.specs.declared.calls.Action.TheVariants.{Fork, Change, Merge}
use Rattle.calls.specs.declared.calls.Call.{Call}
use Rattle.calls.specs.declared.calls.Call.TheVariants.{Act, Ask}
use Rattle.calls.specs.declared.calls.Reply.TheVariants.{Answer}
use Rattle.calls.specs.declared.fault.StoreFault.TheVariants.{NoBase}
use Rattle.calls.specs.World.{World, advance, opened, seen_by, history_of, inside}
use Rattle.calls.specs.Outcome.{Outcome, outcome}

-- The step that a call adds: an accepted fork or change is one, and an accepted merge unless the destination had seen all that the
-- source has. A refused call and a question are none.
abbrev pub step_of : World → Call → Outcome → List Action
step_of w c (Err f) = []
step_of w (Act (Fork v)) (Ok r) = Fork v ∷ []
step_of w (Act (Change b c)) (Ok r) = Change b c ∷ []
step_of w (Act (Merge d s)) (Ok r) = cond (inside w.events (seen_by w s) (seen_by w d)) [] (Merge d s ∷ [])
step_of w (Ask b q) (Ok r) = []

-- what is seen after accepted calls, in turn
abbrev pub advances : World → List Action → World
advances w [] = w
advances w (a ∷ more) = advances (advance w a) more

-- whether an action can be a step: what it names is there, and there is room for what it makes
abbrev pub possible : ℕ → World → Action → Bool
possible V w (Fork v) = nat_lt v (length w.versions) && nat_lt (length w.heads) 16
possible V w (Change b c) = nat_lt b (length w.heads) && nat_lt (length w.versions) V
possible V w (Merge d s) = nat_lt d (length w.heads) && (nat_lt s (length w.heads) && nat_lt (length w.versions) V)

abbrev pub all_possible : ℕ → World → List Action → Bool
all_possible V w [] = true
all_possible V w (a ∷ more) = possible V w a && all_possible V (advance w a) more

-- What is seen follows from the calls and which of them were accepted.
abbrev pub follow : World → Call → Outcome → World
follow w c o = advances w (step_of w c o)

-- the calls of a run, each with its outcome, the oldest first
abbrev pub Log : Type 0
Log = List (Call × Outcome)

abbrev pub log_of : List Call → List Outcome → Log
log_of [] os = []
log_of (c ∷ cs) [] = []
log_of (c ∷ cs) (o ∷ os) = (c, o) ∷ log_of cs os

-- what is seen after a log
abbrev pub after : World → Log → World
after w [] = w
after w (x ∷ xs) = after (follow w x.0 x.1) xs

-- the steps that a log adds
abbrev pub steps_of : World → Log → List Action
steps_of w [] = []
steps_of w (x ∷ xs) = step_of w x.0 x.1 ++ steps_of (follow w x.0 x.1) xs

-- a call of the log with its outcome, and all that came before it
pub data At : Log → Log → Call → Outcome → Type 0 where
  first : {c : Call} {o : Outcome} {rest : Log} → At ((c, o) ∷ rest) [] c o
  later : {x : Call × Outcome} {rest before : Log} {c : Call} {o : Outcome} → At rest before c o → At (x ∷ rest) (x ∷ before) c o

-- two sets of events are the same
abbrev pub Same : Seen → Seen → Type 0
Same a b = (n : ℕ) → a n ≡ b n

-- The law, for a kind of meaning m and a store of usable size V. In each part `after (opened V) before` is what is seen when the call
-- is made: it is computed from the calls before it and which of them were accepted, never from the store's own records.
pub record Lawful (m : Meaning) (V : ℕ) (run : Log) : Type 0 where
  -- Each call is accepted and answered, or refused, as the store's questions and the kind's definitions say.
  pub as_defined : {before : Log} {c : Call} {o : Outcome} → At run before c o → o ≡ outcome m V (after (opened V) before) c
  -- A question that the kind knows is answered by its definition on exactly the events that the branch has seen.
  pub by_history : {before : Log} {b : ℕ} {q : Question} {o : Outcome} → At run before (Ask b q) o →
      b < length (after (opened V) before).heads → m.hears q ≡ true →
      o ≡ Ok (Answer (m.answer (history_of (after (opened V) before) b) q))
  -- Branches that have seen the same events answer every question alike, each whenever it is asked.
  pub alike : {before before' : Log} {b b' : ℕ} {q : Question} {o o' : Outcome} → At run before (Ask b q) o → At run before' (Ask b' q) o' →
      b < length (after (opened V) before).heads → b' < length (after (opened V) before').heads →
      Same (seen_by (after (opened V) before) b) (seen_by (after (opened V) before') b') → o ≡ o'
  -- A merge of two branches is refused for want of a base exactly when no stored version has seen just the events that both have seen.
  pub no_base : {before : Log} {d s : ℕ} {o : Outcome} → At run before (Act (Merge d s)) o →
      d < length (after (opened V) before).heads → s < length (after (opened V) before).heads →
      (o ≡ Err (NoBase d)) ↔ ((v : ℕ) → v < length (after (opened V) before).versions →
      Same (slice_index_or (after (opened V) before).versions v nothing) (common (seen_by (after (opened V) before) d) (seen_by (after (opened V) before) s)) → ⊥)
