-- What the memory of a store holds: a value for each version, which stands for the events that the version has seen.
use Rattle.std.specs.Prelude.{◌≡◌, ℕ, zero, suc, ◌+◌, ◌<◌, ◌≤◌, List, [], ◌∷◌, replicate, slice_set}
use Rattle.kinds.specs.Events.{Seen, Event, pick}
use Rattle.kinds.specs.Meaning.{Meaning, Known}
use Rattle.calls.specs.declared.calls.Step.{Step}
use Rattle.calls.specs.declared.calls.Version.{Version}
use Rattle.store.specs.Book.{Book, world, blank, resized}

-- all that a store holds, with the three slices whole
pub record Memory (A : Type 0) : Type 0 where
  pub book : Book
  pub values : List A

-- the first values stand for what the versions have seen, each for its own
abbrev pub Valued : {A : Type 0} → (A → List Event → Type 0) → List Event → List Seen → List A → Type 0
Valued R es [] vs = Unit {0}
Valued R es (s ∷ ss) [] = ⊥
Valued R es (s ∷ ss) (v ∷ vs) = R v (pick s es) × Valued R es ss vs

-- The kind knows every event, and each stored version's value stands for what the version has seen. Opening gives this and every call
-- keeps it, so that it is a ghost field of a store: there is no store of which it does not hold.
pub record Held {A : Type 0} (m : Meaning) (R : A → List Event → Type 0) (k : Memory A) : Type 0 where
  pub known : Known m (world k.book).events
  pub values : Valued R (world k.book).events (world k.book).versions k.values

-- ---- opening

-- there is room for n versions in so many version records, values and steps
pub record Room (versions values steps n : ℕ) : Type 0 where
  pub small : n ≤ 4096
  pub records : n ≤ versions
  pub each : n ≤ values
  pub recorded : n + 14 ≤ steps

-- V is the greatest number for which there is room, or 0 if there is none
pub record Greatest (versions values steps V : ℕ) : Type 0 where
  pub room : 0 < V → Room versions values steps V
  pub most : (n : ℕ) → Room versions values steps n → n ≤ V

-- memory that was lent, before anything is written
abbrev pub lent : {A : Type 0} → ℕ → List Version → List A → List Step → Memory A
lent V versions values steps = record {
  book = record { usable = V; versions = versions; made = 0; steps = steps; taken = 0; heads = replicate 16 0; branches = 0; events = 0 };
  values = values;
}

-- the same memory with another usable size
abbrev pub resized_memory : {A : Type 0} → Memory A → ℕ → Memory A
resized_memory k V = record { book = resized k.book V; values = k.values }

-- the first value is written if the usable size is not 0, and no other value
abbrev pub FirstWritten : {A : Type 0} → ℕ → List A → List A → Type 0
FirstWritten zero before after = after ≡ before
FirstWritten {A} (suc V) before after = (x : A) × (after ≡ slice_set before 0 x)

-- Opening writes version 0, its record and its value, and nothing else, and not even that where the usable size is 0.
pub record Opened {A : Type 0} (before after : Memory A) : Type 0 where
  pub book : after.book ≡ blank before.book
  pub values : FirstWritten before.book.usable before.values after.values
