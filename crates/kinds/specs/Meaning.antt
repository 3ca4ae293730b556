-- What a kind of value means, in histories of events alone: what a reader of a log works out by hand. No value occurs here.
use Rattle.std.specs.Prelude.{◌≡◌, ℕ, Bool, true, List, ℤ}
use Rattle.kinds.specs.Events.{Event, In}
use Rattle.kinds.specs.declared.calls.Change.{Change}
use Rattle.kinds.specs.declared.calls.Question.{Question}

-- A kind's meaning.
pub record Meaning : Type 0 where
  -- which changes and which questions the kind knows, by their three numbers alone
  pub knows : Change → Bool
  pub hears : Question → Bool
  -- which histories fit, and which place is named where one doesn't
  pub fits : List Event → Bool
  pub misfit : List Event → ℕ
  -- the reply to a change that comes after a history
  pub reply : List Event → Change → ℤ
  -- the answer to a question on a history
  pub answer : List Event → Question → ℤ

-- Every event of the history is a change that the kind knows.
abbrev pub Known : Meaning → List Event → Type 0
Known m h = (e : Event) → In e h → m.knows e.change ≡ true
