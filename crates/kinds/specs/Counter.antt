-- The counter: the sum of what was added.
use Rattle.std.specs.Prelude.{◌≡◌, Bool, true, ◌&&◌, List, [], ◌∷◌, ℤ, pos, negsuc, ◌+ℤ◌, neg_ℤ, ◌==◌, int_le}
use Rattle.kinds.specs.Events.{Event}
use Rattle.kinds.specs.History.{History}
use Rattle.kinds.specs.Meaning.{Meaning, Known}

-- the sum of the arguments of all events
abbrev pub sum : List Event → ℤ
sum [] = pos 0
sum (e ∷ es) = e.change.argument +ℤ sum es

-- the integer is between two others, or one of them (negsuc n is -(n + 1))
abbrev pub between : ℤ → ℤ → ℤ → Bool
between low high z = int_le low z && int_le z high

-- The counter knows place 0 only. Verb 1 adds -1,000,000 to 1,000,000 and replies the sum with it; question 1, argument 0, asks for
-- the sum. Every history fits.
abbrev pub counter : Meaning
counter = record {
  knows = λ c. (c.place == 0) && c.verb == 1 && between (negsuc 999999) (pos 1000000) c.argument;
  hears = λ q. (q.place == 0) && q.verb == 1 && between (pos 0) (pos 0) q.argument;
  fits = λ h. true;
  misfit = λ h. 0;
  reply = λ h c. sum h +ℤ c.argument;
  answer = λ h q. sum h;
}

-- No sum of a history is above `most`, or below its negative.
abbrev pub SumsWithin : ℤ → Type 0
SumsWithin most = (h : List Event) → History h → Known counter h → between (neg_ℤ most) most (sum h) ≡ true
