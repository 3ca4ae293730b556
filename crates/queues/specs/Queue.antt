-- The queue: puts wait in the order of their event numbers, and a take takes the first that waits.
use Rattle.std.specs.Prelude.{ℕ, ◌+◌, Bool, true, cond, not, ◌&&◌, ◌||◌, List, [], ◌∷◌, ◌++◌, length, ℤ, pos, negsuc, filter, ◌==◌, nat_le}
use Rattle.kinds.specs.Events.{Event, Seen}
use Rattle.kinds.specs.Meaning.{Meaning}
use Rattle.kinds.specs.Counter.{between}
use Rattle.kinds.specs.declared.calls.Change.{Change}
use Rattle.kinds.specs.declared.calls.Question.{Question}
use Rattle.std.specs.List.{list_any}

-- verb 1 puts its argument, and verb 2 takes
abbrev pub is_put : Event → Bool
is_put e = e.change.verb == 1

abbrev pub is_take : Event → Bool
is_take e = e.change.verb == 2

-- A take and the put that it took, by their event numbers.
pub record Taking : Type 0 where
  pub by : ℕ
  pub item : ℕ

-- a take among the events s took the put of number n
abbrev pub took : Seen → List Taking → ℕ → Bool
took s ts n = list_any (λ t. s t.by && t.item == n) ts

-- the put e is among the events s, and no take among them took it
abbrev pub waits : Seen → List Taking → Event → Bool
waits s ts e = is_put e && (s e.number && not (took s ts e.number))

-- the puts of h that wait among the events s
abbrev pub waiting_in : Seen → List Taking → List Event → List Event
waiting_in s ts h = filter (waits s ts) h

-- the event e takes the first of the puts that wait, which stand by event number: that with the lowest
abbrev pub first_taking : Event → List Event → List Taking
first_taking e [] = []
first_taking e (p ∷ ps) = record { by = e.number; item = p.number } ∷ []

-- what the event e takes where the events `past` came before it, with the takings ts: a take takes from those that waited among what it saw
abbrev pub taking : Event → List Taking → List Event → List Taking
taking e ts past = cond (is_take e) (first_taking e (waiting_in e.saw ts past)) []

-- the takings ts, and those by the events es, where the events `past` came before them
unfoldable pub takings_from : List Taking → List Event → List Event → List Taking
takings_from ts past [] = ts
takings_from ts past (e ∷ es) = takings_from (ts ++ taking e ts past) (past ++ (e ∷ [])) es

-- what each take of a history took
abbrev pub takings : List Event → List Taking
takings h = takings_from [] [] h

-- the puts of a history that no take there took, by event number
unfoldable pub waiting : List Event → List Event
waiting h = waiting_in (λ n. true) (takings h) h

-- the argument of the first, or -1
abbrev pub first_argument : List Event → ℤ
first_argument [] = negsuc 0
first_argument (e ∷ es) = e.change.argument

-- a change that puts: verb 1 at place 0, with an argument from 0 to 65,535
abbrev pub puts : Change → Bool
puts c = c.place == 0 && (c.verb == 1 && between (pos 0) (pos 65535) c.argument)

-- a change that takes: verb 2 at place 0, with argument 0
abbrev pub takes : Change → Bool
takes c = c.place == 0 && (c.verb == 2 && between (pos 0) (pos 0) c.argument)

-- the question of a verb at place 0, with argument 0
abbrev pub asks : ℕ → Question → Bool
asks verb q = q.place == 0 && (q.verb == verb && between (pos 0) (pos 0) q.argument)

-- The queue knows place 0 only. A put replies the number waiting with it, and a take the argument of what it took, or -1. A history
-- fits if at most 64 puts wait; where one doesn't, place 0 is named. Question 1 asks for the first waiting argument, or -1, and
-- question 2 for the number waiting.
abbrev pub queue : Meaning
queue = record {
  knows = λ c. puts c || takes c;
  hears = λ q. asks 1 q || asks 2 q;
  fits = λ h. nat_le (length (waiting h)) 64;
  misfit = λ h. 0;
  reply = λ h c. cond (puts c) (pos (length (waiting h) + 1)) (first_argument (waiting h));
  answer = λ h q. cond (asks 1 q) (first_argument (waiting h)) (pos (length (waiting h)));
}
