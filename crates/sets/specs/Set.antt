-- The set: which objects are marked. A mark stands until a clear that saw it.
use Rattle.std.specs.Prelude.{ℕ, Bool, true, false, not, ◌&&◌, ◌||◌, List, length, ℤ, pos, filter, ◌==◌, nat_le, nat_lt}
use Rattle.std.specs.List.{list_any}
use Rattle.kinds.specs.Counter.{between}
use Rattle.kinds.specs.Events.{Event}
use Rattle.kinds.specs.Meaning.{Meaning}
use Rattle.rows.specs.Lists.{natural}

-- the object that an event speaks of
abbrev pub object : Event → ℕ
object e = natural e.change.argument

-- the event marks an object: verb 1
abbrev pub is_mark : Event → Bool
is_mark e = e.change.verb == 1

-- the event marks this object
abbrev pub marks : ℕ → Event → Bool
marks o e = is_mark e && object e == o

-- the event clears this object: verb 2
abbrev pub clears : ℕ → Event → Bool
clears o e = e.change.verb == 2 && object e == o

-- some clear of its object, in the history, saw the mark
abbrev pub cleared : List Event → Event → Bool
cleared h e = list_any (λ f. clears (object e) f && f.saw e.number) h

-- the event is a live mark
abbrev pub live : List Event → Event → Bool
live h e = is_mark e && not (cleared h e)

-- an object is a member if it has a live mark
abbrev pub member : List Event → ℕ → Bool
member h o = list_any (λ e. live h e && object e == o) h

-- the event's branch has no later mark of its object
abbrev pub latest : List Event → Event → Bool
latest h e = not (list_any (λ f. marks (object e) f && (f.branch == e.branch && nat_lt e.number f.number)) h)

-- The rows of a history: for an object and a branch, its latest mark of the object, where that is live.
abbrev pub is_row : List Event → Event → Bool
is_row h e = live h e && latest h e

abbrev pub rows : List Event → List Event
rows h = filter (is_row h) h

-- an argument that is an object: 0 to 65,535
abbrev pub is_object : ℤ → Bool
is_object z = between (pos 0) (pos 65535) z

-- yes and no as replies and answers
abbrev pub bit : Bool → ℤ
bit true = pos 1
bit false = pos 0

-- The set knows place 0 only. Verb 1 marks an object and verb 2 clears it; each replies 1 if the object was a member before, else 0.
-- Question 1 answers 1 for a member, else 0. A history fits if it has at most 96 rows.
abbrev pub object_set : Meaning
object_set = record {
  knows = λ c. (c.place == 0) && ((c.verb == 1 || c.verb == 2) && is_object c.argument);
  hears = λ q. (q.place == 0) && (q.verb == 1 && is_object q.argument);
  fits = λ h. nat_le (length (rows h)) 96;
  misfit = λ h. 0;
  reply = λ h c. bit (member h (natural c.argument));
  answer = λ h q. bit (member h (natural q.argument));
}
