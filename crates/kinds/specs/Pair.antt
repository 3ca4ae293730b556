-- A pair of two kinds: even places belong to the left part, odd ones to the right.
use Rattle.std.specs.Prelude.{ℕ, ◌+◌, ◌*◌, ◌/◌, ◌%◌, ◌^◌, Bool, true, false, cond, ◌&&◌, List, [], ◌∷◌, ◌==◌}
use Rattle.kinds.specs.Events.{Event, Seen, pick, common}
use Rattle.kinds.specs.Meaning.{Meaning}
use Rattle.kinds.specs.declared.calls.Change.{Change}
use Rattle.kinds.specs.declared.calls.Question.{Question}
use Rattle.kinds.specs.declared.fault.KindFault.{KindFault}
use Rattle.kinds.specs.declared.fault.KindFault.TheVariants.{UnknownChange, DoesNotFit, UnknownQuestion}
use Rattle.kinds.specs.declared.pair.Side.{Side}
use Rattle.kinds.specs.declared.pair.Side.TheVariants.{Left, Right}

-- the side that a place belongs to
abbrev pub side_of : ℕ → Side
side_of p = cond (p % 2 == 0) Left Right

-- of two things, the one on a side
abbrev pub on : {A : Type 0} → Side → A → A → A
on Left l r = l
on Right l r = r

-- whether two sides are the same
abbrev pub same_side : Side → Side → Bool
same_side Left s = on s true false
same_side Right s = on s false true

-- a change as the part gets it: the place is halved
abbrev pub halved : Change → Change
halved c = record { place = c.place / 2; verb = c.verb; argument = c.argument }

-- the same for a question
abbrev pub halved_question : Question → Question
halved_question q = record { place = q.place / 2; verb = q.verb; argument = q.argument }

-- the events of a history that are sent to a side
unfoldable pub sent : Side → List Event → Seen
sent side [] n = false
sent side (e ∷ es) n = cond (e.number == n) (same_side side (side_of e.change.place)) (sent side es n)

-- an event as its part has it: number and branch are kept, and what it saw is cut down to the part
abbrev pub cut : Seen → Event → Event
cut s e = record { number = e.number; branch = e.branch; change = halved e.change; saw = common e.saw s }

-- each event of a list cut down so
unfoldable pub cuts : Seen → List Event → List Event
cuts s [] = []
cuts s (e ∷ es) = cut s e ∷ cuts s es

-- a part's history: the events that are sent to it, each as the part has it
abbrev pub part : Side → List Event → List Event
part side h = cuts (sent side h) (pick (sent side h) h)

-- the pair's place for a place of a part
abbrev pub outer : Side → ℕ → ℕ
outer side p = (2 * p + on side 0 1) % 2 ^ 32

-- a part's fault as the pair's: it names the pair's place
abbrev pub outer_fault : Side → KindFault → KindFault
outer_fault side (UnknownChange p) = UnknownChange (outer side p)
outer_fault side (DoesNotFit p) = DoesNotFit (outer side p)
outer_fault side (UnknownQuestion p) = UnknownQuestion (outer side p)

-- A change or a question goes to the part that its place belongs to. A history fits if both parts' do; if neither does, the left is named.
abbrev pub pair : Meaning → Meaning → Meaning
pair l r = record {
  knows = λ c. (on (side_of c.place) l r).knows (halved c);
  hears = λ q. (on (side_of q.place) l r).hears (halved_question q);
  fits = λ h. l.fits (part Left h) && r.fits (part Right h);
  misfit = λ h. cond (l.fits (part Left h)) (outer Right (r.misfit (part Right h))) (outer Left (l.misfit (part Left h)));
  reply = λ h c. (on (side_of c.place) l r).reply (part (side_of c.place) h) (halved c);
  answer = λ h q. (on (side_of q.place) l r).answer (part (side_of q.place) h) (halved_question q);
}

-- the kind number of a pair, from those of its parts
abbrev pub pair_number : ℕ → ℕ → ℕ
pair_number left right = (7 * left + 13 * right + 5) % 65536
