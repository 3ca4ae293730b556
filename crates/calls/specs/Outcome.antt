-- Which calls a store accepts, and with what reply: its questions, in their order.
use Rattle.std.specs.Prelude.{ℕ, Bool, true, false, cond, List, [], ◌∷◌, ◌++◌, length, Ok, Err, Result, nat_lt, slice_index}
use Rattle.kinds.specs.Events.{Event, Seen, common, joined, pick}
use Rattle.kinds.specs.Meaning.{Meaning}
use Rattle.kinds.specs.declared.calls.Change as kind
use Rattle.kinds.specs.declared.calls.Question.{Question}
use Rattle.kinds.specs.declared.fault.KindFault.TheVariants.{UnknownChange, DoesNotFit, UnknownQuestion}
use Rattle.calls.specs.declared.calls.Action.TheVariants.{Fork, Change, Merge}
use Rattle.calls.specs.declared.calls.Call.{Call}
use Rattle.calls.specs.declared.calls.Call.TheVariants.{Act, Ask}
use Rattle.calls.specs.declared.calls.Meeting.{Meeting}
use Rattle.calls.specs.declared.calls.Meeting.TheVariants.{Seen as Met, Apart}
use Rattle.calls.specs.declared.calls.Reply.{Reply}
use Rattle.calls.specs.declared.calls.Reply.TheVariants.{Branch, Version, Changed, Answer}
use Rattle.calls.specs.declared.fault.StoreFault.{StoreFault}
use Rattle.calls.specs.declared.fault.StoreFault.TheVariants.{NoVersion, NotStored, BranchesFull, NoBranch, NoSource, VersionsFull, NoBase, OfKind}
use Rattle.calls.specs.World.{World, seen_by, history_of, next_event, inside, stored, lowest}

abbrev pub Outcome : Type 0
Outcome = Result Reply StoreFault

-- a question of a call: a no refuses with the fault, a yes goes on
abbrev pub asked : {A : Type 0} → Bool → StoreFault → Result A StoreFault → Result A StoreFault
asked true fault next = next
asked false fault next = Err fault

-- ---- the store's own questions

-- of every call: has the store a version 0?
abbrev pub started : {A : Type 0} → World → Result A StoreFault → Result A StoreFault
started w = asked (nat_lt 0 (length w.versions)) NoVersion

-- of a change and a merge: are there fewer than V versions?
abbrev pub spare : {A : Type 0} → ℕ → World → ℕ → Result A StoreFault → Result A StoreFault
spare V w b = asked (nat_lt (length w.versions) V) (VersionsFull b)

-- A fork: is the version stored, and are there fewer than 16 branches? It gives the new branch.
abbrev pub forking : World → ℕ → Result ℕ StoreFault
forking w v = started w (asked (nat_lt v (length w.versions)) (NotStored v) (asked (nat_lt (length w.heads) 16) BranchesFull (Ok (length w.heads))))

-- A question: is the branch there? It gives the head.
abbrev pub asking : World → ℕ → Result ℕ StoreFault
asking w b = started w (asked (nat_lt b (length w.heads)) (NoBranch b) (Ok (slice_index w.heads b)))

-- A change: is the branch there, and is there a version to spare? It gives the head.
abbrev pub changing : ℕ → World → ℕ → Result ℕ StoreFault
changing V w b = started w (asked (nat_lt b (length w.heads)) (NoBranch b) (spare V w b (Ok (slice_index w.heads b))))

-- A merge of s into d: are both there? Then, unless d has seen all that s has: has some stored version seen just the common events, and
-- is there a version to spare? It gives the head of d, or the lowest such version and the two heads.
abbrev pub merging : ℕ → World → ℕ → ℕ → Result Meeting StoreFault
merging V w d s =
    let both : Seen = common (seen_by w d) (seen_by w s) in
    started w
    (asked (nat_lt d (length w.heads)) (NoBranch d)
    (asked (nat_lt s (length w.heads)) (NoSource s)
    (cond (inside w.events (seen_by w s) (seen_by w d)) (Ok (Met (slice_index w.heads d)))
    (asked (stored w.events both w.versions) (NoBase d)
    (spare V w d
    (Ok (Apart (lowest w.events both w.versions) (slice_index w.heads d) (slice_index w.heads s))))))))

-- ---- the kind's questions, and the outcome

-- a call whose own questions came out so goes on, or is refused
abbrev pub and_then : {A : Type 0} → Result A StoreFault → (A → Outcome) → Outcome
and_then (Ok a) next = next a
and_then (Err f) next = Err f

-- a change on branch b that the kind is asked for: does it know it, and does the longer history fit?
abbrev pub change_verdict : Meaning → World → ℕ → kind.Change → Outcome
change_verdict m w b c =
    let longer : List Event = history_of w b ++ (next_event w b c ∷ []) in
    asked (m.knows c) (OfKind (UnknownChange c.place))
    (asked (m.fits longer) (OfKind (DoesNotFit (m.misfit longer)))
    (Ok (Changed (length w.versions) (m.reply (history_of w b) c))))

-- a merge that the kind is asked for: does what either side has seen fit?
abbrev pub merge_verdict : Meaning → World → ℕ → ℕ → Outcome
merge_verdict m w d s =
    let all : List Event = pick (joined (seen_by w d) (seen_by w s)) w.events in
    asked (m.fits all) (OfKind (DoesNotFit (m.misfit all))) (Ok (Version (length w.versions)))

-- a merge, by how its two branches meet
abbrev pub met_outcome : Meaning → World → ℕ → ℕ → Meeting → Outcome
met_outcome m w d s (Met head) = Ok (Version head)
met_outcome m w d s (Apart base first second) = merge_verdict m w d s

-- a question that the kind is asked: does it know it?
abbrev pub question_verdict : Meaning → World → ℕ → Question → Outcome
question_verdict m w b q = asked (m.hears q) (OfKind (UnknownQuestion q.place)) (Ok (Answer (m.answer (history_of w b) q)))

-- The one defined outcome of a call: a function of the kind's meaning, the usable size, what is seen, and the call.
abbrev pub outcome : Meaning → ℕ → World → Call → Outcome
outcome m V w (Act (Fork v)) = and_then (forking w v) (λ b. Ok (Branch b))
outcome m V w (Act (Change b c)) = and_then (changing V w b) (λ head. change_verdict m w b c)
outcome m V w (Act (Merge d s)) = and_then (merging V w d s) (met_outcome m w d s)
outcome m V w (Ask b q) = and_then (asking w b) (λ head. question_verdict m w b q)
