-- On a branch by itself a worklist is a plain one: what an operation that comes next makes of its state.
use Rattle.std.specs.Prelude.{◌≡◌, ℕ, ◌/◌, true, false, not, ◌&&◌, ◌||◌, List, [], ◌∷◌, ◌++◌, map, ℤ, ◌+ℤ◌, ◌==◌}
use Rattle.std.proofs.Common.{sym, ap, ◌∙◌}
use Rattle.std.proofs.Math.Path.{fun_ext}
use Rattle.std.proofs.lemmas.List.{map-append, drop-map}
use Rattle.kinds.specs.Counter.{sum}
use Rattle.kinds.specs.Events.{Event}
use Rattle.kinds.specs.History.{History, Next}
use Rattle.kinds.specs.Pair.{part, same_side, side_of}
use Rattle.kinds.specs.declared.calls.Change.{Change}
use Rattle.kinds.proofs.Parts.{history_part, last_cut, next_part, part_mine, part_other}
use Rattle.kinds.proofs.Sums.{sum_more}
use Rattle.queues.specs.Queue.{waiting}
use Rattle.queues.proofs.Nexts.{put_waiting, take_waiting}
use Rattle.rows.specs.Lists.{natural}
use Rattle.sets.specs.Set.{member}
use Rattle.worklists.specs.Operations.{InTurn, change_of, made_of, of_parts, sent_to, state_of}
use Rattle.worklists.specs.declared.operation.Operation.{Operation}
use Rattle.worklists.specs.declared.operation.Operation.TheVariants.{Mark, Clear, Rebuild, Put, Take, Skip}
use Rattle.worklists.proofs.Members.{member_mark, member_clear}

abbrev argument : Event → ℤ
argument e = e.change.argument

abbrev arguments : List Event → List ℤ
arguments es = map argument es

module _ (h : List Event) (e : Event) (H : History h) (N : Next h e) where
  -- ---- what is sent to a place, with one event more
  -- the place's part of a part gets the event
  abbrev got : ℕ → Event
  got q = last_cut (side_of (q / 2)) (part (side_of q) h) (last_cut (side_of q) h e)

  abbrev next_at : (q : ℕ) → Next (sent_to q h) (got q)
  next_at q = next_part (side_of (q / 2)) (part (side_of q) h) (last_cut (side_of q) h e) (history_part (side_of q) h H) (next_part (side_of q) h e H N)

  abbrev history_at : (q : ℕ) → History (sent_to q h)
  history_at q = history_part (side_of (q / 2)) (part (side_of q) h) (history_part (side_of q) h H)

  mine : (q : ℕ) → same_side (side_of q) (side_of e.change.place) ≡ true → same_side (side_of (q / 2)) (side_of (e.change.place / 2)) ≡ true →
      sent_to q (h ++ (e ∷ [])) ≡ sent_to q h ++ (got q ∷ [])
  mine q y z =
      ap (part (side_of (q / 2))) (part_mine (side_of q) h e H N y)
      ∙ part_mine (side_of (q / 2)) (part (side_of q) h) (last_cut (side_of q) h e) (history_part (side_of q) h H) (next_part (side_of q) h e H N) z

  beside : (q : ℕ) → same_side (side_of q) (side_of e.change.place) ≡ true → same_side (side_of (q / 2)) (side_of (e.change.place / 2)) ≡ false →
      sent_to q (h ++ (e ∷ [])) ≡ sent_to q h
  beside q y z =
      ap (part (side_of (q / 2))) (part_mine (side_of q) h e H N y)
      ∙ part_other (side_of (q / 2)) (part (side_of q) h) (last_cut (side_of q) h e) (history_part (side_of q) h H) (next_part (side_of q) h e H N) z

  elsewhere : (q : ℕ) → same_side (side_of q) (side_of e.change.place) ≡ false → sent_to q (h ++ (e ∷ [])) ≡ sent_to q h
  elsewhere q y = ap (part (side_of (q / 2))) (part_other (side_of q) h e H N y)

  module _ (k : ℕ) (at : e.change.place ≡ k) where
    right : (q : ℕ) → same_side (side_of q) (side_of e.change.place) ≡ same_side (side_of q) (side_of k)
    right q = λ i. same_side (side_of q) (side_of (at i))

    right_half : (q : ℕ) → same_side (side_of (q / 2)) (side_of (e.change.place / 2)) ≡ same_side (side_of (q / 2)) (side_of (k / 2))
    right_half q = λ i. same_side (side_of (q / 2)) (side_of (at i / 2))

  -- ---- the four places
  at_0 : e.change.place ≡ 0 → state_of (h ++ (e ∷ [])) ≡ of_parts (sent_to 0 h ++ (got 0 ∷ [])) (sent_to 1 h) (sent_to 2 h) (sent_to 3 h)
  at_0 p = λ i. of_parts (mine 0 (right 0 p 0) (right_half 0 p 0) i) (elsewhere 1 (right 0 p 1) i) (beside 2 (right 0 p 2) (right_half 0 p 2) i) (elsewhere 3 (right 0 p 3) i)

  at_1 : e.change.place ≡ 1 → state_of (h ++ (e ∷ [])) ≡ of_parts (sent_to 0 h) (sent_to 1 h ++ (got 1 ∷ [])) (sent_to 2 h) (sent_to 3 h)
  at_1 p = λ i. of_parts (elsewhere 0 (right 1 p 0) i) (mine 1 (right 1 p 1) (right_half 1 p 1) i) (elsewhere 2 (right 1 p 2) i) (beside 3 (right 1 p 3) (right_half 1 p 3) i)

  at_2 : e.change.place ≡ 2 → state_of (h ++ (e ∷ [])) ≡ of_parts (sent_to 0 h) (sent_to 1 h) (sent_to 2 h ++ (got 2 ∷ [])) (sent_to 3 h)
  at_2 p = λ i. of_parts (beside 0 (right 2 p 0) (right_half 2 p 0) i) (elsewhere 1 (right 2 p 1) i) (mine 2 (right 2 p 2) (right_half 2 p 2) i) (elsewhere 3 (right 2 p 3) i)

  at_3 : e.change.place ≡ 3 → state_of (h ++ (e ∷ [])) ≡ of_parts (sent_to 0 h) (sent_to 1 h) (sent_to 2 h) (sent_to 3 h ++ (got 3 ∷ []))
  at_3 p = λ i. of_parts (elsewhere 0 (right 3 p 0) i) (beside 1 (right 3 p 1) (right_half 3 p 1) i) (elsewhere 2 (right 3 p 2) i) (mine 3 (right 3 p 3) (right_half 3 p 3) i)

  -- ---- the operations
  -- a count with an event more
  counted : (q : ℕ) {n : ℤ} → e.change.argument ≡ n → sum (sent_to q h ++ (got q ∷ [])) ≡ sum (sent_to q h) +ℤ n
  counted q n = sum_more (sent_to q h) (got q) ∙ ap (λ z. sum (sent_to q h) +ℤ z) n

  pub turn : (op : Operation) → e.change ≡ change_of op → state_of (h ++ (e ∷ [])) ≡ made_of op (state_of h)
  turn (Mark o) c =
      at_0 (λ i. (c i).place)
      ∙ λ i. record (state_of h) {
        stale = fun_ext (λ p. member_mark (sent_to 0 h) (got 0) (history_at 0) (next_at 0) (λ i. (c i).verb) p
            ∙ (λ i. member (sent_to 0 h) p || natural (c i).argument == p)) i;
      }
  turn (Clear o) c =
      at_0 (λ i. (c i).place)
      ∙ λ i. record (state_of h) {
        stale = fun_ext (λ p. member_clear (sent_to 0 h) (got 0) (history_at 0) (next_at 0) (λ i. (c i).verb) p
            ∙ (λ i. member (sent_to 0 h) p && not (natural (c i).argument == p))) i;
      }
  turn (Rebuild n) c = at_1 (λ i. (c i).place) ∙ λ i. record (state_of h) { rebuilds = counted 1 (λ i. (c i).argument) i }
  turn (Put o) c =
      at_2 (λ i. (c i).place)
      ∙ λ i. record (state_of h) {
        queue = (ap arguments (put_waiting (sent_to 2 h) (got 2) (history_at 2) (next_at 2) (λ i. (c i).verb == 1) (λ i. (c i).verb == 2))
            ∙ map-append argument (waiting (sent_to 2 h)) (got 2 ∷ [])
            ∙ (λ i. arguments (waiting (sent_to 2 h)) ++ ((c i).argument ∷ []))) i;
      }
  turn Take c =
      at_2 (λ i. (c i).place)
      ∙ λ i. record (state_of h) {
        queue = (ap arguments (take_waiting (sent_to 2 h) (got 2) (history_at 2) (next_at 2) (λ i. (c i).verb == 2) (λ i. (c i).verb == 1))
            ∙ sym (drop-map argument 1 (waiting (sent_to 2 h)))) i;
      }
  turn (Skip n) c = at_3 (λ i. (c i).place) ∙ λ i. record (state_of h) { skips = counted 3 (λ i. (c i).argument) i }

pub in_turn : (op : Operation) (c : Change) → c ≡ change_of op → InTurn op c
in_turn op c q h e H N made = turn h e H N op (made ∙ q)
