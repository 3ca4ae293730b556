-- What the calls of the queue owe, from what they do to its rows.
use Rattle.std.specs.Prelude.{◌≡◌, ℕ, ◌+◌, ◌-◌, ◌<◌, ◌≤◌, Bool, true, false, cond, List, [], ◌∷◌, ◌++◌, map, length, take, drop, ℤ, pos, Some, None, Ok, Err, Option, Result, ◌==◌, nat_eq, nat_le, MatchResult, refl}
use Rattle.std.proofs.lemmas.Grind.{common_steps}
use Rattle.std.proofs.Common.{rules, tests, sym, ap, subst, ◌∙◌, arith, Bor}
use Rattle.std.proofs.lemmas.Bool.{both_ways, and_parts}
use Rattle.std.proofs.lemmas.List.{length-append, length-drop}
use Rattle.std.specs.Result.{result_unwrap_or}
use Rattle.kinds.specs.Events.{Event, Seen, In, pick, common, joined}
use Rattle.kinds.specs.History.{History, Closed}
use Rattle.kinds.specs.Meaning.{Known}
use Rattle.kinds.specs.Duties.{Answers, Changed, Changes, Merged, Merges}
use Rattle.kinds.specs.declared.calls.Change.{Change}
use Rattle.kinds.specs.declared.calls.Question.{Question}
use Rattle.kinds.specs.declared.calls.Stamp.{Stamp}
use Rattle.kinds.specs.declared.fault.KindFault.{KindFault}
use Rattle.kinds.specs.declared.fault.KindFault.TheVariants.{DoesNotFit}
use Rattle.kinds.proofs.Outcomes.{ok_not_err}
use Rattle.kinds.proofs.Picks.{closed_common}
use Rattle.std.specs.Ordering.{nat_cmp}
use Rattle.rows.specs.Lists.{natural}
use Rattle.rows.specs.Rows.{rises}
use Rattle.rows.specs.Walk.{Joins, walked}
use Rattle.rows.proofs.KeysLemmas.{total_number}
use Rattle.rows.proofs.Walks.{joined_one}
use Rattle.rows.proofs.Turns.{joins_some, joins_none}
use Rattle.queues.specs.Queue.{is_put, puts, takes, asks, waits, takings, waiting, first_argument, queue}
use Rattle.queues.specs.Line.{Represents, Put, Take, line, wait_of, wait_key, same_wait, first_item}
use Rattle.queues.specs.Fits.{line_length}
use Rattle.queues.specs.declared.queue.Queue.{Queue}
use Rattle.queues.specs.declared.wait.Wait.{Wait}
use Rattle.queues.proofs.Kept.{of_kept}
use Rattle.queues.proofs.Lines.{rises_line, lines_joined}
use Rattle.queues.proofs.Nexts.{put_line, take_line}

-- ---- counts
fits_from : (h : List Event) → length (line h) ≤ 64 → queue.fits h ≡ true
fits_from h l = grind (arith, common_steps, line_length)

fits_not : (h : List Event) → 64 < length (line h) → queue.fits h ≡ false
fits_not h l = grind (arith, common_steps, line_length)

-- ---- changes that the queue knows
a_put : (c : Change) → puts c ≡ true → (queue.knows c ≡ true) × (c.verb ≡ 1)
a_put c y = search (rules, tests)

a_take : (c : Change) → takes c ≡ true → (queue.knows c ≡ true) × (c.verb ≡ 2) × (puts c ≡ false)
a_take c y = search (rules, tests)

-- the argument of a put that is known
put_argument : (c : Change) → (c.verb == 1) ≡ true → queue.knows c ≡ true → pos (natural c.argument) ≡ c.argument
put_argument c v y = search (rules, tests)

-- the first item that waits
first_is : (h : List Event) → Known queue h → first_item (line h) ≡ first_argument (waiting h)
unfolding line waiting
first_is h K = go (waiting h) (λ e i. let r = of_kept (waits (λ n. true) (takings h)) h e i in put_argument e.change (and_parts (is_put e) _ r.1).0 (K e r.0))
  where
    go : (ws : List Event) → ((e : Event) → In e ws → pos (natural e.change.argument) ≡ e.change.argument) → first_item (map wait_of ws) ≡ first_argument ws
    go [] u = refl
    go (e ∷ ws) u = u e In.here

-- ---- a change
pub put_change : (before after : Queue) (stamp : Stamp) (change : Change) (x : Wait) (r : Result ℤ KindFault) → puts change ≡ true →
    x ≡ record { event = stamp.event; item = natural change.argument } → Put before x r after → Changes queue Represents before stamp change r after
put_change before after stamp change x r p ex outcome = record {
  defined = λ h e H K N S rep.
      let put-e : puts e.change ≡ true = ap puts S.made ∙ p in
      let (known, verb) = a_put e.change put-e in
      let lined : line (h ++ (e ∷ [])) ≡ line h ++ (wait_of e ∷ []) = put_line h e H N (ap (λ v. nat_eq v 1) verb) (ap (λ v. nat_eq v 2) verb) in
      let long : length (line (h ++ (e ∷ []))) ≡ length (line h) + 1 = ap length lined ∙ length-append (line h) (wait_of e ∷ []) in
      let x-is : wait_of e ≡ x = (λ i. record { event = S.number i; item = natural (S.made i).argument }) ∙ sym ex in
      let counted = rep.counted in
      let within = rep.within in
      elim outcome [
        | Put.full more err same ↦ Changed.misfit known (fits_not (h ++ (e ∷ [])) (omega arith)) err
        | Put.written room ok count rows ↦
            Changed.done known (fits_from (h ++ (e ∷ [])) (omega arith))
            (ok ∙ ap Ok (ap pos (ap (λ n. n + 1) (counted ∙ line_length h)) ∙ sym (ap (λ b. cond b (pos (length (waiting h) + 1)) (first_argument (waiting h))) put-e)))
            (record { within = omega arith; counted = omega arith; lined = rows ∙ (λ i. rep.lined i ++ (sym x-is i ∷ [])) ∙ sym lined })
      ];
  unaltered = λ f z. elim outcome [
    | Put.full more err same ↦ same
    | Put.written room ok count rows ↦ absurd (ok_not_err (sym ok ∙ z))
  ];
}

pub take_change : (before after : Queue) (stamp : Stamp) (change : Change) (r : Result ℤ KindFault) → takes change ≡ true → Take before r after → Changes queue Represents before stamp change r after
take_change before after stamp change r t outcome = record {
  defined = λ h e H K N S rep.
      let take-e : takes e.change ≡ true = ap takes S.made ∙ t in
      let (known, verb, put-not) = a_take e.change take-e in
      let lined : line (h ++ (e ∷ [])) ≡ drop 1 (line h) = take_line h e H N (ap (λ v. nat_eq v 2) verb) (ap (λ v. nat_eq v 1) verb) in
      let long : length (line (h ++ (e ∷ []))) ≡ length (line h) - 1 = ap length lined ∙ length-drop 1 (line h) in
      let reply : queue.reply h e.change ≡ first_item (line h) =
      ap (λ b. cond b (pos (length (waiting h) + 1)) (first_argument (waiting h))) put-not ∙ sym (first_is h K) in
      let counted = rep.counted in
      let within = rep.within in
      elim outcome [
        | Take.beyond more err same ↦ absurd (omega arith)
        | Take.empty none ok same ↦
            let nothing : line h ≡ [] = none_long (line h) (omega arith) in
            Changed.done known (fits_from (h ++ (e ∷ [])) (omega arith)) (ok ∙ ap Ok (sym (reply ∙ ap first_item nothing)))
            (subst (λ q. Represents q (h ++ (e ∷ []))) (sym same)
            (record { within = within; counted = omega arith; lined = rep.lined ∙ nothing ∙ sym (lined ∙ ap (drop 1) nothing) }))
        | Take.shifted room count ok rows ↦
            Changed.done known (fits_from (h ++ (e ∷ [])) (omega arith)) (ok ∙ ap Ok (ap first_item rep.lined ∙ sym reply))
            (record { within = omega arith; counted = omega arith; lined = rows ∙ ap (drop 1) rep.lined ∙ sym lined })
      ];
  unaltered = λ f z. elim outcome [
    | Take.beyond more err same ↦ same
    | Take.empty none ok same ↦ same
    | Take.shifted room count ok rows ↦ absurd (ok_not_err (sym ok ∙ z))
  ];
}
  where
    none_long : (xs : List Wait) → length xs ≡ 0 → xs ≡ []
    none_long [] q = refl
    none_long (x ∷ xs) q = absurd (omega arith)

-- ---- a merge
-- the rows that were read of a value that stands for a history are those of the history
pub held : (q : Queue) (xs : List Wait) → (q.count ≤ 64) × (xs ≡ take q.count q.rows) → (h : List Event) → Represents q h → xs ≡ line h
held q xs l h rep = l.1 ∙ rep.lined

module _ (base first second : Queue) (l f s before after : List Wait) (answer : Option ℕ)
    (el : (h : List Event) → Represents base h → l ≡ line h) (ef : (h : List Event) → Represents first h → f ≡ line h) (es : (h : List Event) → Represents second h → s ≡ line h)
    (size : length before ≡ 64) (J : Joins nat_cmp wait_key same_wait l f s before after answer) where
  abbrev Said : Option ℕ → Type 0
  Said o = Joins nat_cmp wait_key same_wait l f s before after o

  abbrev rows : List Wait
  rows = walked nat_cmp wait_key same_wait l f s

  rows_are : (w : List Event) (a b : Seen) → History w → Closed a w → Closed b w → Represents base (pick (common a b) w) → Represents first (pick a w) → Represents second (pick b w) → rows ≡ line (pick (joined a b) w)
  rows_are w a b H ca cb hb hf hs =
      let pl : l ≡ line (pick (common a b) w) = el (pick (common a b) w) hb in
      let pf : f ≡ line (pick a w) = ef (pick a w) hf in
      let ps : s ≡ line (pick b w) = es (pick b w) hs in
      let rl : rises nat_cmp wait_key l ≡ true = rw pl (rises_line w H (common a b) (closed_common a b w ca cb)) in
      let rf : rises nat_cmp wait_key f ≡ true = rw pf (rises_line w H a ca) in
      let rs : rises nat_cmp wait_key s ≡ true = rw ps (rises_line w H b cb) in
      joined_one nat_cmp total_number wait_key same_wait l f s rows (line (pick (joined a b) w)) (J.rows rl rf rs) (rw (pl, pf, ps) (lines_joined w H a b ca cb))

  pub full_merge : (r : Result Queue KindFault) → answer ≡ None → r ≡ Err (DoesNotFit 0) → Merges queue Represents base first second r
  full_merge r none e = λ w a b H K ca cb rb rf rs.
      let n = ap length (rows_are w a b H ca cb rb rf rs) in
      let over = joins_none nat_cmp wait_key same_wait l f s before after (subst Said none J) in
      Merged.misfit (fits_not (pick (joined a b) w) (omega arith)) e

  pub done_merge : (r : Result Queue KindFault) (q : Queue) → answer ≡ Some q.count → r ≡ Ok q → q.rows ≡ after → Merges queue Represents base first second r
  done_merge r q some e kept = λ w a b H K ca cb rb rf rs.
      let same = rows_are w a b H ca cb rb rf rs in
      let n = ap length same in
      let had = joins_some nat_cmp wait_key same_wait l f s before after q.count (subst Said some J) in
      let count = go (nat_le (length rows) (length before)) (sym some ∙ J.count) in
      Merged.done q (fits_from (pick (joined a b) w) (omega arith)) e
      (record { within = omega arith; counted = omega arith; lined = ap (take q.count) kept ∙ had.1 ∙ same })
    where
      go : (t : Bool) → Some q.count ≡ cond t (Some (length rows)) None → q.count ≡ length rows
      go true z = cc
      go false z = cc

-- ---- a question
asks_apart : (q : Question) → asks 2 q ≡ true → asks 1 q ≡ false
asks_apart q y = search (rules, tests)

heard_first : (q : Question) → asks 1 q ≡ true → queue.hears q ≡ true
heard_first q y = search (rules, tests)

heard_count : (q : Question) → asks 2 q ≡ true → queue.hears q ≡ true
heard_count q y = search (rules, tests)

-- the rows that a question goes by: none of a value that was refused
pub read : (q : Queue) (r : Result (Bor (List Wait)) KindFault) (none rows : Bor (List Wait)) →
    MatchResult r (λ xs. (q.count ≤ 64) × (xs.now ≡ take q.count q.rows)) (λ fault. (64 < q.count) × (fault ≡ DoesNotFit 0)) → rows ≡ result_unwrap_or r none →
    (h : List Event) → Represents q h → rows.now ≡ line h
read q (Ok xs) none ys l e h rep = ap (λ b. b.now) e ∙ l.1 ∙ rep.lined
read q (Err fault) none ys l e h rep = let w = rep.within in let m = l.0 in absurd (omega arith)

pub first_answer : (q : Queue) (question : Question) (xs : List Wait) (r : Result ℤ KindFault) → asks 1 question ≡ true → ((h : List Event) → Represents q h → xs ≡ line h) → r ≡ Ok (first_item xs) →
    Answers queue Represents q question r
first_answer q question xs r y el e = record {
  known = λ hears h H K rep.
      e ∙ ap (λ ys. Ok (first_item ys)) (el h rep)
      ∙ ap Ok (first_is h K ∙ sym (ap (λ b. cond b (first_argument (waiting h)) (pos (length (waiting h)))) y));
  unknown = λ n. absurd (both_ways (queue.hears question) n (heard_first question y));
}

pub count_answer : (q : Queue) (question : Question) (xs : List Wait) (r : Result ℤ KindFault) → asks 2 question ≡ true → ((h : List Event) → Represents q h → xs ≡ line h) → r ≡ Ok (pos (length xs)) →
    Answers queue Represents q question r
count_answer q question xs r y el e = record {
  known = λ hears h H K rep.
      e ∙ ap (λ ys. Ok (pos (length ys))) (el h rep)
      ∙ ap Ok (ap pos (line_length h) ∙ sym (ap (λ b. cond b (first_argument (waiting h)) (pos (length (waiting h)))) (asks_apart question y)));
  unknown = λ n. absurd (both_ways (queue.hears question) n (heard_count question y));
}
