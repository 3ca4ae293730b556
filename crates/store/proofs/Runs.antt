-- One call more in a run.
use Rattle.std.proofs.Common.{◌≡◌, ℕ, zero, suc, ◌+◌, ◌-◌, ◌<◌, ◌≤◌, List, [], ◌∷◌, ◌++◌, length, get_or, take, drop, set, sym, refl, ap, ◌∙◌, subst, ap₂, arith}
use Rattle.std.proofs.lemmas.List.{take_more, take_more_set, length-take-le, drop-drop, drop-set-lt, append_assoc, append-nil}
use Rattle.kinds.specs.Events.{Event, nothing}
use Rattle.kinds.specs.Meaning.{Meaning}
use Rattle.kinds.specs.declared.calls.Change as kind
use Rattle.kinds.specs.declared.calls.Question.{Question}
use Rattle.calls.specs.declared.calls.Action.{Action}
use Rattle.calls.specs.declared.calls.Action.TheVariants.{Fork, Change, Merge}
use Rattle.calls.specs.declared.calls.Call.{Call}
use Rattle.calls.specs.declared.calls.Call.TheVariants.{Act, Ask}
use Rattle.calls.specs.Counts.{record_of}
use Rattle.calls.specs.World.{World, opened}
use Rattle.calls.specs.Outcome.{Outcome, outcome}
use Rattle.calls.specs.Run.{Log, log_of, after, follow, step_of, steps_of}
use Rattle.store.specs.Book.{Book, Recorded, actions, begun}
use Rattle.store.specs.Held.{Memory, Held, Opened, FirstWritten}
use Rattle.store.specs.Attempt.{past, after_fork, after_action, ForkTried, ChangeTried, MergeTried, AskTried, Tried, Attempted, Beyond, Ran}
use Rattle.calls.proofs.Laws.{Defined}

-- ---- memory past what is stored
drop_further : {A : Type 0} (n m : ℕ) (xs ys : List A) → n ≤ m → drop n xs ≡ drop n ys → drop m xs ≡ drop m ys
drop_further n m xs ys l e =
    let p : n + (m - n) ≡ m = omega arith in
    ap (λ i. drop i xs) (sym p) ∙ sym (drop-drop (m - n) n xs) ∙ ap (drop (m - n)) e ∙ drop-drop (m - n) n ys ∙ ap (λ i. drop i ys) p

-- memory is as it was past what is stored, and no less is stored
pub record Grows {A : Type 0} (k k' : Memory A) : Type 0 where
  pub usable : k'.book.usable ≡ k.book.usable
  pub made : k.book.made ≤ k'.book.made
  pub taken : k.book.taken ≤ k'.book.taken
  pub beyond : Beyond k k'

grows_same : {A : Type 0} (k : Memory A) → Grows k k
grows_same k = record { usable = refl; made = omega arith; taken = omega arith; beyond = record { versions = refl; values = refl; steps = refl } }

module _ {A : Type 0} (k : Memory A) where
  grows_by : (k' : Memory A) → k' ≡ k → Grows k k'
  grows_by k' e = subst (Grows k) (sym e) (grows_same k)

  grows_fork : (v : ℕ) → Grows k (after_fork k v)
  grows_fork v = record {
    usable = refl;
    made = omega arith;
    taken = omega arith;
    beyond = record { versions = refl; values = refl; steps = drop-set-lt (k.book.taken + 1) k.book.steps k.book.taken (record { action = Fork v }) (omega arith) };
  }

  grows_action : (a : Action) (b : ℕ) (x : A) → Grows k (after_action k a b x)
  grows_action a b x = record {
    usable = refl;
    made = omega arith;
    taken = omega arith;
    beyond = record {
      versions = drop-set-lt (k.book.made + 1) k.book.versions k.book.made _ (omega arith);
      values = drop-set-lt (k.book.made + 1) k.values k.book.made x (omega arith);
      steps = drop-set-lt (k.book.taken + 1) k.book.steps k.book.taken (record { action = a }) (omega arith);
    };
  }

  module _ (m : Meaning) (R : A → List Event → Type 0) (o : Outcome) (k' : Memory A) where
    fork_grows : (v : ℕ) → ForkTried k v o k' → Grows k k'
    fork_grows v (ForkTried.refused g q p u) = grows_by k' u
    fork_grows v (ForkTried.made b q p u) = subst (Grows k) (sym u) (grows_fork v)

    change_grows : (b : ℕ) (c : kind.Change) → ChangeTried m R k b c o k' → Grows k k'
    change_grows b c (ChangeTried.refused g q p u) = grows_by k' u
    change_grows b c (ChangeTried.unkind head v x g q r t p u) = grows_by k' u
    change_grows b c (ChangeTried.made head v x a q r t p u) = subst (Grows k) (sym u) (grows_action (Change b c) b x)

    merge_grows : (d s : ℕ) → MergeTried m R k d s o k' → Grows k k'
    merge_grows d s (MergeTried.refused g q p u) = grows_by k' u
    merge_grows d s (MergeTried.idle head q p u) = grows_by k' u
    merge_grows d s (MergeTried.unkind base first second x y z g q r r' r'' t p u) = grows_by k' u
    merge_grows d s (MergeTried.made base first second x y z new q r r' r'' t p u) = subst (Grows k) (sym u) (grows_action (Merge d s) d new)

    ask_grows : (b : ℕ) (q : Question) → AskTried m R k b q o k' → Grows k k'
    ask_grows b q (AskTried.refused g h p u) = grows_by k' u
    ask_grows b q (AskTried.said head v r h t a p u) = grows_by k' u

    tried_grows : (c : Call) → Tried m R k c o k' → Grows k k'
    tried_grows (Act (Fork v)) t = fork_grows v t
    tried_grows (Act (Change b c)) t = change_grows b c t
    tried_grows (Act (Merge d s)) t = merge_grows d s t
    tried_grows (Ask b q) t = ask_grows b q t

beyond_both : {A : Type 0} (k k' k'' : Memory A) → Beyond k k' → Grows k' k'' → Beyond k k''
beyond_both k k' k'' a g = record {
  versions = g.beyond.versions ∙ drop_further k'.book.made k''.book.made k'.book.versions k.book.versions g.made a.versions;
  values = g.beyond.values ∙ drop_further k'.book.made k''.book.made k'.values k.values g.made a.values;
  steps = g.beyond.steps ∙ drop_further k'.book.taken k''.book.taken k'.book.steps k.book.steps g.taken a.steps;
}

-- opening writes the first elements only
begun_beyond : {A : Type 0} (V : ℕ) (xs : List A) (x : A) → drop (length (opened V).versions) (begun V xs x) ≡ drop (length (opened V).versions) xs
begun_beyond zero xs x = refl
begun_beyond (suc V) xs x = drop-set-lt 1 xs 0 x (omega arith)

written_beyond : {A : Type 0} (V : ℕ) (xs ys : List A) → FirstWritten V xs ys → drop (length (opened V).versions) ys ≡ drop (length (opened V).versions) xs
written_beyond zero xs ys w = ap (drop 0) w
written_beyond (suc V) xs ys w = ap (drop 1) w.1 ∙ drop-set-lt 1 xs 0 w.0 (omega arith)

opened_beyond : {A : Type 0} (k k' : Memory A) → Opened k k' → Beyond k k'
opened_beyond k k' o = subst (λ (b : Book). Beyond k (record { book = b; values = k'.values })) (sym o.book) (record {
  versions = begun_beyond k.book.usable k.book.versions (record_of [] nothing);
  values = written_beyond k.book.usable k.values k'.values o.values;
  steps = refl;
})

-- ---- logs
log_push : (cs : List Call) (os : List Outcome) (c : Call) (o : Outcome) → length cs ≡ length os → log_of (cs ++ (c ∷ [])) (os ++ (o ∷ [])) ≡ log_of cs os ++ ((c, o) ∷ [])
log_push [] [] c o l = refl
log_push [] (p ∷ os) c o l = absurd (omega arith)
log_push (d ∷ cs) [] c o l = absurd (omega arith)
log_push (d ∷ cs) (p ∷ os) c o l = ap (λ (r : Log). (d, p) ∷ r) (log_push cs os c o (omega arith))

after_push : (w : World) (xs : Log) (x : Call × Outcome) → after w (xs ++ (x ∷ [])) ≡ follow (after w xs) x.0 x.1
after_push w [] x = refl
after_push w (y ∷ xs) x = after_push (follow w y.0 y.1) xs x

steps_push : (w : World) (xs : Log) (x : Call × Outcome) → steps_of w (xs ++ (x ∷ [])) ≡ steps_of w xs ++ step_of (after w xs) x.0 x.1
steps_push w [] x = append-nil (step_of w x.0 x.1)
steps_push w (y ∷ xs) x =
    ap (λ (l : List Action). step_of w y.0 y.1 ++ l) (steps_push (follow w y.0 y.1) xs x)
    ∙ sym (append_assoc (step_of w y.0 y.1) (steps_of (follow w y.0 y.1) xs) (step_of (after w (y ∷ xs)) x.0 x.1))

defined_push : (m : Meaning) (V : ℕ) (w : World) (xs : Log) (x : Call × Outcome) → Defined m V w xs → x.1 ≡ outcome m V (after w xs) x.0 → Defined m V w (xs ++ (x ∷ []))
defined_push m V w [] x d q = (q, tt)
defined_push m V w (y ∷ xs) x d q = (d.0, defined_push m V (follow w y.0 y.1) xs x d.1 q)

-- ---- what a run keeps, from a memory just opened
pub record Running {A : Type 0} (m : Meaning) (R : A → List Event → Type 0) (k : Memory A) (xs : Log) (k' : Memory A) : Type 0 where
  pub steps : actions k'.book.steps k'.book.taken ≡ steps_of (opened k.book.usable) xs
  pub followed : past k' ≡ after (opened k.book.usable) xs
  pub held : Held m R k'
  pub grown : Grows k k'
  pub defined : Defined m k.book.usable (opened k.book.usable) xs

module _ {A : Type 0} (m : Meaning) (R : A → List Event → Type 0) where
  running_push : (k k' k'' : Memory A) (xs : Log) (c : Call) (o : Outcome) → Running m R k xs k' → Attempted m R k' c o k'' → Running m R k (xs ++ ((c, o) ∷ [])) k''
  running_push k k' k'' xs c o r t =
      let a = t.kept r.held in
      let V = k.book.usable in
      let grown = tried_grows k' m R o k'' c t.tried in
      record {
        steps = t.steps ∙ ap₂ (λ (l : List Action) (w : World). l ++ step_of w c o) r.steps r.followed ∙ sym (steps_push (opened V) xs (c, o));
        followed = t.followed ∙ ap (λ (w : World). follow w c o) r.followed ∙ sym (after_push (opened V) xs (c, o));
        held = a.held;
        grown = record {
          usable = grown.usable ∙ r.grown.usable;
          made = let p = r.grown.made in let q = grown.made in omega arith;
          taken = let p = r.grown.taken in let q = grown.taken in omega arith;
          beyond = beyond_both k k' k'' r.grown.beyond grown;
        };
        defined = defined_push m V (opened V) xs (c, o) r.defined (a.as_defined ∙ ap₂ (λ (n : ℕ) (w : World). outcome m n w c) r.grown.usable r.followed);
      }

  pub running_more : (k k' k'' : Memory A) (cs : List Call) (os : List Outcome) (i : ℕ) (c : Call) (o : Outcome) → i < length cs → i < length os → c ≡ get_or cs i c →
      Running m R k (log_of (take i cs) (take i os)) k' → Attempted m R k' c o k'' → Running m R k (log_of (take (i + 1) cs) (take (i + 1) (set os i o))) k''
  running_more k k' k'' cs os i c o lc lo read r t =
      subst (λ (xs : Log). Running m R k xs k'')
      (sym (ap₂ log_of (take_more cs i c lc ∙ ap (λ (d : Call). take i cs ++ (d ∷ [])) (sym read)) (take_more_set os i o lo)
      ∙ log_push (take i cs) (take i os) c o (length-take-le i cs (omega arith) ∙ sym (length-take-le i os (omega arith)))))
      (running_push k k' k'' (log_of (take i cs) (take i os)) c o r t)

  -- a run from a memory that was opened again
  pub ran : (k k' k'' : Memory A) (xs : Log) → Opened k k' → Running m R k' xs k'' → Recorded k''.book → Ran m R k xs k''
  ran k k' k'' xs o r recorded =
      let same : k'.book.usable ≡ k.book.usable = ap (λ (b : Book). b.usable) o.book in
      record {
        usable = r.grown.usable ∙ same;
        steps = r.steps ∙ ap (λ V. steps_of (opened V) xs) same;
        followed = r.followed ∙ ap (λ V. after (opened V) xs) same;
        recorded = recorded;
        held = r.held;
        beyond = beyond_both k k' k'' (opened_beyond k k' o) r.grown;
      }

-- outcomes past those that were written
pub rest_more : {A : Type 0} (i : ℕ) (xs ys : List A) (x : A) → drop i xs ≡ drop i ys → drop (i + 1) (set xs i x) ≡ drop (i + 1) ys
rest_more i xs ys x e = drop-set-lt (i + 1) xs i x (omega arith) ∙ drop_further i (i + 1) xs ys (omega arith) e
