-- What a tried call gives where each version's value stands for what the version has seen.
use Rattle.std.proofs.Common.{◌≡◌, ℕ, zero, suc, ◌+◌, ◌<◌, ◌≤◌, Bool, true, cond, List, [], ◌∷◌, ◌++◌, length, get_or, set, ℤ, Ok, Err, Result, sym, refl, ap, ◌∙◌, subst, arith}
use Rattle.std.proofs.ByRecursion.{All-from_get_or}
use Rattle.std.specs.List.{AllByRecursion as All}
use Rattle.kinds.specs.Events.{Seen, Event, joined, nothing, pick}
use Rattle.kinds.specs.History.{History, Next}
use Rattle.kinds.specs.Meaning.{Meaning, Known}
use Rattle.kinds.specs.Duties.{Changed, Changes, Merged, Merges}
use Rattle.kinds.specs.declared.calls.Change as kind
use Rattle.kinds.specs.declared.calls.Question.{Question}
use Rattle.kinds.specs.declared.fault.KindFault.{KindFault}
use Rattle.kinds.proofs.Picks.{pick_same, of_picked, picked, by_bool}
use Rattle.kinds.proofs.Histories.{history_pick, by_last}
use Rattle.calls.specs.declared.calls.Action.TheVariants.{Fork, Change, Merge}
use Rattle.calls.specs.declared.calls.Call.{Call}
use Rattle.calls.specs.declared.calls.Call.TheVariants.{Act, Ask}
use Rattle.calls.specs.declared.calls.Meeting.{Meeting}
use Rattle.calls.specs.declared.calls.Meeting.TheVariants.{Seen as Met, Apart}
use Rattle.calls.specs.declared.calls.Reply.TheVariants.{Branch, Version as VersionMade, Changed as ChangeMade}
use Rattle.calls.specs.declared.fault.StoreFault.{StoreFault}
use Rattle.calls.specs.declared.fault.StoreFault.TheVariants.{OfKind}
use Rattle.calls.specs.World.{World, advance, seen_by, history_of, next_event, with_event, stored, lowest}
use Rattle.calls.specs.Outcome.{Outcome, changing, merging, and_then, change_verdict, merge_verdict, met_outcome, question_verdict, outcome}
use Rattle.calls.specs.Run.{advances, follow}
use Rattle.store.specs.Held.{Memory, Valued, Held}
use Rattle.store.specs.Attempt.{past, Reads, next_stamp, answered, ForkTried, ChangeTried, MergeTried, AskTried, Tried, Kept}
use Rattle.calls.proofs.Prefixes.{Numbered, Only}
use Rattle.calls.proofs.Counted.{same_is}
use Rattle.calls.proofs.Tallies.{number_above, pick_before, pick_with}
use Rattle.calls.proofs.Worlds.{Sound, both, version_only, seen_only, seen_closed, both_only}
use Rattle.calls.proofs.Questions.{lowest_same}
use Rattle.calls.proofs.Inversions.{asked_yes, asked_no, asking_ok, changing_ok, Parted, merging_apart}

-- the event that a change is comes next after what its branch has seen
next_pick : (es : List Event) (e : Event) → Numbered 0 es → e.number ≡ length es + 1 → (s : Seen) → length es + 1 ≤ 4095 → e.branch < 16 → e.saw ≡ s → Only s es →
    Next (pick s es) e
next_pick es e num number s few branch saw only = record {
  numbered = (omega arith, omega arith);
  branched = branch;
  above = λ f i. number_above es e num number f (of_picked s es f i).0;
  all = λ f i. ap (λ (z : Seen). z f.number) saw ∙ (of_picked s es f i).1;
  only = λ n t.
      let t' : s n ≡ true = sym (ap (λ (z : Seen). z n) saw) ∙ t in
      let f = only n t' in
      (f.0, (picked s es f.0 f.1.0 (subst (λ k. s k ≡ true) (sym f.1.1) t'), f.1.1));
}

-- ---- values
module _ {A : Type 0} (R : A → List Event → Type 0) where
  pub valued_at : (es : List Event) (ss : List Seen) (vs : List A) (i : ℕ) (x : A) → Valued R es ss vs → i < length ss → x ≡ get_or vs i x →
      R x (pick (get_or ss i nothing) es)
  valued_at es [] vs i x h l q = absurd (omega arith)
  valued_at es (s ∷ ss) [] i x h l q = elim h [ ]
  valued_at es (s ∷ ss) (v ∷ vs) zero x h l q = subst (λ (y : A). R y (pick s es)) (sym q) h.0
  valued_at es (s ∷ ss) (v ∷ vs) (suc i) x h l q = valued_at es ss vs i x h.1 (omega arith) q

  pub valued_push : (es es' : List Event) (ss : List Seen) (vs : List A) (s : Seen) (x : A) → All (λ s. pick s es ≡ pick s es') ss → Valued R es ss vs →
      length ss < length vs → R x (pick s es') → Valued R es' (ss ++ (s ∷ [])) (set vs (length ss) x)
  valued_push es es' [] [] s x e h l r = absurd (omega arith)
  valued_push es es' [] (v ∷ vs) s x e h l r = (r, tt)
  valued_push es es' (t ∷ ss) [] s x e h l r = elim h [ ]
  valued_push es es' (t ∷ ss) (v ∷ vs) s x e h l r = (subst (R v) e.0 h.0, valued_push es es' ss vs s x e.1 h.1 (omega arith) r)

-- ---- what the kind's duties give
-- the outcome of a change that the kind was asked for
abbrev changed_by : ℕ → Result ℤ KindFault → Outcome
changed_by n (Ok a) = Ok (ChangeMade n a)
changed_by n (Err f) = Err (OfKind f)

-- the outcome of a merge that the kind was asked for
abbrev merged_by : {A : Type 0} → ℕ → Result A KindFault → Outcome
merged_by n (Ok a) = Ok (VersionMade n)
merged_by n (Err f) = Err (OfKind f)

module _ {A : Type 0} (m : Meaning) (R : A → List Event → Type 0) (w : World) where
  changed_verdict : (b : ℕ) (c : kind.Change) (r : Result ℤ KindFault) (x : A) → Changed m R (history_of w b) (next_event w b c) r x →
      changed_by (length w.versions) r ≡ change_verdict m w b c
  changed_verdict b c r x (Changed.unknown k e) = ap (changed_by (length w.versions)) e ∙ sym (asked_no (m.knows c) _ _ k)
  changed_verdict b c r x (Changed.misfit k f e) = ap (changed_by (length w.versions)) e
      ∙ sym (asked_yes (m.knows c) _ _ k ∙ asked_no (m.fits (history_of w b ++ (next_event w b c ∷ []))) _ _ f)
  changed_verdict b c r x (Changed.done k f e stands) = ap (changed_by (length w.versions)) e
      ∙ sym (asked_yes (m.knows c) _ _ k ∙ asked_yes (m.fits (history_of w b ++ (next_event w b c ∷ []))) _ _ f)

  merged_verdict : (d s : ℕ) (r : Result A KindFault) → Merged m R (pick (joined (seen_by w d) (seen_by w s)) w.events) r →
      merged_by (length w.versions) r ≡ merge_verdict m w d s
  merged_verdict d s r (Merged.misfit f e) = ap (merged_by (length w.versions)) e ∙ sym (asked_no (m.fits (pick (joined (seen_by w d) (seen_by w s)) w.events)) _ _ f)
  merged_verdict d s r (Merged.done v f e stands) = ap (merged_by (length w.versions)) e ∙ sym (asked_yes (m.fits (pick (joined (seen_by w d) (seen_by w s)) w.events)) _ _ f)

module _ {A : Type 0} (m : Meaning) (R : A → List Event → Type 0) where
  change_stands : (h : List Event) (e : Event) (a : ℤ) (x : A) → Changed m R h e (Ok a) x → (m.knows e.change ≡ true) × R x (h ++ (e ∷ []))
  change_stands h e a x (Changed.unknown k q) = absurd (let z : ◌≡◌ {A = ℕ} 0 1 = cc in omega arith)
  change_stands h e a x (Changed.misfit k f q) = absurd (let z : ◌≡◌ {A = ℕ} 0 1 = cc in omega arith)
  change_stands h e a x (Changed.done k f q stands) = (k, stands)

  merge_stands : (h : List Event) (x : A) → Merged m R h (Ok x) → R x h
  merge_stands h x (Merged.misfit f q) = absurd (let z : ◌≡◌ {A = ℕ} 0 1 = cc in omega arith)
  merge_stands h x (Merged.done v f q stands) = let p : v ≡ x = cc in subst (λ (y : A). R y h) p stands

-- ---- what a tried call keeps
module _ {A : Type 0} (m : Meaning) (R : A → List Event → Type 0) (k k' : Memory A) (sound : Sound (past k)) (small : k.book.usable ≤ 4096)
    (made : k.book.made ≡ length (past k).versions) (room : length (past k).versions < k.book.usable → k.book.made < length k.values) (held : Held m R k) where
  abbrev w : World
  w = past k

  head_history : (b : ℕ) → History (history_of w b)
  head_history b = history_pick (seen_by w b) w.events sound.history (seen_closed w sound b)

  head_known : (b : ℕ) → Known m (history_of w b)
  head_known b e i = held.known e (of_picked (seen_by w b) w.events e i).0

  head_stands : (b head : ℕ) (x : A) → b < length w.heads → head ≡ get_or w.heads b 0 → Reads k head x → R x (history_of w b)
  head_stands b head x l q read =
      valued_at R w.events w.versions k.values (get_or w.heads b 0) x held.values (sound.headed b l) (subst (λ i. x ≡ get_or k.values i x) q read.1)

  same_held : k' ≡ k → Held m R k'
  same_held q = subst (Held m R) (sym q) held

  held_as : (w' : World) (vs : List A) → past k' ≡ w' → k'.values ≡ vs → Known m w'.events → Valued R w'.events w'.versions vs → Held m R k'
  held_as w' vs p q known valued = record {
    known = subst (λ (z : World). Known m z.events) (sym p) known;
    values = subst (λ (z : World). Valued R z.events z.versions k'.values) (sym p) (subst (Valued R w'.events w'.versions) (sym q) valued);
  }

  fork_kept : (v : ℕ) (o : Outcome) → past k' ≡ follow w (Act (Fork v)) o → ForkTried k v o k' → Kept m R k (Act (Fork v)) o k'
  fork_kept v o p (ForkTried.refused f q oq kq) = record { as_defined = oq ∙ sym (ap (λ (r : Result ℕ StoreFault). and_then r (λ b. Ok (Branch b))) q); held = same_held kq }
  fork_kept v o p (ForkTried.made b q oq kq) = record {
    as_defined = oq ∙ sym (ap (λ (r : Result ℕ StoreFault). and_then r (λ b. Ok (Branch b))) q);
    held = held_as (advance w (Fork v)) k.values (p ∙ ap (follow w (Act (Fork v))) oq) (ap (λ (z : Memory A). z.values) kq) held.known held.values;
  }

  module _ (b : ℕ) (c : kind.Change) where
    changing_then : (r : Result ℕ StoreFault) → changing k.book.usable w b ≡ r → outcome m k.book.usable w (Act (Change b c)) ≡ and_then r (λ head. change_verdict m w b c)
    changing_then r q = ap (λ (r : Result ℕ StoreFault). and_then r (λ head. change_verdict m w b c)) q

    change_met : (head : ℕ) (v x : A) (r : Result ℤ KindFault) → changing k.book.usable w b ≡ Ok head → Reads k head v → Changes m R v (next_stamp w b) c r x →
        Changed m R (history_of w b) (next_event w b c) r x
    change_met head v x r q read duty =
        let a = changing_ok k.book.usable w b head q in
        let few : length w.events + 1 ≤ 4095 = let i = sound.spare in let j = sound.headed b a.0 in let l = a.1.0 in omega arith in
        duty.defined (history_of w b) (next_event w b c) (head_history b) (head_known b)
        (next_pick w.events (next_event w b c) sound.numbered refl (seen_by w b) few (let i = sound.few in let j = a.0 in omega arith) refl (seen_only w sound b))
        (record { number = refl; branch = refl; made = refl }) (head_stands b head v a.0 a.1.1 read)

    change_kept : (o : Outcome) → past k' ≡ follow w (Act (Change b c)) o → ChangeTried m R k b c o k' → Kept m R k (Act (Change b c)) o k'
    change_kept o p (ChangeTried.refused f q oq kq) = record { as_defined = oq ∙ sym (changing_then (Err f) q); held = same_held kq }
    change_kept o p (ChangeTried.unkind head v x f q read duty oq kq) = record {
      as_defined = oq ∙ changed_verdict m R w b c (Err f) x (change_met head v x (Err f) q read duty) ∙ sym (changing_then (Ok head) q);
      held = same_held kq;
    }
    change_kept o p (ChangeTried.made head v x reply q read duty oq kq) =
        let met = change_met head v x (Ok reply) q read duty in
        let stands = change_stands m R (history_of w b) (next_event w b c) reply x met in
        let e = next_event w b c in
        record {
          as_defined = oq ∙ ap (λ n. Ok (ChangeMade n reply)) made ∙ changed_verdict m R w b c (Ok reply) x met ∙ sym (changing_then (Ok head) q);
          held = held_as (advance w (Change b c)) (set k.values (length w.versions) x) (p ∙ ap (follow w (Act (Change b c))) oq)
              (ap (λ (z : Memory A). z.values) kq ∙ ap (λ n. set k.values n x) made)
              (by_last (λ f. m.knows f.change ≡ true) w.events e held.known stands.0)
              (valued_push R w.events (w.events ++ (e ∷ [])) w.versions k.values (with_event (seen_by w b) (length w.events + 1)) x
              (All-from_get_or (λ s. pick s w.events ≡ pick s (w.events ++ (e ∷ []))) w.versions nothing (λ i l.
              sym (pick_before w.events e sound.numbered refl (get_or w.versions i nothing) (version_only w sound i))))
              held.values (let l = room (changing_ok k.book.usable w b head q).1.0 in omega arith)
              (subst (R x) (sym (pick_with w.events e sound.numbered refl (seen_by w b))) stands.1));
        }

  module _ (d s : ℕ) where
    merging_then : (r : Result Meeting StoreFault) → merging k.book.usable w d s ≡ r → outcome m k.book.usable w (Act (Merge d s)) ≡ and_then r (met_outcome m w d s)
    merging_then r q = ap (λ (r : Result Meeting StoreFault). and_then r (met_outcome m w d s)) q

    -- the base has seen just what both branches have seen
    base_stands : (base : ℕ) (x : A) → stored w.events (both w d s) w.versions ≡ true → base ≡ lowest w.events (both w d s) w.versions → Reads k base x →
        R x (pick (both w d s) w.events)
    base_stands base x t q read =
        let i = lowest w.events (both w d s) w.versions in
        let low = lowest_same w.events (both w d s) w.versions t in
        subst (R x) (pick_same (get_or w.versions i nothing) (both w d s) w.events (λ e j.
        same_is w.events (get_or w.versions i nothing) (both w d s) (version_only w sound i) (both_only w sound d s) low.1 e.number))
        (valued_at R w.events w.versions k.values i x held.values low.0 (subst (λ j. x ≡ get_or k.values j x) q read.1))

    merge_met : (base first second : ℕ) (x y z : A) (r : Result A KindFault) → Parted k.book.usable w d s (Apart base first second) → Reads k base x → Reads k first y → Reads k second z →
        Merges m R x y z r → Merged m R (pick (joined (seen_by w d) (seen_by w s)) w.events) r
    merge_met base first second x y z r a rx ry rz duty =
        let q = a.named in
        let q0 : base ≡ lowest w.events (both w d s) w.versions = cc in
        let q1 : first ≡ get_or w.heads d 0 = cc in
        let q2 : second ≡ get_or w.heads s 0 = cc in
        duty w.events (seen_by w d) (seen_by w s) sound.history held.known (seen_closed w sound d) (seen_closed w sound s)
        (base_stands base x a.based q0 rx) (head_stands d first y a.into q1 ry) (head_stands s second z a.source q2 rz)

    merge_kept : (o : Outcome) → past k' ≡ follow w (Act (Merge d s)) o → MergeTried m R k d s o k' → Kept m R k (Act (Merge d s)) o k'
    merge_kept o p (MergeTried.refused f q oq kq) = record { as_defined = oq ∙ sym (merging_then (Err f) q); held = same_held kq }
    merge_kept o p (MergeTried.idle head q oq kq) = record { as_defined = oq ∙ sym (merging_then (Ok (Met head)) q); held = same_held kq }
    merge_kept o p (MergeTried.unkind base first second x y z f q rx ry rz duty oq kq) =
        let a = merging_apart k.book.usable w d s base first second q in
        record {
          as_defined = oq ∙ merged_verdict m R w d s (Err f) (merge_met base first second x y z (Err f) a.1 rx ry rz duty) ∙ sym (merging_then (Ok (Apart base first second)) q);
          held = same_held kq;
        }
    merge_kept o p (MergeTried.made base first second x y z new q rx ry rz duty oq kq) =
        let a = merging_apart k.book.usable w d s base first second q in
        let met = merge_met base first second x y z (Ok new) a.1 rx ry rz duty in
        record {
          as_defined = oq ∙ ap (λ n. Ok (VersionMade n)) made ∙ merged_verdict m R w d s (Ok new) met ∙ sym (merging_then (Ok (Apart base first second)) q);
          held = held_as (advance w (Merge d s)) (set k.values (length w.versions) new)
              (p ∙ ap (follow w (Act (Merge d s))) oq ∙ ap (λ (t : Bool). advances w (cond t [] (Merge d s ∷ []))) a.0)
              (ap (λ (z : Memory A). z.values) kq ∙ ap (λ n. set k.values n new) made)
              held.known
              (valued_push R w.events w.events w.versions k.values (joined (seen_by w d) (seen_by w s)) new
              (All-from_get_or (λ s. pick s w.events ≡ pick s w.events) w.versions nothing (λ i l. refl))
              held.values (let l = room a.1.room in omega arith)
              (merge_stands m R (pick (joined (seen_by w d) (seen_by w s)) w.events) new met));
        }

  ask_kept : (b : ℕ) (q : Question) (o : Outcome) → AskTried m R k b q o k' → Kept m R k (Ask b q) o k'
  ask_kept b q o (AskTried.refused f e oq kq) = record { as_defined = oq ∙ sym (ap (λ (r : Result ℕ StoreFault). and_then r (λ head. question_verdict m w b q)) e); held = same_held kq }
  ask_kept b q o (AskTried.said head v r e read duty oq kq) =
      let a = asking_ok w b head e in
      record {
        as_defined = oq
            ∙ by_bool (m.hears q)
            (λ t. ap answered (duty.known t (history_of w b) (head_history b) (head_known b) (head_stands b head v a.0 a.1 read)) ∙ sym (asked_yes (m.hears q) _ _ t))
            (λ t. ap answered (duty.unknown t) ∙ sym (asked_no (m.hears q) _ _ t))
            ∙ sym (ap (λ (r : Result ℕ StoreFault). and_then r (λ head. question_verdict m w b q)) e);
        held = same_held kq;
      }

pub tried_kept : {A : Type 0} (m : Meaning) (R : A → List Event → Type 0) (k k' : Memory A) (c : Call) (o : Outcome) → Sound (past k) → k.book.usable ≤ 4096 →
    k.book.made ≡ length (past k).versions → (length (past k).versions < k.book.usable → k.book.made < length k.values) →
    past k' ≡ follow (past k) c o → Tried m R k c o k' → Held m R k → Kept m R k c o k'
tried_kept m R k k' (Act (Fork v)) o sound small made room p t held = fork_kept m R k k' sound small made room held v o p t
tried_kept m R k k' (Act (Change b c)) o sound small made room p t held = change_kept m R k k' sound small made room held b c o p t
tried_kept m R k k' (Act (Merge d s)) o sound small made room p t held = merge_kept m R k k' sound small made room held d s o p t
tried_kept m R k k' (Ask b q) o sound small made room p t held = ask_kept m R k k' sound small made room held b q o t
