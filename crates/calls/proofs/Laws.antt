-- A log in which each call has its defined outcome is lawful.
use Rattle.std.proofs.Common.{◌≡◌, ℕ, ◌<◌, ◌≤◌, Bool, true, false, cond, ◌&&◌, ltb, ◌⊎◌, List, [], ◌∷◌, ◌++◌, length, get_or, Ok, Err, Result, sym, refl, ap, ◌∙◌, subst, inl, inr, ⊎_elim, arith}
use mathlib.Core.Path.{fun_ext}
use Rattle.std.proofs.lemmas.List.{append_assoc, append-nil}
use Rattle.std.proofs.lemmas.Bool.{both_ways, and_parts, and_from, lt-ltb}
use Rattle.kinds.specs.Events.{Seen, Event, common, joined, nothing, pick}
use Rattle.kinds.specs.Meaning.{Meaning}
use Rattle.kinds.specs.declared.calls.Question.{Question}
use Rattle.kinds.specs.declared.fault.KindFault.{KindFault}
use Rattle.kinds.specs.declared.fault.KindFault.TheVariants.{DoesNotFit, UnknownQuestion}
use Rattle.kinds.proofs.Picks.{by_bool}
use Rattle.calls.specs.declared.calls.Action.TheVariants.{Fork, Change, Merge}
use Rattle.calls.specs.declared.calls.Call.{Call}
use Rattle.calls.specs.declared.calls.Call.TheVariants.{Act, Ask}
use Rattle.calls.specs.declared.calls.Meeting.{Meeting}
use Rattle.calls.specs.declared.calls.Meeting.TheVariants.{Seen as Met, Apart}
use Rattle.calls.specs.declared.calls.Reply.{Reply}
use Rattle.calls.specs.declared.calls.Reply.TheVariants.{Branch, Version, Answer}
use Rattle.calls.specs.declared.fault.StoreFault.{StoreFault}
use Rattle.calls.specs.declared.fault.StoreFault.TheVariants.{NoVersion, NoBranch, NoSource, VersionsFull, NoBase, OfKind}
use Rattle.calls.specs.World.{World, opened, seen_by, next_event, history_of, inside, stored, lowest}
use Rattle.calls.specs.Outcome.{Outcome, asked, changing, forking, merging, and_then, met_outcome, change_verdict, question_verdict, outcome}
use Rattle.calls.specs.Run.{Log, At, advances, follow, after, Same, Lawful}
use Rattle.calls.specs.Run.At.{first, later}
use Rattle.calls.proofs.Prefixes.{Numbered}
use Rattle.calls.proofs.Counted.{both_same, inside_only, same_from, same_is, pick_earlier}
use Rattle.calls.proofs.Worlds.{Sound, sound_opened, sound_advance, both, version_only, seen_only, both_only}
use Rattle.calls.proofs.Questions.{stored_at, lowest_same}
use Rattle.calls.proofs.Inversions.{asked_yes, and_then_ok, forking_ok, changing_ok, meeting, merging_parted}

-- each call of a log has the outcome that is defined for it
abbrev pub Defined : Meaning → ℕ → World → Log → Type 0
Defined m V w [] = Unit {0}
Defined m V w (x ∷ xs) = (x.1 ≡ outcome m V w x.0) × Defined m V (follow w x.0 x.1) xs

-- ---- an accepted call is a possible step
module _ (m : Meaning) (V : ℕ) (small : V ≤ 4096) where
  pub sound_follow : (w : World) (c : Call) (o : Outcome) → Sound w → o ≡ outcome m V w c → Sound (follow w c o)
  sound_follow w c (Err f) h q = h
  sound_follow w (Act (Fork v)) (Ok r) h q =
      let p = and_then_ok (forking w v) (λ b. Ok (Branch b)) r (sym q) in
      let k = forking_ok w v p.0 p.1.0 in
      sound_advance V w (Fork v) small h
      (and_from (ltb v (length w.versions)) (ltb (length w.heads) 16) (lt-ltb v (length w.versions) k.0) (lt-ltb (length w.heads) 16 k.1))
  sound_follow w (Act (Change b c)) (Ok r) h q =
      let p = and_then_ok (changing V w b) (λ head. change_verdict m w b c) r (sym q) in
      let k = changing_ok V w b p.0 p.1.0 in
      sound_advance V w (Change b c) small h
      (and_from (ltb b (length w.heads)) (ltb (length w.versions) V) (lt-ltb b (length w.heads) k.0) (lt-ltb (length w.versions) V k.1.0))
  sound_follow w (Act (Merge d s)) (Ok r) h q =
      let p = and_then_ok (merging V w d s) (met_outcome m w d s) r (sym q) in
      by_bool (inside w.events (seen_by w s) (seen_by w d))
      (λ t. subst (λ (x : Bool). Sound (advances w (cond x [] (Merge d s ∷ [])))) (sym t) h)
      (λ f. subst (λ (x : Bool). Sound (advances w (cond x [] (Merge d s ∷ [])))) (sym f)
      (let k = merging_parted V w d s p.0 f p.1.0 in
      sound_advance V w (Merge d s) small h
      (and_from (ltb d (length w.heads)) (ltb s (length w.heads) && ltb (length w.versions) V) (lt-ltb d (length w.heads) k.into)
      (and_from (ltb s (length w.heads)) (ltb (length w.versions) V) (lt-ltb s (length w.heads) k.source) (lt-ltb (length w.versions) V k.room)))))
  sound_follow w (Ask b q) (Ok r) h e = h

  at_defined : {run before : Log} {c : Call} {o : Outcome} → At run before c o → (w : World) → Defined m V w run → Sound w →
      (o ≡ outcome m V (after w before) c) × Sound (after w before)
  at_defined first w d s = (d.0, s)
  at_defined (later {x} a) w d s = at_defined a (follow w x.0 x.1) d.1 (sound_follow w x.0 x.1 s d.0)

-- ---- the questions for branches, where these are there
some_version : (w : World) → Sound w → (b : ℕ) → b < length w.heads → ltb 0 (length w.versions) ≡ true
some_version w h b l = let p = h.headed b l in lt-ltb 0 (length w.versions) (omega arith)

question_is : (m : Meaning) (V : ℕ) (w : World) → Sound w → (b : ℕ) (q : Question) → b < length w.heads → outcome m V w (Ask b q) ≡ question_verdict m w b q
question_is m V w h b q l =
    ap (λ (r : Result ℕ StoreFault). and_then r (λ head. question_verdict m w b q))
    (asked_yes (ltb 0 (length w.versions)) NoVersion _ (some_version w h b l) ∙ asked_yes (ltb b (length w.heads)) (NoBranch b) _ (lt-ltb b (length w.heads) l))

merge_is : (m : Meaning) (V : ℕ) (w : World) → Sound w → (d s : ℕ) → d < length w.heads → s < length w.heads →
    outcome m V w (Act (Merge d s)) ≡ and_then (meeting V w d s) (met_outcome m w d s)
merge_is m V w h d s dl sl =
    ap (λ (r : Result Meeting StoreFault). and_then r (met_outcome m w d s))
    (asked_yes (ltb 0 (length w.versions)) NoVersion _ (some_version w h d dl)
    ∙ asked_yes (ltb d (length w.heads)) (NoBranch d) _ (lt-ltb d (length w.heads) dl)
    ∙ asked_yes (ltb s (length w.heads)) (NoSource s) _ (lt-ltb s (length w.heads) sl))

-- ---- events are only added
abbrev Ext : World → World → Type 0
Ext w w' = (more : List Event) × (w'.events ≡ w.events ++ more)

ext_refl : (w : World) → Ext w w
ext_refl w = ([], sym (append-nil w.events))

ext_trans : (a b c : World) → Ext a b → Ext b c → Ext a c
ext_trans a b c p q = (p.0 ++ q.0, q.1 ∙ ap (λ (l : List Event). l ++ q.0) p.1 ∙ append_assoc a.events p.0 q.0)

ext_follow : (w : World) (c : Call) (o : Outcome) → Ext w (follow w c o)
ext_follow w c (Err f) = ext_refl w
ext_follow w (Act (Fork v)) (Ok r) = ext_refl w
ext_follow w (Act (Change b c)) (Ok r) = (next_event w b c ∷ [], refl)
ext_follow w (Act (Merge d s)) (Ok r) =
    elim (inside w.events (seen_by w s) (seen_by w d)) as (λ t. Ext w (advances w (cond t [] (Merge d s ∷ [])))) [ true ↦ ext_refl w | false ↦ ext_refl w ]
ext_follow w (Ask b q) (Ok r) = ext_refl w

ext_after : (w : World) (xs : Log) → Ext w (after w xs)
ext_after w [] = ext_refl w
ext_after w (x ∷ xs) = ext_trans w (follow w x.0 x.1) (after (follow w x.0 x.1) xs) (ext_follow w x.0 x.1) (ext_after (follow w x.0 x.1) xs)

at_order : {run before before' : Log} {c c' : Call} {o o' : Outcome} → At run before c o → At run before' c' o' → (w : World) →
    Ext (after w before) (after w before') ⊎ Ext (after w before') (after w before)
at_order {before' = before'} first p w = inl (ext_after w before')
at_order {before = x ∷ before} (later p) first w = inr (ext_after w (x ∷ before))
at_order (later {x} p) (later q) w = at_order p q (follow w x.0 x.1)

-- the same events, of a world and of one that came of it
same_history : (w w' : World) (b b' : ℕ) → Sound w → Sound w' → Ext w w' → Same (seen_by w b) (seen_by w' b') → history_of w b ≡ history_of w' b'
same_history w w' b b' h h' x s =
    sym (
    ap (λ (z : Seen). pick z w'.events) (sym (fun_ext s))
    ∙ ap (pick (seen_by w b)) x.1
    ∙ pick_earlier w.events x.0 h.numbered (subst (Numbered 0) x.1 h'.numbered) (seen_by w b) (seen_only w h b))

-- ---- when a base is missing
module _ (m : Meaning) (V : ℕ) where
  not_no_base : (d n : ℕ) (t : Bool) (f : KindFault) → asked {A = Reply} t (OfKind f) (Ok (Version n)) ≡ Err (NoBase d) → ⊥
  not_no_base d n true f h = let z : ◌≡◌ {A = ℕ} 0 1 = cc in omega arith
  not_no_base d n false f h = let z : ◌≡◌ {A = ℕ} 0 1 = cc in omega arith

  no_base_only : (w : World) → Sound w → (d s : ℕ) (o : Outcome) → o ≡ outcome m V w (Act (Merge d s)) → d < length w.heads → s < length w.heads →
      (o ≡ Err (NoBase d)) → (v : ℕ) → v < length w.versions → Same (get_or w.versions v nothing) (common (seen_by w d) (seen_by w s)) → ⊥
  no_base_only w h d s o q dl sl e v l sm =
      go (inside w.events (seen_by w s) (seen_by w d)) (stored w.events (both w d s) w.versions) (ltb (length w.versions) V)
      (stored_at w.events (both w d s) w.versions v l (same_from w.events (get_or w.versions v nothing) (both w d s) sm))
      (sym (merge_is m V w h d s dl sl) ∙ sym q ∙ e)
    where
      go : (x y z : Bool) → y ≡ true →
          and_then (cond x (Ok (Met (get_or w.heads d 0)))
          (asked y (NoBase d) (asked z (VersionsFull d) (Ok (Apart (lowest w.events (both w d s) w.versions) (get_or w.heads d 0) (get_or w.heads s 0))))))
          (met_outcome m w d s) ≡ Err (NoBase d) → ⊥
      go true y z p e = let z : ◌≡◌ {A = ℕ} 0 1 = cc in omega arith
      go false true true p e =
          not_no_base d (length w.versions) (m.fits (pick (joined (seen_by w d) (seen_by w s)) w.events))
          (DoesNotFit (m.misfit (pick (joined (seen_by w d) (seen_by w s)) w.events))) e
      go false true false p e = let z : ◌≡◌ {A = ℕ} 0 1 = cc in omega arith
      go false false z p e = both_ways false refl p

  no_base_since : (w : World) → Sound w → (d s : ℕ) (o : Outcome) → o ≡ outcome m V w (Act (Merge d s)) → d < length w.heads → s < length w.heads →
      ((v : ℕ) → v < length w.versions → Same (get_or w.versions v nothing) (common (seen_by w d) (seen_by w s)) → ⊥) → o ≡ Err (NoBase d)
  no_base_since w h d s o q dl sl n =
      q ∙ merge_is m V w h d s dl sl
      ∙ go (inside w.events (seen_by w s) (seen_by w d)) (stored w.events (both w d s) w.versions) _
      (λ t. n (get_or w.heads s 0) (h.headed s sl) (all_in t))
      (λ t. let r = lowest_same w.events (both w d s) w.versions t in
      let i = lowest w.events (both w d s) w.versions in
      n i r.0 (same_is w.events (get_or w.versions i nothing) (both w d s) (version_only w h i) (both_only w h d s) r.1))
    where
      go : (x y : Bool) (next : Result Meeting StoreFault) → (x ≡ true → ⊥) → (y ≡ true → ⊥) →
          and_then (cond x (Ok (Met (get_or w.heads d 0))) (asked y (NoBase d) next)) (met_outcome m w d s) ≡ Err (NoBase d)
      go true y next p q = absurd (p refl)
      go false true next p q = absurd (q refl)
      go false false next p q = refl

      all_in : inside w.events (seen_by w s) (seen_by w d) ≡ true → Same (seen_by w s) (common (seen_by w d) (seen_by w s))
      all_in t k = both_same (seen_by w s k) (seen_by w d k && seen_by w s k)
          (λ u. and_from (seen_by w d k) (seen_by w s k) (inside_only w.events (seen_by w s) (seen_by w d) (seen_only w h s) t k u) u)
          (λ u. (and_parts (seen_by w d k) (seen_by w s k) u).1)

  pub lawful : V ≤ 4096 → (run : Log) → Defined m V (opened V) run → Lawful m V run
  lawful small run def = record {
    as_defined = λ {before} {c} {o} a. (got a).0;
    by_history = λ {before} {b} {q} {o} a l t.
        let p = got a in
        p.0 ∙ question_is m V (after (opened V) before) p.1 b q l ∙ asked_yes (m.hears q) (OfKind (UnknownQuestion q.place)) _ t;
    alike = λ {before} {before'} {b} {b'} {q} {o} {o'} a a' l l' s.
        let p = got a in
        let p' = got a' in
        let w = after (opened V) before in
        let w' = after (opened V) before' in
        let same-h : history_of w b ≡ history_of w' b' =
        ⊎_elim (λ (x : Ext w w'). same_history w w' b b' p.1 p'.1 x s) (λ (x : Ext w' w). sym (same_history w' w b' b p'.1 p.1 x (λ n. sym (s n)))) (at_order a a' (opened V)) in
        p.0 ∙ question_is m V w p.1 b q l
        ∙ ap (λ (h : List Event). asked (m.hears q) (OfKind (UnknownQuestion q.place)) (Ok (Answer (m.answer h q)))) same-h
        ∙ sym (question_is m V w' p'.1 b' q l') ∙ sym p'.0;
    no_base = λ {before} {d} {s} {o} a dl sl.
        let p = got a in
        let w = after (opened V) before in
        (no_base_only w p.1 d s o p.0 dl sl, no_base_since w p.1 d s o p.0 dl sl);
  }
    where
      got : {before : Log} {c : Call} {o : Outcome} → At run before c o → (o ≡ outcome m V (after (opened V) before) c) × Sound (after (opened V) before)
      got a = at_defined m V small a (opened V) def (sound_opened V)
