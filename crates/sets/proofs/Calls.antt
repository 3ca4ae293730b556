-- What the calls of the set owe, from what its rows are.
use Rattle.std.proofs.Common.{◌≡◌, ℕ, ◌<◌, ◌≤◌, Bool, true, false, not, eqb, List, [], ◌∷◌, ◌++◌, length, take, ℤ, pos, Some, Ok, Err, filter, Result, MatchResult, sym, refl, ap, ◌∙◌, arith, eq-eqb}
use Rattle.std.specs.List.{list_any}
use Rattle.std.specs.Result.{IsOkAnd}
use Rattle.std.proofs.lemmas.Bool.{both_ways}
use Rattle.kinds.specs.Events.{Event, Seen, pick, common, joined}
use Rattle.kinds.specs.History.{History, Closed, Next}
use Rattle.kinds.specs.Duties.{Answers, Changed, Changes, Merges, Merged, Stamped}
use Rattle.kinds.specs.declared.calls.Change.{Change}
use Rattle.kinds.specs.declared.calls.Question.{Question}
use Rattle.kinds.specs.declared.calls.Stamp.{Stamp}
use Rattle.kinds.specs.declared.fault.KindFault.{KindFault}
use Rattle.kinds.specs.declared.fault.KindFault.TheVariants.{DoesNotFit}
use Rattle.kinds.proofs.Outcomes.{ok_not_err}
use Rattle.rows.specs.Lists.{natural}
use Rattle.rows.specs.Walk.{Joins}
use Rattle.rows.proofs.Turns.{joins_some}
use Rattle.rows.proofs.Walks.{walked_joined}
use Rattle.sets.specs.Set.{object, member, bit, object_set}
use Rattle.sets.specs.Table.{by_object_then_branch, mark_key, same_mark, in_order, join_of, row_of, table}
use Rattle.sets.specs.Form.{Checked, Fitted, Holds, Represents}
use Rattle.sets.specs.declared.marks.Mark.{Mark}
use Rattle.sets.specs.declared.marks.SetForm.{SetForm}
use Rattle.sets.proofs.Orders.{total_keys}
use Rattle.sets.specs.Fitting.{fitting}
use Rattle.sets.proofs.Members.{member_is}
use Rattle.sets.proofs.Longer.{marked_table, cleared_table, merged_table, too_many}

-- ---- a value made from what a join wrote
pub made : {x y z before out : List Mark} {n : ℕ} → length before ≡ 96 → in_order x ≡ true → in_order y ≡ true → in_order z ≡ true →
    Joins by_object_then_branch mark_key same_mark x y z before out (Some n) → (n ≤ 96) × (in_order (take n out) ≡ true) × (take n out ≡ join_of x y z)
made {x} {y} {z} {before} {out} {n} long px py pz j =
    let l = joins_some by_object_then_branch mark_key same_mark x y z before out n j in (
      omega (arith, l.0),
      rw l.1 (walked_joined by_object_then_branch total_keys mark_key same_mark x y z px py pz).rising,
      l.1,
    )

-- ---- the duties
-- the rows that a form holds are those of the history that it stands for
rows_are : {v : SetForm} {xs : List Mark} {h : List Event} → Holds v xs → Represents v h → xs ≡ table h
rows_are s r = sym s.same ∙ r.rows

stands : {v : SetForm} {xs : List Mark} (h : List Event) → Holds v xs → xs ≡ table h → Represents v h
stands h s e = record { count = s.count; rising = rw s.same s.rising; rows = s.same ∙ e }

held_is : (h : List Event) → History h → (o : ℕ) {xs : List Mark} → xs ≡ table h → (held : Bool) → held ≡ list_any (λ (y : Mark). eqb y.object o) xs → held ≡ member h o
held_is h hist o q held e = e ∙ ap (list_any (λ (y : Mark). eqb y.object o)) q ∙ member_is h hist o

pub answers : {v : SetForm} {q : Question} {o : ℕ} (held : Bool) (r : Result (List Mark) KindFault) → object_set.hears q ≡ true → q.argument ≡ pos o → Checked v r →
    MatchResult r (λ xs. held ≡ list_any (λ (y : Mark). eqb y.object o) xs) (λ _. held ≡ false) → {z : Result ℤ KindFault} → z ≡ Ok (bit held) → Answers object_set Represents v q z
answers {v} {q} {o} held r hears arg checked e ez = record {
  known = λ _ h hist k s. ez ∙ ap (λ b. Ok (bit b)) (go r checked e h hist s ∙ ap (λ a. member h (natural a)) (sym arg));
  unknown = λ n. absurd (both_ways (object_set.hears q) n hears);
}
  where
    go : (r : Result (List Mark) KindFault) → Checked v r → MatchResult r (λ xs. held ≡ list_any (λ (y : Mark). eqb y.object o) xs) (λ _. held ≡ false) →
        (h : List Event) → History h → Represents v h → held ≡ member h o
    go (Ok xs) c e h hist s = held_is h hist o (rows_are c s) held e
    go (Err f) c e h hist s = absurd (c.1 s.count s.rising)

module _ {base first second : SetForm} {x y z : List Mark} (hb : Holds base x) (hf : Holds first y) (hs : Holds second z) where
  joined_rows : (w : List Event) (a b : Seen) → History w → Closed a w → Closed b w →
      Represents base (pick (common a b) w) → Represents first (pick a w) → Represents second (pick b w) → join_of x y z ≡ table (pick (joined a b) w)
  joined_rows w a b hist ca cb rb rf rs = rw (rows_are hb rb, rows_are hf rf, rows_are hs rs) (merged_table w hist a b ca cb)

  pub merges : (r : Result (List Mark) KindFault) → Fitted (join_of x y z) r → (m : Result SetForm KindFault) → MatchResult r (λ l. IsOkAnd m (λ v. Holds v l)) (λ f. m ≡ Err f) →
      Merges object_set Represents base first second m
  merges (Ok l) f (Ok v) e = λ w a b hist known ca cb rb rf rs.
      let s : Represents v (pick (joined a b) w) = stands _ e (f ∙ joined_rows w a b hist ca cb rb rf rs) in
      Merged.done v (fitting v _ s) refl s
  merges (Ok l) f (Err g) e = absurd e
  merges (Err g) f m e = λ w a b hist known ca cb rb rf rs.
      Merged.misfit (too_many (pick (joined a b) w) (join_of x y z) (joined_rows w a b hist ca cb rb rf rs) f.1) (e ∙ ap Err f.0)

module _ {was : SetForm} (stamp : Stamp) (ch : Change) {o : ℕ} {x : List Mark} (knows : object_set.knows ch ≡ true) (arg : ch.argument ≡ pos o) (hx : Holds was x) where
  abbrev row : Mark
  row = record { object = o; branch = stamp.branch; event = stamp.event }

  object_is : (e : Event) → Stamped stamp ch e → object e ≡ o
  object_is e s = ap (λ c. natural c.argument) s.made ∙ ap natural arg

  row_is : (e : Event) → Stamped stamp ch e → row ≡ row_of e
  row_is e s = let a = object_is e s in sym (λ i. record { object = a i; branch = s.branch i; event = s.number i })

  knows_e : (e : Event) → Stamped stamp ch e → object_set.knows e.change ≡ true
  knows_e e s = ap object_set.knows s.made ∙ knows

  marked_rows : (h : List Event) (e : Event) → History h → Next h e → Stamped stamp ch e → Represents was h → ch.verb ≡ 1 →
      join_of [] (row ∷ []) x ≡ table (h ++ (e ∷ []))
  marked_rows h e hist next s r v =
      (λ i. join_of [] (row_is e s i ∷ []) (rows_are hx r i))
      ∙ marked_table h hist e next (eq-eqb e.change.verb 1 (ap (λ c. c.verb) s.made ∙ v))

  module _ {held : Bool} {z : Result ℤ KindFault} {now : SetForm} {l : List Mark} (eh : held ≡ list_any (λ (y : Mark). eqb y.object o) x) (ez : z ≡ Ok (bit held)) (hl : Holds now l) where
    accepted : (h : List Event) (e : Event) → History h → Stamped stamp ch e → Represents was h → l ≡ table (h ++ (e ∷ [])) → Changed object_set Represents h e z now
    accepted h e hist s r t =
        let r' : Represents now (h ++ (e ∷ [])) = stands _ hl t in
        Changed.done (knows_e e s) (fitting now (h ++ (e ∷ [])) r')
        (ez ∙ ap (λ b. Ok (bit b)) (held_is h hist o (rows_are hx r) held eh ∙ ap (member h) (sym (object_is e s)))) r'

    unaltered : (f : KindFault) → z ≡ Err f → now ≡ was
    unaltered f e = absurd (ok_not_err (sym ez ∙ e))

    pub changes_mark : ch.verb ≡ 1 → l ≡ join_of [] (row ∷ []) x → Changes object_set Represents was stamp ch z now
    changes_mark v j = record {
      defined = λ h e hist known next s r. accepted h e hist s r (j ∙ marked_rows h e hist next s r v);
      unaltered = unaltered;
    }

    pub changes_clear : ch.verb ≡ 2 → l ≡ filter (λ (y : Mark). not (eqb y.object o)) x → Changes object_set Represents was stamp ch z now
    changes_clear v f = record {
      defined = λ h e hist known next s r.
          let d = object_is e s in
          let c = cleared_table h hist e next (eq-eqb e.change.verb 2 (ap (λ d. d.verb) s.made ∙ v)) in
          accepted h e hist s r (f ∙ (λ i. filter (λ (y : Mark). not (eqb y.object (sym d i))) (rows_are hx r i)) ∙ c);
      unaltered = unaltered;
    }

  pub changes_full : {r : Result ℤ KindFault} → ch.verb ≡ 1 → r ≡ Err (DoesNotFit 0) → 96 < length (join_of [] (row ∷ []) x) → Changes object_set Represents was stamp ch r was
  changes_full v e u = record {
    defined = λ h e' hist known next s t. Changed.misfit (knows_e e' s) (too_many (h ++ (e' ∷ [])) (join_of [] (row ∷ []) x) (marked_rows h e' hist next s t v) u) e;
    unaltered = λ f q. refl;
  }
