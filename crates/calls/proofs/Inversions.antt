-- What the answers to a store's own questions tell.
use Rattle.std.proofs.Common.{◌≡◌, ℕ, ◌<◌, Bool, true, false, cond, ltb, length, get_or, Ok, Err, Result, sym, refl, ◌∙◌, arith}
use Rattle.std.proofs.lemmas.Bool.{both_ways, ltb-true, cond-false}
use Rattle.calls.specs.declared.calls.Meeting.{Meeting}
use Rattle.calls.specs.declared.calls.Meeting.TheVariants.{Seen as Met, Apart}
use Rattle.calls.specs.declared.calls.Reply.{Reply}
use Rattle.calls.specs.declared.fault.StoreFault.{StoreFault}
use Rattle.calls.specs.declared.fault.StoreFault.TheVariants.{NoVersion, NotStored, BranchesFull, NoBranch, NoSource, VersionsFull, NoBase}
use Rattle.calls.specs.World.{World, seen_by, inside, stored, lowest}
use Rattle.calls.specs.Outcome.{Outcome, asked, spare, forking, asking, changing, merging, and_then}
use Rattle.calls.proofs.Worlds.{both}

pub asked_yes : {A : Type 0} (t : Bool) (f : StoreFault) (n : Result A StoreFault) → t ≡ true → asked t f n ≡ n
asked_yes true f n h = refl
asked_yes false f n h = absurd (both_ways false refl h)

pub asked_no : {A : Type 0} (t : Bool) (f : StoreFault) (n : Result A StoreFault) → t ≡ false → asked t f n ≡ Err f
asked_no true f n h = absurd (both_ways true h refl)
asked_no false f n h = refl

pub asked_ok : {A : Type 0} (t : Bool) (f : StoreFault) (n : Result A StoreFault) (a : A) → asked t f n ≡ Ok a → (t ≡ true) × (n ≡ Ok a)
asked_ok true f n a h = (refl, h)
asked_ok false f n a h = absurd (let z : ◌≡◌ {A = ℕ} 0 1 = cc in omega arith)

pub and_then_ok : {A : Type 0} (r : Result A StoreFault) (next : A → Outcome) (reply : Reply) → and_then r next ≡ Ok reply →
    (a : A) × ((r ≡ Ok a) × (next a ≡ Ok reply))
and_then_ok (Ok a) next reply h = (a, (refl, h))
and_then_ok (Err f) next reply h = absurd (let z : ◌≡◌ {A = ℕ} 0 1 = cc in omega arith)

ok_same : {A : Type 0} (a b : A) → ◌≡◌ {A = Result A StoreFault} (Ok a) (Ok b) → b ≡ a
ok_same a b h = cc

pub forking_ok : (w : World) (v b : ℕ) → forking w v ≡ Ok b → (v < length w.versions) × (length w.heads < 16)
forking_ok w v b h =
    let p = asked_ok (ltb 0 (length w.versions)) NoVersion _ b h in
    let q = asked_ok (ltb v (length w.versions)) (NotStored v) _ b p.1 in
    let r = asked_ok (ltb (length w.heads) 16) BranchesFull _ b q.1 in
    (ltb-true v (length w.versions) q.0, ltb-true (length w.heads) 16 r.0)

pub asking_ok : (w : World) (b head : ℕ) → asking w b ≡ Ok head → (b < length w.heads) × (head ≡ get_or w.heads b 0)
asking_ok w b head h =
    let p = asked_ok (ltb 0 (length w.versions)) NoVersion _ head h in
    let q = asked_ok (ltb b (length w.heads)) (NoBranch b) _ head p.1 in
    (ltb-true b (length w.heads) q.0, ok_same (get_or w.heads b 0) head q.1)

pub changing_ok : (V : ℕ) (w : World) (b head : ℕ) → changing V w b ≡ Ok head →
    (b < length w.heads) × ((length w.versions < V) × (head ≡ get_or w.heads b 0))
changing_ok V w b head h =
    let p = asked_ok (ltb 0 (length w.versions)) NoVersion _ head h in
    let q = asked_ok (ltb b (length w.heads)) (NoBranch b) _ head p.1 in
    let r = asked_ok (ltb (length w.versions) V) (VersionsFull b) _ head q.1 in
    (ltb-true b (length w.heads) q.0, (ltb-true (length w.versions) V r.0, ok_same (get_or w.heads b 0) head r.1))

module _ (V : ℕ) (w : World) (d s : ℕ) where
  -- a merge past the questions for its branches
  abbrev pub meeting : Result Meeting StoreFault
  meeting = cond (inside w.events (seen_by w s) (seen_by w d)) (Ok (Met (get_or w.heads d 0)))
      (asked (stored w.events (both w d s) w.versions) (NoBase d)
      (spare V w d (Ok (Apart (lowest w.events (both w d s) w.versions) (get_or w.heads d 0) (get_or w.heads s 0)))))

  merging_ok : (a : Meeting) → merging V w d s ≡ Ok a → (d < length w.heads) × ((s < length w.heads) × (meeting ≡ Ok a))
  merging_ok a h =
      let p = asked_ok (ltb 0 (length w.versions)) NoVersion _ a h in
      let q = asked_ok (ltb d (length w.heads)) (NoBranch d) _ a p.1 in
      let r = asked_ok (ltb s (length w.heads)) (NoSource s) _ a q.1 in
      (ltb-true d (length w.heads) q.0, (ltb-true s (length w.heads) r.0, r.1))

  -- a merge that makes a version
  pub record Parted (a : Meeting) : Type 0 where
    pub into : d < length w.heads
    pub source : s < length w.heads
    pub based : stored w.events (both w d s) w.versions ≡ true
    pub room : length w.versions < V
    pub named : a ≡ Apart (lowest w.events (both w d s) w.versions) (get_or w.heads d 0) (get_or w.heads s 0)

  pub merging_parted : (a : Meeting) → inside w.events (seen_by w s) (seen_by w d) ≡ false → merging V w d s ≡ Ok a → Parted a
  merging_parted a out h =
      let p = merging_ok a h in
      let q = asked_ok (stored w.events (both w d s) w.versions) (NoBase d) _ a (sym (cond-false (inside w.events (seen_by w s) (seen_by w d)) _ _ out) ∙ p.1.1) in
      let r = asked_ok (ltb (length w.versions) V) (VersionsFull d) _ a q.1 in
      record {
        into = p.0;
        source = p.1.0;
        based = q.0;
        room = ltb-true (length w.versions) V r.0;
        named = ok_same _ a r.1;
      }

  pub merging_apart : (base first second : ℕ) → merging V w d s ≡ Ok (Apart base first second) →
      (inside w.events (seen_by w s) (seen_by w d) ≡ false) × Parted (Apart base first second)
  merging_apart base first second h =
      let out = go (inside w.events (seen_by w s) (seen_by w d)) _ (merging_ok (Apart base first second) h).1.1 in
      (out, merging_parted (Apart base first second) out h)
    where
      go : (t : Bool) (next : Result Meeting StoreFault) → cond t (Ok (Met (get_or w.heads d 0))) next ≡ Ok (Apart base first second) → t ≡ false
      go true next e = absurd (let z : ◌≡◌ {A = ℕ} 0 1 = cc in omega arith)
      go false next e = refl

  -- a merge that makes nothing
  pub merging_met : (head : ℕ) → merging V w d s ≡ Ok (Met head) →
      (inside w.events (seen_by w s) (seen_by w d) ≡ true) × ((d < length w.heads) × (head ≡ get_or w.heads d 0))
  merging_met head h =
      let p = merging_ok (Met head) h in
      let q = go (inside w.events (seen_by w s) (seen_by w d)) (stored w.events (both w d s) w.versions) (ltb (length w.versions) V)
      (lowest w.events (both w d s) w.versions) (get_or w.heads s 0) p.1.1 in
      (q.0, (p.0, q.1))
    where
      go : (t u r : Bool) (i j : ℕ) →
          cond t (Ok (Met (get_or w.heads d 0))) (asked u (NoBase d) (asked r (VersionsFull d) (Ok (Apart i (get_or w.heads d 0) j)))) ≡ Ok (Met head) →
          (t ≡ true) × (head ≡ get_or w.heads d 0)
      go true u r i j e = (refl, cc)
      go false true true i j e = absurd (let z : ◌≡◌ {A = ℕ} 0 1 = cc in omega arith)
      go false true false i j e = absurd (let z : ◌≡◌ {A = ℕ} 0 1 = cc in omega arith)
      go false false r i j e = absurd (let z : ◌≡◌ {A = ℕ} 0 1 = cc in omega arith)
