-- The opened store.
use Rattle.std.proofs.Common.{◌≡◌, ℕ, zero, suc, ◌<◌, true, List, [], ◌∷◌, length, take, set, replicate, sym, refl, ap, ◌∙◌, subst, arith}
use Rattle.std.proofs.lemmas.List.{take_more_set}
use Rattle.kinds.specs.Events.{Event, nothing, pick}
use Rattle.kinds.specs.Meaning.{Meaning, Known}
use Rattle.kinds.proofs.Picks.{in_none, pick_none}
use Rattle.calls.specs.declared.calls.Step.{Step}
use Rattle.calls.specs.declared.calls.Version.{Version}
use Rattle.calls.specs.World.{World, opened}
use Rattle.store.specs.Held.{Held, Valued}
use Rattle.calls.specs.Counts.{total, record_of, records_of}
use Rattle.calls.specs.Run.{all_possible}
use Rattle.store.specs.Book.{Book, actions, told, world, blank, resized}

abbrev zeros : Version
zeros = record { counts = replicate 16 0 }

zeros_is : zeros ≡ record_of [] nothing
unfolding total pick
zeros_is = refl

pub told_none : (V : ℕ) (ss : List Step) → told V ss 0 ≡ opened V
told_none V [] = refl
told_none V (s ∷ ss) = refl

pub root_possible : (V : ℕ) (ss : List Step) → all_possible V (opened V) (actions ss 0) ≡ true
root_possible V [] = refl
root_possible V (s ∷ ss) = refl

pub root_recorded : (V : ℕ) (vs : List Version) (ss : List Step) → 0 < V → 0 < length vs → take 1 (set vs 0 zeros) ≡ records_of (told V ss 0)
root_recorded zero vs ss some l = absurd (omega arith)
root_recorded (suc V) vs [] some l = take_more_set vs 0 zeros l ∙ ap (λ (r : Version). r ∷ []) zeros_is
root_recorded (suc V) vs (s ∷ ss) some l = take_more_set vs 0 zeros l ∙ ap (λ (r : Version). r ∷ []) zeros_is

pub root_standing : (V : ℕ) (hs : List ℕ) (ss : List Step) → 0 < V → 0 < length hs → take 1 (set hs 0 0) ≡ (told V ss 0).heads
root_standing zero hs ss some l = absurd (omega arith)
root_standing (suc V) hs [] some l = take_more_set hs 0 0 l
root_standing (suc V) hs (s ∷ ss) some l = take_more_set hs 0 0 l

pub root_numbered : (V : ℕ) (ss : List Step) → 0 < V → 0 ≡ length (told V ss 0).events
root_numbered zero ss some = absurd (omega arith)
root_numbered (suc V) [] some = refl
root_numbered (suc V) (s ∷ ss) some = refl

pub root_book : (k : Book) (V : ℕ) → 0 < V →
    ◌≡◌ {A = Book} (record { usable = V; versions = set k.versions 0 zeros; made = 1; steps = k.steps; taken = 0; heads = set k.heads 0 0; branches = 1; events = 0 }) (blank (resized k V))
root_book k zero some = absurd (omega arith)
root_book k (suc V) some =
    ap (λ (r : Version). record { usable = suc V; versions = set k.versions 0 r; made = 1; steps = k.steps; taken = 0; heads = set k.heads 0 0; branches = 1; events = 0 }) zeros_is

-- ---- the values
module _ {A : Type 0} (m : Meaning) (R : A → List Event → Type 0) where
  held_at : (b : Book) (xs : List A) → Known m (opened b.usable).events × Valued R (opened b.usable).events (opened b.usable).versions xs → b.taken ≡ 0 →
      Held m R (record { book = b; values = xs })
  held_at b xs h none =
      let p : world b ≡ opened b.usable = ap (told b.usable b.steps) none ∙ told_none b.usable b.steps in
      record {
        known = subst (λ (w : World). Known m w.events) (sym p) h.0;
        values = subst (λ (w : World). Valued R w.events w.versions xs) (sym p) h.1;
      }

  opened_known : (V : ℕ) → Known m (opened V).events
  opened_known zero e i = absurd (in_none i)
  opened_known (suc V) e i = absurd (in_none i)

  root_valued : (V : ℕ) (xs : List A) (x : A) → 0 < V → 0 < length xs → R x [] → Valued R (opened V).events (opened V).versions (set xs 0 x)
  root_valued zero xs x some l stands = absurd (omega arith)
  root_valued (suc V) [] x some l stands = absurd (omega arith)
  root_valued (suc V) (y ∷ ys) x some l stands = (subst (R x) (sym (pick_none nothing)) stands, tt)

  -- an opened memory, with a value that stands for the empty history
  pub root_held : (b b' : Book) (V : ℕ) (xs : List A) (x : A) → b' ≡ blank (resized b V) → 0 < V → 0 < length xs → R x [] →
      Held m R (record { book = b'; values = set xs 0 x })
  root_held b b' V xs x e some l stands =
      subst (λ (z : Book). Held m R (record { book = z; values = set xs 0 x })) (sym e)
      (held_at (blank (resized b V)) (set xs 0 x) (opened_known V, root_valued V xs x some l stands) refl)

  -- memory with no room at all
  pub none_held : (b : Book) (xs : List A) → b.usable ≡ 0 → b.taken ≡ 0 → Held m R (record { book = b; values = xs })
  none_held b xs none untaken =
      held_at b xs (subst (λ (V : ℕ). Known m (opened V).events × Valued R (opened V).events (opened V).versions xs) (sym none) (opened_known 0, tt)) untaken
