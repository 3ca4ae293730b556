-- What a ledger's records, steps and heads tell, before and after a write.
use Rattle.std.proofs.Common.{◌≡◌, ℕ, ◌+◌, ◌<◌, true, List, [], ◌∷◌, ◌++◌, map, length, get_or, take, set, sym, refl, ap, ◌∙◌, arith}
use lib.ListN.{length-map}
use Rattle.std.proofs.lemmas.List.{take_more_set, map_push, length-take-le, get_or-take, get_or-map}
use Rattle.std.proofs.lemmas.Bool.{and_parts, and_from}
use Rattle.kinds.specs.Events.{nothing}
use Rattle.calls.specs.declared.calls.Action.{Action}
use Rattle.calls.specs.declared.calls.Step.{Step}
use Rattle.calls.specs.declared.calls.Version.{Version}
use Rattle.store.specs.declared.ledger.Ledger.{Ledger}
use Rattle.calls.specs.World.{World, advance, opened, seen_by}
use Rattle.calls.specs.Run.{advances, possible, all_possible}
use Rattle.calls.specs.Counts.{tally, record_of}
use Rattle.store.specs.Book.{actions, told, world}
use Rattle.store.specs.Ledgers.{book, record_at}
use Rattle.calls.proofs.Worlds.{Sound, sound_opened, sound_after}
use Rattle.calls.proofs.Questions.{count_is}

-- ---- one step more
pub advances_append : (w : World) (acts more : List Action) → advances w (acts ++ more) ≡ advances (advances w acts) more
advances_append w [] more = refl
advances_append w (a ∷ acts) more = advances_append (advance w a) acts more

possible_more : (V : ℕ) (w : World) (acts : List Action) (a : Action) → all_possible V w acts ≡ true → possible V (advances w acts) a ≡ true →
    all_possible V w (acts ++ (a ∷ [])) ≡ true
possible_more V w [] a all one = and_from (possible V w a) true one refl
possible_more V w (b ∷ more) a all one =
    let p = and_parts (possible V w b) (all_possible V (advance w b) more) all in
    and_from (possible V w b) (all_possible V (advance w b) (more ++ (a ∷ []))) p.0 (possible_more V (advance w b) more a p.1 one)

module _ (V : ℕ) (ss : List Step) (n : ℕ) (s : Step) (l : n < length ss) where
  pub actions_more : actions (set ss n s) (n + 1) ≡ actions ss n ++ (s.action ∷ [])
  actions_more = ap (map (λ (t : Step). t.action)) (take_more_set ss n s l) ∙ map_push (λ (t : Step). t.action) (take n ss) s

  pub told_more : told V (set ss n s) (n + 1) ≡ advance (told V ss n) s.action
  told_more = ap (advances (opened V)) actions_more ∙ advances_append (opened V) (actions ss n) (s.action ∷ [])

  pub still_possible : all_possible V (opened V) (actions ss n) ≡ true → possible V (told V ss n) s.action ≡ true →
      all_possible V (opened V) (actions (set ss n s) (n + 1)) ≡ true
  still_possible all one = ap (all_possible V (opened V)) actions_more ∙ possible_more V (opened V) (actions ss n) s.action all one

-- ---- what is read from a ledger
module _ (s : Ledger) where
  pub sound_of : Sound (world (book s))
  sound_of = sound_after s.usable (opened s.usable) (actions s.steps.now s.taken) s.small (sound_opened s.usable) s.possible

  pub made_long : length (take s.made s.versions.now) ≡ s.made
  made_long = length-take-le s.made s.versions.now (omega (arith, s.within, s.versioned))

  pub made_of : length (world (book s)).versions ≡ s.made
  made_of =
      sym (length-map (world (book s)).versions (record_of (world (book s)).events)) ∙ ap length (sym s.recorded) ∙ made_long

  pub branches_of : length (world (book s)).heads ≡ s.branches
  branches_of = ap length (sym s.standing) ∙ length-take-le s.branches s.heads (omega (arith, s.few, s.sixteen))

  pub head_at : (b : ℕ) → b < s.branches → get_or s.heads b 0 ≡ get_or (world (book s)).heads b 0
  head_at b l = sym (get_or-take s.branches s.heads b 0 l) ∙ ap (λ (hs : List ℕ). get_or hs b 0) s.standing

  pub head_below : (b : ℕ) → b < s.branches → get_or s.heads b 0 < s.made
  head_below b l =
      let e = made_of in let n = branches_of in let p = head_at b l in
      let q = sound_of.headed b (omega arith) in omega arith

  pub record_is : (i : ℕ) → i < s.made → record_at s i ≡ record_of (world (book s)).events (get_or (world (book s)).versions i nothing)
  record_is i l =
      sym (get_or-take s.made s.versions.now i (record { counts = [] }) l)
      ∙ ap (λ (rs : List Version). get_or rs i (record { counts = [] })) s.recorded
      ∙ get_or-map (record_of (world (book s)).events) (world (book s)).versions i nothing (record { counts = [] }) (let e = made_of in omega arith)

  pub record_long : (i : ℕ) → i < s.made → length (record_at s i).counts ≡ 16
  record_long i l = ap (λ (r : Version). length r.counts) (record_is i l)

  pub count_at : (i b : ℕ) → i < s.made → get_or (record_at s i).counts b 0 ≡ tally (world (book s)).events (get_or (world (book s)).versions i nothing) b
  count_at i b l = ap (λ (r : Version). get_or r.counts b 0) (record_is i l) ∙ count_is (world (book s)) sound_of (get_or (world (book s)).versions i nothing) b

  -- the counts of a branch's head say what the branch has seen
  pub head_count : (b x : ℕ) → b < s.branches → get_or (record_at s (get_or s.heads b 0)).counts x 0 ≡ tally (world (book s)).events (seen_by (world (book s)) b) x
  head_count b x l =
      count_at (get_or s.heads b 0) x (head_below b l)
      ∙ ap (λ (i : ℕ). tally (world (book s)).events (get_or (world (book s)).versions i nothing) x) (head_at b l)
