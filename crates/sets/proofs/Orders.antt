-- The keys of a set's rows have a total order, and rows are compared whole.
use Rattle.std.specs.Prelude.{◌≡◌, true, false, ◌==◌}
use Rattle.std.proofs.Common.{arith, rules, tests}
use Rattle.std.specs.Ordering.{is_eq, nat_cmp}
use Rattle.rows.specs.Keys.{Total}
use Rattle.rows.proofs.KeysLemmas as keys
use Rattle.rows.proofs.KeysLemmas.{total_two, total_number}
use Rattle.sets.specs.Table.{by_object_then_branch, same_mark}
use Rattle.sets.specs.declared.marks.Mark.{Mark}
use Rattle.sets.specs.declared.marks.MarkKey.{MarkKey}

pub total_keys : Total by_object_then_branch
total_keys =
    total_two nat_cmp nat_cmp total_number total_number (λ (k : MarkKey). k.object) (λ (k : MarkKey). k.branch)
    (λ a b p q. λ i. record { object = p i; branch = q i })

pub key_from_level : (a b : MarkKey) → is_eq (by_object_then_branch a b) ≡ true → a ≡ b
key_from_level = keys.eq_true by_object_then_branch total_keys

pub level_from_key : (a b : MarkKey) → a ≡ b → is_eq (by_object_then_branch a b) ≡ true
level_from_key = keys.eq_same by_object_then_branch total_keys

pub same_true : (x y : Mark) → same_mark x y ≡ true → x ≡ y
same_true x y e = search (rules, tests)

pub same_itself : (x : Mark) → same_mark x x ≡ true
same_itself x = search (rules, tests)

pub other_event : (x y : Mark) → (x.event == y.event) ≡ false → same_mark x y ≡ false
other_event x y q = grind (arith, tests)
