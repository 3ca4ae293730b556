-- A form that stands for a history has places for its rows, so only a history that fits has such forms.
use Rattle.std.specs.Prelude.{◌≡◌, true, List, map, length}
use Rattle.std.proofs.Common.{ap, ◌∙◌, length-take}
use Rattle.std.proofs.lemmas.List.{length-map}
use native.Mathlib.Omega.{arith}
use borrow.Author.Tests.{le-leb}
use Rattle.kinds.specs.Events.{Event}
use Rattle.rows.proofs.Sorts.{sorted_length}
use Rattle.sets.specs.Set.{rows, object_set}
use Rattle.sets.specs.Table.{by_object_then_branch, mark_key, row_of, table}
use Rattle.sets.specs.Form.{Represents}
use Rattle.sets.specs.declared.marks.SetForm.{SetForm}

pub table_length : (h : List Event) → length (table h) ≡ length (rows h)
unfolding table
table_length h = sorted_length by_object_then_branch mark_key (map row_of (rows h)) ∙ length-map (rows h) row_of

pub fitting : (v : SetForm) (h : List Event) → Represents v h → object_set.fits h ≡ true
fitting v h r =
    let a = ap length r.rows in
    let b = length-take v.count v.rows in
    let c = table_length h in
    let d = r.count in
    le-leb (length (rows h)) 96 (omega arith)
