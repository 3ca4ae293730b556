-- The rows of a set as a value keeps them: in the order of objects, and of branches at one object.
use Rattle.std.specs.Prelude.{Bool, ◌&&◌, List, map, ◌==◌}
use Rattle.std.specs.declared.cmp.Ordering.{Ordering}
use Rattle.std.specs.Ordering.{nat_cmp, ordering_then}
use Rattle.kinds.specs.Events.{Event}
use Rattle.rows.specs.Rows.{rises}
use Rattle.rows.specs.Sorted.{sorted}
use Rattle.rows.specs.Walk.{walked}
use Rattle.sets.specs.Set.{object, rows}
use Rattle.sets.specs.declared.marks.Mark.{Mark}
use Rattle.sets.specs.declared.marks.MarkKey.{MarkKey}

-- keys rise by object, then by branch
abbrev pub by_object_then_branch : MarkKey → MarkKey → Ordering
by_object_then_branch a b = ordering_then (nat_cmp a.object b.object) (nat_cmp a.branch b.branch)

-- the key of a row
abbrev pub mark_key : Mark → MarkKey
mark_key r = record { object = r.object; branch = r.branch }

-- two rows are the same, compared whole
abbrev pub same_mark : Mark → Mark → Bool
same_mark x y = x.object == y.object && (x.branch == y.branch && x.event == y.event)

-- the rows rise strictly by key: no two of them have the same object and branch
abbrev pub in_order : List Mark → Bool
in_order xs = rises by_object_then_branch mark_key xs

-- the rows that a join of two sides over their base walks out
abbrev pub join_of : List Mark → List Mark → List Mark → List Mark
join_of base first second = walked by_object_then_branch mark_key same_mark base first second

-- the row of an event
abbrev pub row_of : Event → Mark
row_of e = record { object = object e; branch = e.branch; event = e.number }

-- the rows of a history in the order of their keys
unfoldable pub table : List Event → List Mark
table h = sorted by_object_then_branch mark_key (map row_of (rows h))
