-- Which plain forms stand for a history.
use Rattle.std.specs.Prelude.{◌≡◌, ◌<◌, ◌≤◌, ◌≢◌, true, List, length, take, MatchResult}
use Rattle.std.specs.declared.result.Result.{Result}
use Rattle.kinds.specs.Events.{Event}
use Rattle.kinds.specs.declared.fault.KindFault.{KindFault}
use Rattle.kinds.specs.declared.fault.KindFault.TheVariants.{DoesNotFit}
use Rattle.sets.specs.Table.{in_order, table}
use Rattle.sets.specs.declared.marks.Mark.{Mark}
use Rattle.sets.specs.declared.marks.SetForm.{SetForm}

-- the rows that a form says are there
abbrev pub rows_in : SetForm → List Mark
rows_in v = take v.count v.rows

-- the rows, or where there are more than a set has places for, the fault that they don't fit
abbrev pub Fitted : List Mark → Result (List Mark) KindFault → Type 0
Fitted rows r = MatchResult r (λ v. v ≡ rows) (λ fault. (fault ≡ DoesNotFit 0) × (96 < length rows))

-- A form holds these rows: it says that they are there, has places for them, and they rise strictly by key.
pub record Holds (v : SetForm) (rows : List Mark) : Type 0 where
  pub count : v.count ≤ 96
  pub rising : in_order rows ≡ true
  pub same : rows_in v ≡ rows

-- what the check of a form gives: the rows that it holds, or the fault of a form that holds none
abbrev pub Checked : SetForm → Result (List Mark) KindFault → Type 0
Checked v r = MatchResult r (λ rows. Holds v rows) (λ fault. (fault ≡ DoesNotFit 0) × (v.count ≤ 96 → in_order (rows_in v) ≢ true))

-- A form stands for a history if it passes the check and has the rows of the history, in the order of their keys.
pub record Represents (v : SetForm) (h : List Event) : Type 0 where
  pub count : v.count ≤ 96
  pub rising : in_order (rows_in v) ≡ true
  pub rows : rows_in v ≡ table h
