use Rattle.rows.specs.Keys.{Total}
use Rattle.rows.proofs.KeysLemmas.{total_order}
use Rattle.rows.proofs.Turns.{going_first, turn_less, going_on, going_full, going_end}
use Rattle.rows.proofs.joining.join.Given.{Over}
use Rattle.rows.proofs.joining.join.Goals as goal

-- the keys' order
total : (g : Over) → Total g.R.Key.Ord.cmp
total g = total_order g.met.R.Key.Ord.total g.met.R.Row.level

pub loop-low-init : goal.loop-low-init
loop-low-init g c = going_first _ _ _ _ _ _ _

pub returns-in_err-count : goal.returns-in_err-count
returns-in_err-count g c =
    rw c.from_residual.ensures (
    going_full (total g) c.loop-low.invariant c.in-Some.ensures
    c.taken-was.ensures.rest c.taken-ours.ensures.rest c.taken-theirs.ensures.rest
    c.taken-was.ensures.row c.taken-ours.ensures.row c.taken-theirs.ensures.row c.chosen.ensures c.in_err-count.ensures
    )

pub loop-low-smaller : goal.loop-low-smaller
loop-low-smaller g c = turn_less (total g) c.loop-low.invariant c.in-Some.ensures c.taken-was.ensures.rest c.taken-ours.ensures.rest c.taken-theirs.ensures.rest

pub loop-low-preserved : goal.loop-low-preserved
loop-low-preserved g c =
    going_on (total g) c.loop-low.invariant c.in-Some.ensures
    c.taken-was.ensures.rest c.taken-ours.ensures.rest c.taken-theirs.ensures.rest
    c.taken-was.ensures.row c.taken-ours.ensures.row c.taken-theirs.ensures.row c.chosen.ensures c.in_ok-count.ensures

pub returns : goal.returns
returns g c = going_end (total g) c.loop-low.invariant c.in_default.ensures
