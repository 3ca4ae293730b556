use Rattle.std.proofs.Common.{Err, ap, ◌∙◌}
use Rattle.std.proofs.lemmas.Result.{err_from_is_err_and}
use Rattle.sets.specs.Verbs.{number_of}
use Rattle.sets.proofs.Calls as calls
use Rattle.sets.proofs.set_kind.SetFormKind.change.Goals as goal
use Rattle.sets.proofs.set_kind.SetFormKind.change.Goals.{in-Mark+in_ok-later-in-Mark, in-Clear}

pub returns-in_err-later-in-Mark : goal.returns-in_err-later-in-Mark
returns-in_err-later-in-Mark c =
    let known = rw c.in_ok-verb.ensures.ok_part at c.changed.ensures in
    let p = err_from_is_err_and c.from_residual-in_err-later-in-Mark.result c.from_residual-in_err-later-in-Mark.ensures.1 in
    let full = c.in_err-later-in-Mark.ensures in
    calls.changes_full c.args.stamp c.args.change known.0 known.2 c.in_ok-value.ensures (known.1 ∙ ap number_of c.in-Mark.is) (p.1 ∙ ap Err (p.2 ∙ full.0)) full.1

pub returns : goal.returns
returns c =
    let known = rw c.in_ok-verb.ensures.ok_part at c.changed.ensures in
    elim c.match-verb.branch [
      | in-Mark+in_ok-later-in-Mark w ↦
          calls.changes_mark c.args.stamp c.args.change known.0 known.2 c.in_ok-value.ensures c.has-was.ensures c.told.ensures c.into.ensures (known.1 ∙ ap number_of w.in-Mark.is)
          (w.later-is ∙ w.in_ok-later-in-Mark.ensures)
      | in-Clear w ↦
          calls.changes_clear c.args.stamp c.args.change known.0 known.2 c.in_ok-value.ensures c.has-was.ensures c.told.ensures c.into.ensures (known.1 ∙ ap number_of w.in-Clear.is)
          (w.later-is ∙ w.cleared-later.ensures)
    ]
