use Rattle.std.proofs.Common.{◌≡◌, ◌^◌, ◌<◌, refl, sym, rules}
use Rattle.kinds.specs.declared.pair.Side.TheVariants.{Left, Right}
use Rattle.kinds.proofs.Routes.{mapped, outer_result, pair_answers, sent_out}
use Rattle.kinds.proofs.pair.PairKind.answer.Goals as goal
use Rattle.kinds.proofs.pair.PairKind.answer.Goals.{in-Left, in-Right}

pub returns : goal.returns
returns g c =
    let b : c.args.question.place < 2 ^ 32 = search rules in
    let out : c.map_err.result ≡ outer_result c.of-side.result c.match-side.map_err = mapped c.of-side.result c.match-side.map_err c.map_err.ensures.cases (λ e f p. search rules) refl in
    elim c.match-side.branch [
      | in-Left w ↦ pair_answers g.L.Kind.meaning g.R.Kind.meaning Left g.L.Kind.represents _ c.args.self.now.left c.args.self.now (λ h p. p.0)
          c.args.question _ w.answer.result c.map_err.result (sym w.in-Left.ensures) b c.halved-inner.ensures
          (sent_out Left _ _ _ _ w.in-Left.is w.map_err-is out) w.answer.ensures
      | in-Right w ↦ pair_answers g.L.Kind.meaning g.R.Kind.meaning Right g.R.Kind.represents _ c.args.self.now.right c.args.self.now (λ h p. p.1)
          c.args.question _ w.answer-in-Right.result c.map_err.result (sym w.in-Right.ensures) b c.halved-inner.ensures
          (sent_out Right _ _ _ _ w.in-Right.is w.map_err-is out) w.answer-in-Right.ensures
    ]
