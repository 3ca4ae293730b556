use Rattle.std.proofs.Common.{◌≡◌, ◌^◌, ◌<◌, refl, sym, ap, subst, rules}
use Rattle.kinds.specs.Duties.{Changes}
use Rattle.kinds.specs.Pair.{pair, part}
use Rattle.kinds.specs.declared.pair.Side.TheVariants.{Left, Right}
use Rattle.kinds.proofs.Routes.{mapped, outer_result, pair_changes, sent_out}
use Rattle.kinds.proofs.pair.PairKind.change.Goals as goal
use Rattle.kinds.proofs.pair.PairKind.change.Goals.{in-Left, in-Right}

pub returns : goal.returns
returns g c =
    let b : c.args.change.place < 2 ^ 32 = search rules in
    let out : c.map_err.result ≡ outer_result c.of-side.result c.match-side.map_err =
    mapped c.of-side.result c.match-side.map_err c.map_err.ensures.cases (λ e f p. search rules) refl in
    elim c.match-side.branch [
      | in-Left w ↦ subst (Changes (pair g.L.Kind.meaning g.R.Kind.meaning) _ c.args.self.now c.args.stamp c.args.change c.map_err.result) (sym w.self-is)
          (pair_changes g.L.Kind.meaning g.R.Kind.meaning Left g.L.Kind.represents g.R.Kind.represents
          (λ v h. (g.L.Kind.represents v.left (part Left h)) × (g.R.Kind.represents v.right (part Right h))) g.met.R.Kind.fitting _ _ _ _
          (record { left = w.change.new.self; right = c.args.self.now.right })
          (λ h p. p) (λ h p q. (p, q)) (λ p. ap (λ x. record { left = x; right = c.args.self.now.right }) p)
          c.args.stamp c.args.change _ w.change.result (sym w.in-Left.ensures) b c.halved-inner.ensures c.map_err.result
          (sent_out Left _ _ _ _ w.in-Left.is w.map_err-is out) w.change.ensures)
      | in-Right w ↦ subst (Changes (pair g.L.Kind.meaning g.R.Kind.meaning) _ c.args.self.now c.args.stamp c.args.change c.map_err.result) (sym w.self-is)
          (pair_changes g.L.Kind.meaning g.R.Kind.meaning Right g.R.Kind.represents g.L.Kind.represents
          (λ v h. (g.L.Kind.represents v.left (part Left h)) × (g.R.Kind.represents v.right (part Right h))) g.met.L.Kind.fitting _ _ _ _
          (record { left = c.args.self.now.left; right = w.change-in-Right.new.self })
          (λ h p. (p.1, p.0)) (λ h p q. (q, p)) (λ p. ap (λ x. record { left = c.args.self.now.left; right = x }) p)
          c.args.stamp c.args.change _ w.change-in-Right.result (sym w.in-Right.ensures) b c.halved-inner.ensures c.map_err.result
          (sent_out Right _ _ _ _ w.in-Right.is w.map_err-is out) w.change-in-Right.ensures)
    ]
