use Rattle.std.proofs.Common.{rules}
use Rattle.kinds.proofs.Routes.{merge_ends, merge_stops_left, merge_stops_right}
use Rattle.kinds.proofs.pair.PairKind.merge.Goals as goal

pub returns-in_err-left : goal.returns-in_err-left
returns-in_err-left g c =
    merge_stops_left g.L.Kind.meaning g.R.Kind.meaning g.L.Kind.represents g.R.Kind.represents c.args.base.now c.args.first.now c.args.second.now
    c.merge.result c.merge.ensures c.map_err.ensures.cases (λ e f p. search rules) c.in_err-left.field-0.0 c.from_residual.result (search rules) c.in_err-left.was

pub returns-in_err-right : goal.returns-in_err-right
returns-in_err-right g c =
    merge_stops_right g.L.Kind.meaning g.R.Kind.meaning g.L.Kind.represents g.R.Kind.represents c.args.base.now c.args.first.now c.args.second.now
    c.merge.result c.merge.ensures c.map_err.ensures.cases (λ e f p. search rules) c.in_ok-left.left c.in_ok-left.was
    c.merge-2.result c.merge-2.ensures c.map_err-2.ensures.cases (λ e f p. search rules)
    c.in_err-right.field-0.0 c.from_residual-in_err-right.result (search rules) c.in_err-right.was

pub returns : goal.returns
returns g c =
    merge_ends g.L.Kind.meaning g.R.Kind.meaning g.L.Kind.represents g.R.Kind.represents c.args.base.now c.args.first.now c.args.second.now
    c.merge.result c.merge.ensures c.map_err.ensures.cases (λ e f p. search rules) c.in_ok-left.left c.in_ok-left.was
    c.merge-2.result c.merge-2.ensures c.map_err-2.ensures.cases (λ e f p. search rules) c.in_ok-right.right c.in_ok-right.was
