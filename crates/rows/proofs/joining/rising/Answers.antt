use Rattle.std.proofs.Common.{rules}
use Rattle.std.specs.Ordering.{is_lt}
use Rattle.std.proofs.lemmas.List.Sorted.{answers_always}
use Rattle.rows.proofs.Finds.{rises_answer}
use Rattle.rows.proofs.joining.rising.Goals as goal

pub returns : goal.returns
returns g c =
    rises_answer g.R.Key.Ord.cmp g.R.Row.key c.args.rows.now c.is_sorted_by.result
    (c.is_sorted_by.ensures.cases (λ a b. is_lt (g.R.Key.Ord.cmp (g.R.Row.key a) (g.R.Row.key b))) (answers_always _ _ _ (λ f a r s q. search rules)))
