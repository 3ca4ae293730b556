use Rattle.std.proofs.Common.{◌≡◌, true, Ok, sym, refl, ap, ◌∙◌, w32, SFits, rules}
use Rattle.std.proofs.lemmas.Int.{to_z-of_z}
use Rattle.kinds.specs.Duties.{Changed}
use Rattle.kinds.specs.Counter.{counter}
use Rattle.kinds.proofs.Outcomes.{ok_not_err}
use Rattle.kinds.proofs.Sums.{changed_total, sum_more}
use Rattle.kinds.proofs.counter.CounterKind.change.Goals as goal

pub returns : goal.returns
returns c = record {
  defined = λ h e H K N S r.
      let fits : SFits w32 c.args.change.argument = search rules in
      let known : counter.knows e.change ≡ true = ap counter.knows S.made ∙ sym c.if-not-adds.ensures in
      let total = changed_total h e _ _ H K known r (c.from.ensures ∙ to_z-of_z w32 _ fits ∙ ap (λ x. x.argument) (sym S.made)) in
      Changed.done known refl (ap Ok total) (total ∙ sym (sum_more h e));
  unaltered = λ f p. absurd (ok_not_err p);
}
