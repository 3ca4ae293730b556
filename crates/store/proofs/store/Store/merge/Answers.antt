use Rattle.std.proofs.Common.{◌<◌, Ok, sym, ap, ◌∙◌, arith, rules}
use Rattle.calls.specs.declared.calls.Action.TheVariants.{Merge}
use Rattle.store.specs.Ledgers.{book}
use Rattle.store.proofs.Stores.{defined, still_held, still_valued, merge_refused, merging_head_below, merge_idle, merging_base_below, merging_first_below, merging_second_below, merging_possible, merge_unkind, merge_made}
use Rattle.store.proofs.Writes.{merge_room}
use Rattle.store.proofs.store.Store.merge.Goals as goal

pub returns-in_err-head : goal.returns-in_err-head
returns-in_err-head g c =
    let t = merge_refused c.args.self.now c.args.into c.args.from c.in_err-head.field-0.0 c.from_residual.result c.from_residual.ensures.1 c.in_err-head.ensures in
    record { attempted = t; defined = defined c.args.self.now t }

pub overflow_cast-result : goal.overflow_cast-result
overflow_cast-result g c =
    let s = c.args.self.now in
    let below : c.in-Seen.head < 4096 = omega (
      arith,
      s.ledger.small,
      s.ledger.within,
      merging_head_below c.args.self.now c.args.into c.args.from
          c.in-Seen.head (ap Ok (sym c.in-Seen.is) ∙ c.in_ok-head.ensures),
    ) in
    search rules

pub returns-in-Seen : goal.returns-in-Seen
returns-in-Seen g c =
    let t = merge_idle c.args.self.now c.args.into c.args.from c.in-Seen.head (ap Ok (sym c.in-Seen.is) ∙ c.in_ok-head.ensures) in
    record { attempted = t; defined = defined c.args.self.now t }

pub value-requires : goal.value-requires
value-requires g c =
    merging_base_below c.args.self.now c.args.into c.args.from
    c.in-Apart.base c.in-Apart.first c.in-Apart.second (ap Ok (sym c.in-Apart.is) ∙ c.in_ok-head.ensures)

pub value-requires-in-Apart : goal.value-requires-in-Apart
value-requires-in-Apart g c =
    merging_first_below c.args.self.now c.args.into c.args.from
    c.in-Apart.base c.in-Apart.first c.in-Apart.second (ap Ok (sym c.in-Apart.is) ∙ c.in_ok-head.ensures)

pub value-requires-in-Apart-2 : goal.value-requires-in-Apart-2
value-requires-in-Apart-2 g c =
    merging_second_below c.args.self.now c.args.into c.args.from
    c.in-Apart.base c.in-Apart.first c.in-Apart.second (ap Ok (sym c.in-Apart.is) ∙ c.in_ok-head.ensures)

pub returns-in_err-value-in-Apart : goal.returns-in_err-value-in-Apart
returns-in_err-value-in-Apart g c =
    let t =
    merge_unkind c.args.self.now c.args.into c.args.from
    c.in-Apart.base c.in-Apart.first c.in-Apart.second (ap Ok (sym c.in-Apart.is) ∙ c.in_ok-head.ensures)
    c.value.result.now c.value-in-Apart.result.now c.value-in-Apart-2.result.now c.value.ensures c.value-in-Apart.ensures c.value-in-Apart-2.ensures
    c.in_err-value-in-Apart.field-0.0 c.from_residual-in_err-value-in-Apart.result c.from_residual-in_err-value-in-Apart.ensures.1 c.in_err-value-in-Apart.ensures in
    record { attempted = t; defined = defined c.args.self.now t }

pub bounds-self-self : goal.bounds-self-self
bounds-self-self g c =
    let s = c.args.self.now in
    let possible =
    merging_possible s c.args.into c.args.from c.in-Apart.base c.in-Apart.first c.in-Apart.second (ap Ok (sym c.in-Apart.is) ∙ c.in_ok-head.ensures) in
    omega (arith, s.valued, merge_room s.ledger c.args.into c.args.from possible)

pub add_merge-version-requires : goal.add_merge-version-requires
add_merge-version-requires g c =
    merging_possible c.args.self.now c.args.into c.args.from
    c.in-Apart.base c.in-Apart.first c.in-Apart.second (ap Ok (sym c.in-Apart.is) ∙ c.in_ok-head.ensures)

pub invariant_of-self : goal.invariant_of-self
invariant_of-self g c =
    let s = c.args.self.now in
    let b' = book c.add_merge-version.new.self in
    record {
      valued = still_valued s (Merge c.args.into c.args.from) c.args.into c.in_ok-value-in-Apart.value b' c.add_merge-version.ensures.written;
      held = still_held s (merge_made s c.args.into c.args.from
          c.in-Apart.base c.in-Apart.first c.in-Apart.second (ap Ok (sym c.in-Apart.is) ∙ c.in_ok-head.ensures)
          c.value.result.now c.value-in-Apart.result.now c.value-in-Apart-2.result.now c.value.ensures c.value-in-Apart.ensures c.value-in-Apart-2.ensures
          c.add_merge-version.result c.in_ok-value-in-Apart.value b' c.add_merge-version.ensures.number
          c.in_ok-value-in-Apart.ensures c.add_merge-version.ensures.written);
    }

pub returns-in_ok-value-in-Apart : goal.returns-in_ok-value-in-Apart
returns-in_ok-value-in-Apart g c =
    let s = c.args.self.now in
    let t =
    merge_made s c.args.into c.args.from
    c.in-Apart.base c.in-Apart.first c.in-Apart.second (ap Ok (sym c.in-Apart.is) ∙ c.in_ok-head.ensures)
    c.value.result.now c.value-in-Apart.result.now c.value-in-Apart-2.result.now c.value.ensures c.value-in-Apart.ensures c.value-in-Apart-2.ensures
    c.add_merge-version.result c.in_ok-value-in-Apart.value (book c.add_merge-version.new.self) c.add_merge-version.ensures.number
    c.in_ok-value-in-Apart.ensures c.add_merge-version.ensures.written in
    record { attempted = t; defined = defined s t }
