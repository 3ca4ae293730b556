use Rattle.std.proofs.Common.{◌≡◌, ℤ, Ok, sym, subst, w64, to_z, of_z, rules}
use Rattle.calls.specs.declared.calls.Call.TheVariants.{Ask}
use Rattle.calls.specs.declared.calls.Reply.TheVariants.{Answer}
use Rattle.store.specs.Attempt.{Attempted}
use Rattle.store.specs.Views.{memory}
use Rattle.store.proofs.Stores.{defined, ask_refused, asking_below, ask_unkind, ask_answered}
use Rattle.store.proofs.store.Store.ask.Goals as goal

pub returns-in_err-head : goal.returns-in_err-head
returns-in_err-head g c =
    let t = ask_refused c.args.self.now c.args.branch c.args.question c.in_err-head.field-0.0 c.from_residual.result c.from_residual.ensures.1 c.in_err-head.ensures in
    record { attempted = t; defined = defined c.args.self.now t }

pub value-requires : goal.value-requires
value-requires g c =
    asking_below c.args.self.now c.args.branch c.args.question c.in_ok-head.head c.in_ok-head.ensures

pub returns-in_err-answer : goal.returns-in_err-answer
returns-in_err-answer g c =
    let t =
    ask_unkind c.args.self.now c.args.branch c.args.question c.in_ok-head.head c.in_ok-head.ensures
    c.value.result.now c.value.ensures c.in_err-answer.field-0.0 c.from_residual-in_err-answer.result c.from_residual-in_err-answer.ensures.1 c.in_err-answer.ensures in
    record { attempted = t; defined = defined c.args.self.now t }

pub returns : goal.returns
returns g c =
    let s = c.args.self.now in
    let k = g.K.Kind in
    let back : to_z w64 (of_z w64 c.in_ok-answer.field-0) ≡ c.in_ok-answer.field-0 = search rules in
    let t : Attempted k.meaning k.represents (memory s) (Ask c.args.branch c.args.question) (Ok (Answer (to_z w64 (of_z w64 c.in_ok-answer.field-0)))) (memory s) =
    subst (λ (z : ℤ). Attempted k.meaning k.represents (memory s) (Ask c.args.branch c.args.question) (Ok (Answer z)) (memory s)) (sym back)
    (ask_answered s c.args.branch c.args.question c.in_ok-head.head c.in_ok-head.ensures
    c.value.result.now c.value.ensures c.in_ok-answer.field-0 c.in_ok-answer.ensures) in
    record { attempted = t; defined = defined s t }
