-- What a store holds, as plain lists and numbers.
use Rattle.kinds.specs.declared.kind.Kind.{Ghosts}
use Rattle.store.specs.declared.store.Store.{Store}
use Rattle.store.specs.Held.{Memory}
use Rattle.store.specs.Ledgers.{book}

abbrev pub memory : {A : Type 0} {κ : Ghosts A} → Store A κ → Memory A
memory s = record { book = book s.ledger; values = s.values.now }
