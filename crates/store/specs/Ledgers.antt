-- What a ledger holds, as plain lists and numbers.
use Rattle.std.specs.Prelude.{ℕ, [], slice_index_or}
use Rattle.calls.specs.declared.calls.Version.{Version}
use Rattle.store.specs.declared.ledger.Ledger.{Ledger}
use Rattle.store.specs.Book.{Book}

abbrev pub book : Ledger → Book
book s = record {
  usable = s.usable;
  versions = s.versions.now;
  made = s.made;
  steps = s.steps.now;
  taken = s.taken;
  heads = s.heads;
  branches = s.branches;
  events = s.events;
}

-- the record of a version
abbrev pub record_at : Ledger → ℕ → Version
record_at s i = slice_index_or s.versions.now i (record { counts = [] })
