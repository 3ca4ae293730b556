-- The faults of a kind: the number of each, and the place that it holds.
use Rattle.std.specs.Prelude.{ℕ, List, ◌++◌, codes, decimal}
use Rattle.kinds.specs.declared.fault.KindFault.{KindFault}
use Rattle.kinds.specs.declared.fault.KindFault.TheVariants.{UnknownChange, DoesNotFit, UnknownQuestion}

-- the number by which logs, scripts and files call a fault
abbrev pub fault_number : KindFault → ℕ
fault_number (UnknownChange p) = 21
fault_number (DoesNotFit p) = 22
fault_number (UnknownQuestion p) = 23

-- the place that a fault holds
abbrev pub fault_place : KindFault → ℕ
fault_place (UnknownChange p) = p
fault_place (DoesNotFit p) = p
fault_place (UnknownQuestion p) = p

-- what is wrong, in words
abbrev pub fault_words : KindFault → List ℕ
fault_words (UnknownChange p) = codes "the kind knows no such change"
fault_words (DoesNotFit p) = codes "the history does not fit"
fault_words (UnknownQuestion p) = codes "the kind knows no such question"

-- a fault as a person reads it
abbrev pub fault_text : KindFault → List ℕ
fault_text f = decimal (fault_number f) ++ (codes " at place " ++ (decimal (fault_place f) ++ (codes ": " ++ fault_words f)))
