-- The faults of a store: the number of each, and what it holds.
use Rattle.std.specs.Prelude.{ℕ, List, ◌++◌, codes, decimal}
use Rattle.kinds.specs.Faults.{fault_number, fault_place, fault_words}
use Rattle.calls.specs.declared.fault.StoreFault.{StoreFault}
use Rattle.calls.specs.declared.fault.StoreFault.TheVariants.{NoVersion, NotStored, BranchesFull, NoBranch, NoSource, VersionsFull, NoBase, OfKind}

-- the number by which logs, scripts and files call a fault; a kind's fault keeps its own
abbrev pub number_of : StoreFault → ℕ
number_of NoVersion = 1
number_of (NotStored v) = 2
number_of BranchesFull = 3
number_of (NoBranch b) = 4
number_of (NoSource b) = 5
number_of (VersionsFull b) = 6
number_of (NoBase b) = 7
number_of (OfKind f) = fault_number f

-- the version or branch that was asked about, the source of a merge for 5 and its destination else, or the place that a kind's fault holds
abbrev pub held_by : StoreFault → ℕ
held_by NoVersion = 0
held_by (NotStored v) = v
held_by BranchesFull = 0
held_by (NoBranch b) = b
held_by (NoSource b) = b
held_by (VersionsFull b) = b
held_by (NoBase b) = b
held_by (OfKind f) = fault_place f

-- what it is that a fault holds
abbrev pub subject_of : StoreFault → List ℕ
subject_of NoVersion = codes "version"
subject_of (NotStored v) = codes "version"
subject_of BranchesFull = codes "branch"
subject_of (NoBranch b) = codes "branch"
subject_of (NoSource b) = codes "branch"
subject_of (VersionsFull b) = codes "branch"
subject_of (NoBase b) = codes "branch"
subject_of (OfKind f) = codes "place"

-- what is wrong, in words
abbrev pub words_of : StoreFault → List ℕ
words_of NoVersion = codes "the store has no version 0"
words_of (NotStored v) = codes "no such version is stored"
words_of BranchesFull = codes "there are 16 branches already"
words_of (NoBranch b) = codes "there is no such branch"
words_of (NoSource b) = codes "there is no such branch to merge from"
words_of (VersionsFull b) = codes "there is no room for a version more"
words_of (NoBase b) = codes "no stored version has seen just what both branches have seen"
words_of (OfKind f) = fault_words f

-- a fault as a person reads it
abbrev pub text_of : StoreFault → List ℕ
text_of f = decimal (number_of f) ++ (codes " at " ++ (subject_of f ++ (codes " " ++ (decimal (held_by f) ++ (codes ": " ++ words_of f)))))
