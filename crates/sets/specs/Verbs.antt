-- The numbers by which changes call what is done with an object.
use Rattle.std.specs.Prelude.{ℕ}
use Rattle.sets.specs.declared.set_kind.Verb.{Verb}
use Rattle.sets.specs.declared.set_kind.Verb.TheVariants.{Mark, Clear}

abbrev pub number_of : Verb → ℕ
number_of Mark = 1
number_of Clear = 2
