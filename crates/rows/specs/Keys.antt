-- What a total order of keys is.
use Rattle.std.specs.Prelude.{◌≡◌}
use Rattle.std.specs.declared.cmp.Ordering.TheVariants.{Less, Equal}
use Rattle.std.specs.declared.cmp.Ordering.{Ordering}
use Rattle.std.specs.Ordering.{ordering_reverse}

-- A comparison of keys is a total order: of any two keys it says how they stand to each other, and so that
pub record Total {K : Type 0} (order : K → K → Ordering) : Type 0 where
  -- keys that are level are one key,
  pub level : (a b : K) → order a b ≡ Equal → a ≡ b
  -- the other way round it says the reverse,
  pub turned : (a b : K) → order b a ≡ ordering_reverse (order a b)
  -- and what is below a key is below all that is above that key
  pub through : (a b c : K) → order a b ≡ Less → order b c ≡ Less → order a c ≡ Less
