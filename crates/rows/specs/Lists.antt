-- A word on numbers that the definitions of sets and queues share.
use Rattle.std.specs.Prelude.{ℕ, ℤ, pos, negsuc}

-- an argument that is not negative, as it is (no kind of rows knows a negative one)
abbrev pub natural : ℤ → ℕ
natural (pos n) = n
natural (negsuc n) = 0
