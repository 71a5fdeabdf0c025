-- The literals of the CNF as 32-bit words. Assumes nothing.
use Rattle.std.specs.Prelude.{◌≡◌, ◌^◌, ◌<◌, ℤ}
use Rattle.clauses.specs.Clauses.{variable_of}

-- A literal whose negation is a 32-bit word too.
pub record Negatable (x : ℤ) : Type 0 where
  pub fits : variable_of x < 2 ^ 31

-- The literal that is meant.
pub record LiteralOf (meant r : ℤ) : Type 0 where
  pub is : r ≡ meant
  pub negatable : Negatable r
