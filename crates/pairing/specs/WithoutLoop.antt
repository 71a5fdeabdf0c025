-- "Document 000 reads a path without a loop only if no loop closes": witnesses read so. Assumes nothing.
use Rattle.std.specs.Prelude.{List, ◌≡◌, ℕ, ◌≤◌}
use Rattle.meaning.specs.Problem.{Problem}
use Rattle.meaning.specs.Bounded.{prefix}
use Rattle.meaning.specs.Witnesses.{shape, Closes, Witness}

-- A witness as document 000 reads it: a prefix is shown only of a run that closes no loop.
pub record StrictWitness (p : Problem) (bs : List ℕ) : Type 0 where
  pub witness : Witness p bs
  pub no_loop : shape bs ≡ prefix → (l : ℕ) → l ≤ p.bound → Closes p bs l → ⊥
