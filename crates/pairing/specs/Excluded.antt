-- What a problem whose CNF can't be satisfied excludes: Q-6 of document 02. Assumes nothing.
use Rattle.std.specs.Prelude.{List, ◌≡◌, ℕ, ◌≤◌, length}
use Rattle.meaning.specs.Problem.{Problem}
use Rattle.meaning.specs.Bounded.{lasso}
use Rattle.meaning.specs.Witnesses.{shape, Witness}
use Rattle.pairing.specs.Bounds.{at_bound}

-- "a refutation excludes lassos at all bounds to k but prefixes at k only"
pub record Excluded (p : Problem) : Type 0 where
  pub lassos : (j : ℕ) → j ≤ p.bound → (bs : List ℕ) → Witness (at_bound p j) bs → (l : ℕ) → shape bs ≡ lasso l → ⊥
  -- every witness at k, so every prefix
  pub at_k : (bs : List ℕ) → Witness p bs → ⊥
  -- where D is 0, "every witness at every bound 0 to k" as in document 01
  pub unconstrained : length p.constraints ≡ 0 → (j : ℕ) → j ≤ p.bound → (bs : List ℕ) → Witness (at_bound p j) bs → ⊥
