-- Demand 3: models of a problem's CNF and its witnesses pair off, and both are there at the same bounds. Assumes nothing.
use Rattle.std.specs.Prelude.{List, ◌≡◌, ℕ, ◌≤◌, length}
use Rattle.clauses.specs.Clauses.{Assignment, Satisfies}
use Rattle.meaning.specs.Problem.{Problem}
use Rattle.meaning.specs.Witnesses.{Witness}
use Rattle.meaning.specs.Cnf.{cnf, variables}
use Rattle.pairing.specs.ModelLaws.{reading}
use Rattle.pairing.specs.Bytes.{bytes_of_reading}
use Rattle.pairing.specs.Bounds.{at_bound}

-- A satisfying assignment of the problem's CNF: a list of V Bools.
pub record Model (p : Problem) (a : Assignment) : Type 0 where
  pub length_right : length a ≡ variables p
  pub satisfies : Satisfies a (cnf p)

-- "Witnesses at k and satisfying assignments pair off one to one": a map each way, inverse both ways.
pub record PairsOff (p : Problem) : Type 0 where
  pub witness_of : Assignment → List ℕ
  pub model_of : List ℕ → Assignment
  pub to_witness : (a : Assignment) → Model p a → Witness p (witness_of a)
  pub to_model : (bs : List ℕ) → Witness p bs → Model p (model_of bs)
  pub model_again : (a : Assignment) → Model p a → model_of (witness_of a) ≡ a
  pub witness_again : (bs : List ℕ) → Witness p bs → witness_of (model_of bs) ≡ bs
  -- the witness is read off the assignment's selectors, latches at 0 and inputs
  pub reads_off : (a : Assignment) → witness_of a ≡ bytes_of_reading p (reading p a)

-- Some bound from 0 to k has a witness.
pub record WitnessAtOrBelow (p : Problem) : Type 0 where
  pub at : ℕ
  pub bytes : List ℕ
  pub within : at ≤ p.bound
  pub witness : Witness (at_bound p at) bytes
