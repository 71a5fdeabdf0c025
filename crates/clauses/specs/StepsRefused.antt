-- When a step of a refutation is refused, by its number. Assumes nothing.
use Rattle.std.specs.Prelude.{◌≡◌, Bool, true, false, List, [], ◌++◌, map, ℕ, ◌<◌, length, get_or, take}
use Rattle.clauses.specs.Clauses.{Clause}
use Rattle.clauses.specs.Refutations.{Step, step, step_accepted, clause_numbered}

-- The clauses that the hints of step i can name: those of the CNF, then those of the steps before it.
abbrev pub clauses_before : List Clause → List Step → ℕ → List Clause
clauses_before cs ss i = cs ++ map (λ (s : Step). s.clause) (take i ss)

-- Step i passes; past the last one stands the empty clause without hints.
abbrev pub passes : List Clause → List Step → ℕ → Bool
passes cs ss i = step_accepted (clause_numbered (clauses_before cs ss i)) (get_or ss i (step [] []))

-- Step i is the first that is refused.
pub record FirstRefused (cs : List Clause) (ss : List Step) (i : ℕ) : Type 0 where
  pub within : i < length ss
  pub refused : passes cs ss i ≡ false
  pub earlier_pass : (j : ℕ) → j < i → passes cs ss j ≡ true
