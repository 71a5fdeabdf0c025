-- The clauses of a list, looked up by their numbers from 1 on. Assumes nothing.
use mathlib.Core.Path.{◌≡◌, refl}
use mathlib.Core.List.{List, [], ◌∷◌}
use mathlib.Core.Option.{some, none-ne-some, some-injective}
use Prim.Native.Nat.{ℕ, zero, suc, ◌<◌}
use native.Mathlib.Nat.{not-suc-le-zero, le_of_suc-le-suc}
use lib.ListN.{length, get_or}
use Rattle.clauses.specs.Clauses.{Clause, Assignment, clause_true, all_true, Satisfies}
use Rattle.clauses.specs.Refutations.{SatisfiesNamed, clause_numbered}
use Rattle.answers.proofs.Tests.{first_true, second_true}

-- The clause at a place has the number after it.
pub numbered_some : (cs : List Clause) (n : ℕ) → n < length cs → clause_numbered cs (suc n) ≡ some (get_or cs n [])
numbered_some [] n l = absurd (not-suc-le-zero l)
numbered_some (c ∷ cs) zero l = refl
numbered_some (c ∷ cs) (suc n) l = numbered_some cs n (le_of_suc-le-suc l)

-- Of satisfied clauses, those that have a number are true.
pub numbered_satisfied : (a : Assignment) (cs : List Clause) → Satisfies a cs → SatisfiesNamed a (clause_numbered cs)
numbered_satisfied a cs s zero c e = absurd (none-ne-some c e)
numbered_satisfied a [] s (suc n) c e = absurd (none-ne-some c e)
numbered_satisfied a (d ∷ cs) s (suc zero) c e = rw (← some-injective d c e) (first_true (clause_true a d) (all_true a cs) s)
numbered_satisfied a (d ∷ cs) s (suc (suc n)) c e = numbered_satisfied a cs (second_true (clause_true a d) (all_true a cs) s) (suc n) c e
