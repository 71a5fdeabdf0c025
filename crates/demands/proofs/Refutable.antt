-- A problem without a witness at its bound: the judge of its refutations says yes to some words, in any CNF room and work areas
-- with the words it needs. Assumes nothing.
use mathlib.Core.Path.{◌≡◌, ◌∙◌}
use mathlib.Core.List.{List}
use Prim.Native.Nat.{ℕ, ◌≤◌}
use lib.IntN.{ℤ}
use lib.ListN.{length}
use Rattle.std.specs.Prelude.{Result, Ok}
use Rattle.clauses.specs.Refutations.{steps_of, numbers_area, clauses_area}
use Rattle.meaning.specs.Problem.{problem}
use Rattle.meaning.specs.Witnesses.{Witness}
use Rattle.meaning.specs.Cnf.{cnf, cnf_words, variables}
use Rattle.meaning.specs.Calls.{WellFormed}
use Rattle.pairing.specs.Refutable.{AcceptedRefutation}
use Rattle.pairing.proofs.Refutable.{problem_refutable_words}
use Rattle.checker.specs.declared.Unrefuted.{Unrefuted}
use Rattle.checker.specs.Refutation.{JudgedAs}
use Rattle.checker.proofs.RefutedUnique.{same_answer}

-- The answer to words that are accepted.
pub call_yes : {version : ℕ} {ws : List ℕ} (a : AcceptedRefutation version ws)
    {room : List ℤ} {numbers clauses : List ℕ} {r : Result Unit Unrefuted} {room' : List ℤ} {numbers' clauses' : List ℕ}
    → length (cnf_words (problem version ws)) ≤ length room → numbers_area (variables (problem version ws)) ≤ length numbers
    → clauses_area (cnf (problem version ws)) (steps_of a.words) ≤ length clauses
    → JudgedAs version ws a.words room numbers clauses r room' numbers' clauses' → r ≡ Ok tt
call_yes a {room} {numbers} {clauses} {r} l p q j =
    same_answer r (Ok tt) (j.answered ∙ a.accepted (length room) (length numbers) (length clauses) l p q)

pub refutable_call : (version : ℕ) (ws : List ℕ) → WellFormed version ws → ((bs : List ℕ) → Witness (problem version ws) bs → ⊥)
    → (a : AcceptedRefutation version ws)
    × ((room : List ℤ) (numbers clauses : List ℕ) (r : Result Unit Unrefuted) (room' : List ℤ) (numbers' clauses' : List ℕ)
    → length (cnf_words (problem version ws)) ≤ length room → numbers_area (variables (problem version ws)) ≤ length numbers
    → clauses_area (cnf (problem version ws)) (steps_of a.words) ≤ length clauses
    → JudgedAs version ws a.words room numbers clauses r room' numbers' clauses' → r ≡ Ok tt)
refutable_call version ws formed none =
    let a = problem_refutable_words version ws formed none in (a, λ room numbers clauses r room' numbers' clauses'. call_yes a)
