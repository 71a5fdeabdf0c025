-- A CNF that no assignment satisfies: the judge says yes to some words, in any work areas with the words it needs. Assumes nothing.
use mathlib.Core.Path.{◌≡◌, ◌∙◌}
use mathlib.Core.List.{List}
use Prim.Native.Nat.{ℕ, ◌≤◌}
use lib.IntN.{ℤ}
use lib.ListN.{length}
use Rattle.answers.specs.Answers.{first_failing, granted}
use Rattle.clauses.specs.Clauses.{Assignment, Satisfies}
use Rattle.clauses.specs.CnfWords.{clauses_of, cnf_checks}
use Rattle.clauses.specs.Refutations.{steps_of, numbers_area, clauses_area}
use Rattle.clauses.specs.Refutable.{AcceptedWords}
use Rattle.clauses.proofs.RefutableWords.{refutable_words}
use Rattle.std.specs.Prelude.{Result, Ok}
use Rattle.refutation.specs.declared.NotRefuted.{NotRefuted}
use Rattle.refutation.specs.Promise.{Judged}
use Rattle.refutation.proofs.Unique.{same_answer}

-- The answer to words that are accepted.
pub judged_yes : {variables : ℕ} {cnf : List ℤ} (a : AcceptedWords variables cnf) {numbers clauses : List ℕ} {r : Result Unit NotRefuted} {numbers' clauses' : List ℕ}
    → numbers_area variables ≤ length numbers → clauses_area (clauses_of cnf) (steps_of a.words) ≤ length clauses
    → Judged variables cnf a.words numbers clauses r numbers' clauses' → r ≡ Ok tt
judged_yes a {numbers} {clauses} {r} p q j = same_answer r (Ok tt) (j.answered ∙ a.accepted (length numbers) (length clauses) p q)

pub refutable_judged : (variables : ℕ) (cnf : List ℤ) → first_failing (cnf_checks variables cnf) (granted 0) ≡ granted 0
    → ((a : Assignment) → length a ≡ variables → Satisfies a (clauses_of cnf) → ⊥)
    → (a : AcceptedWords variables cnf)
    × ((numbers clauses : List ℕ) (r : Result Unit NotRefuted) (numbers' clauses' : List ℕ)
    → numbers_area variables ≤ length numbers → clauses_area (clauses_of cnf) (steps_of a.words) ≤ length clauses
    → Judged variables cnf a.words numbers clauses r numbers' clauses' → r ≡ Ok tt)
refutable_judged variables cnf e unsatisfied = let a = refutable_words variables cnf e unsatisfied in (a, λ numbers clauses r numbers' clauses'. judged_yes a)
