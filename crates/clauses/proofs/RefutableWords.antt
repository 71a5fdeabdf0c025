-- A CNF that no assignment satisfies has words that its judge accepts, wherever the work areas have the words it needs. Assumes nothing.
use mathlib.Core.Path.{◌≡◌, refl, ◌∙◌}
use mathlib.Core.Bool.{true}
use mathlib.Core.List.{List}
use Prim.Native.Nat.{ℕ, ◌≤◌}
use borrow.Author.Tests.{le-leb}
use lib.IntN.{ℤ}
use lib.ListN.{length}
use Rattle.answers.specs.Lists.{all_of}
use Rattle.answers.specs.Answers.{first_failing, granted}
use Rattle.clauses.specs.Clauses.{Clause, Assignment, Satisfies}
use Rattle.clauses.specs.CnfWords.{clauses_of, cnf_checks}
use Rattle.clauses.specs.Refutations.{Step, steps_of, words_of_steps, refutation_checks, area_checks, numbers_area, clauses_area, judge_steps, judge_cnf}
use Rattle.clauses.specs.Refutable.{Refutation, WordsFit, AcceptedWords}
use Rattle.answers.proofs.Tests.{both_true}
use Rattle.answers.proofs.Answers.{passing, first_failing_passed, all_pass_if_granted}
use Rattle.clauses.proofs.Judges.{cnf_checks_refusing, refutation_checks_refusing}
use Rattle.clauses.proofs.CnfPassed.{cnf_right}
use Rattle.clauses.proofs.WordSizes.{passed_words_fit}
use Rattle.clauses.proofs.Complete.{refutable}

-- ════════ When the judge says yes ════════

pub areas_pass : (variables : ℕ) (cs : List Clause) (ss : List Step) (m n : ℕ) → numbers_area variables ≤ m → clauses_area cs ss ≤ n
    → all_of passing (area_checks variables cs ss m n) ≡ true
unfolding area_checks
areas_pass variables cs ss m n p q = both_true (le-leb (numbers_area variables) m p) (both_true (le-leb (clauses_area cs ss) n q) refl)

-- Where 16, 11 and 12 pass, and so do the steps.
judge_cnf_yes : (variables : ℕ) (cnf ws : List ℤ) (m n : ℕ) → all_of passing (cnf_checks variables cnf) ≡ true
    → all_of passing (refutation_checks variables (length (clauses_of cnf)) ws) ≡ true
    → all_of passing (area_checks variables (clauses_of cnf) (steps_of ws) m n) ≡ true
    → judge_steps (clauses_of cnf) (steps_of ws) ≡ granted 0 → judge_cnf variables cnf ws m n ≡ granted 0
unfolding judge_cnf judge_steps
judge_cnf_yes variables cnf ws m n in_cnf in_words_lem in-areas in-steps =
    first_failing_passed (cnf_checks variables cnf) _ in_cnf
    ∙ first_failing_passed (refutation_checks variables (length (clauses_of cnf)) ws) _ in_words_lem
    ∙ first_failing_passed (area_checks variables (clauses_of cnf) (steps_of ws) m n) _ in-areas
    ∙ in-steps

-- ════════ The words of a refutation ════════

module _ {variables : ℕ} {cs : List Clause} (r : Refutation variables cs) where
  abbrev pub refutation_words : List ℤ
  refutation_words = words_of_steps r.steps

  pub steps_yes : judge_steps cs (steps_of refutation_words) ≡ granted 0
  steps_yes = rw r.read_back r.accepted

  pub words_pass : all_of passing (refutation_checks variables (length cs) refutation_words) ≡ true
  words_pass =
      all_pass_if_granted (refutation_checks variables (length cs) refutation_words) (granted 0)
      (refutation_checks_refusing variables (length cs) refutation_words) r.words_right

  pub refutation_fits : WordsFit variables cs refutation_words
  refutation_fits = passed_words_fit variables cs refutation_words words_pass

-- ════════ The theorem ════════

pub refutable_words : (variables : ℕ) (cnf : List ℤ) → first_failing (cnf_checks variables cnf) (granted 0) ≡ granted 0
    → ((a : Assignment) → length a ≡ variables → Satisfies a (clauses_of cnf) → ⊥) → AcceptedWords variables cnf
refutable_words variables cnf e unsatisfied =
    let passed = all_pass_if_granted (cnf_checks variables cnf) (granted 0) (cnf_checks_refusing variables cnf) e in
    let r = refutable variables (clauses_of cnf) (cnf_right variables cnf passed).0 unsatisfied in
    record {
      words = refutation_words r;
      accepted = λ m n p q.
          judge_cnf_yes variables cnf (refutation_words r) m n passed (words_pass r)
          (areas_pass variables (clauses_of cnf) (steps_of (refutation_words r)) m n p q) (steps_yes r);
      words_fit = refutation_fits r;
    }
