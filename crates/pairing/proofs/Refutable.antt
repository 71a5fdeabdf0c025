-- Where no witness is at the bound, the judge of the problem's refutations accepts some words. Assumes nothing.
use mathlib.Core.Path.{◌≡◌, refl, ◌∙◌}
use mathlib.Core.Bool.{true}
use mathlib.Core.List.{List}
use Prim.Native.Nat.{ℕ, ◌+◌, ◌^◌, ◌≤◌, ◌<◌}
use native.Mathlib.Omega.{arith}
use borrow.Author.Tests.{le-leb}
use lib.IntN.{ℤ, pos}
use lib.ListN.{length, get_or}
use Rattle.answers.specs.Lists.{all_of}
use Rattle.answers.specs.Limits.{variables_limit}
use Rattle.answers.specs.Answers.{granted}
use Rattle.clauses.specs.Clauses.{size}
use Rattle.clauses.specs.Refutations.{steps_of, refutation_checks, area_checks, judge_steps}
use Rattle.answers.proofs.Tests.{both_true}
use Rattle.answers.proofs.Answers.{passing, first_failing_passed}
use Rattle.clauses.proofs.Judges.{clauses_judged}
use Rattle.clauses.proofs.WordSizes.{words_below}
use Rattle.clauses.proofs.RefutableWords.{areas_pass, refutation_words, steps_yes, words_pass, refutation_fits}
use Rattle.meaning.specs.Problem.{problem}
use Rattle.meaning.specs.Witnesses.{Witness}
use Rattle.meaning.specs.Cnf.{cnf, cnf_words, variables}
use Rattle.meaning.specs.Calls.{WellFormed, room_checks, judge_refutation}
use Rattle.meaning.proofs.Check.{checked_if_well_formed, proper_if_well_formed}
use Rattle.meaning.proofs.Calls.{refutation_by_clauses}
use Rattle.meaning.proofs.Ranges.{variables_fit}
use Rattle.pairing.specs.Refutable.{AcceptedRefutation}
use Rattle.pairing.proofs.AtOrBelow.{problem_refutable}

module _ (version : ℕ) (ws : List ℕ) (formed : WellFormed version ws) where
  -- Where 6, 11 and 12 pass, and so do the steps.
  judge_refutation_yes : (refutation : List ℤ) (room m n : ℕ) → length (cnf_words (problem version ws)) ≤ room
      → all_of passing (refutation_checks (variables (problem version ws)) (length (cnf (problem version ws))) refutation) ≡ true
      → all_of passing (area_checks (variables (problem version ws)) (cnf (problem version ws)) (steps_of refutation) m n) ≡ true
      → judge_steps (cnf (problem version ws)) (steps_of refutation) ≡ granted 0
      → judge_refutation version ws refutation room m n ≡ granted 0
  judge_refutation_yes refutation room m n in-room in_words_lem in-areas in-steps =
      refutation_by_clauses version ws refutation room m n
      ∙ checked_if_well_formed version ws _ formed
      ∙ first_failing_passed (room_checks (problem version ws) room) _ (both_true (le-leb (length (cnf_words (problem version ws))) room in-room) refl)
      ∙ clauses_judged (variables (problem version ws)) (cnf (problem version ws)) refutation m n
      ∙ first_failing_passed (refutation_checks (variables (problem version ws)) (length (cnf (problem version ws))) refutation) _ in_words_lem
      ∙ first_failing_passed (area_checks (variables (problem version ws)) (cnf (problem version ws)) (steps_of refutation) m n) _ in-areas
      ∙ in-steps

  pub problem_refutable_words : ((bs : List ℕ) → Witness (problem version ws) bs → ⊥) → AcceptedRefutation version ws
  problem_refutable_words none =
      let r = problem_refutable (problem version ws) (proper_if_well_formed version ws formed) none in
      record {
        words = refutation_words r;
        accepted = λ room m n l p q.
            judge_refutation_yes (refutation_words r) room m n l (words_pass r)
            (areas_pass (variables (problem version ws)) (cnf (problem version ws)) (steps_of (refutation_words r)) m n p q) (steps_yes r);
        words_fit = refutation_fits r;
      }

  -- A problem's variables are few, so where its clauses and the steps together fit a signed word, the size of each word does.
  pub refutation_below : (a : AcceptedRefutation version ws) → length (cnf (problem version ws)) + length (steps_of a.words) < 2 ^ 31
      → (i : ℕ) → i < length a.words → size (get_or a.words i (pos 0)) < 2 ^ 31
  unfolding variables_limit
  refutation_below a few =
      words_below (variables (problem version ws)) (cnf (problem version ws)) a.words a.words_fit
      (omega (arith, variables_fit (problem version ws) (proper_if_well_formed version ws formed))) few
