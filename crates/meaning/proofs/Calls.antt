-- Each call's order of answers by its parts: the check of the problem, and what comes after it. Assumes nothing.
use mathlib.Core.Path.{◌≡◌, refl}
use mathlib.Core.List.{List, [], ◌∷◌, ◌++◌}
use Prim.Native.Nat.{ℕ}
use lib.IntN.{ℤ}
use lib.ListN.{length}
use Rattle.answers.specs.Answers.{first_failing, first_failing_part, granted}
use Rattle.clauses.specs.Refutations.{steps_of, judge_steps, judge_clauses}
use Rattle.meaning.specs.Problem.{problem}
use Rattle.meaning.specs.Cnf.{cnf, cnf_words, variables}
use Rattle.meaning.specs.Calls.{check_parts, witness_parts, judge_bytes, room_checks, write_cnf, judge_witness, preparing_parts, step_parts, judge_refutation}
use Rattle.meaning.proofs.Check.{problem_checked, checked_then}

module _ (version : ℕ) (ws : List ℕ) where
  pub write_cnf_is : (room : ℕ)
      → write_cnf version ws room
      ≡ problem_checked version ws (first_failing (room_checks (problem version ws) room) (granted (length (cnf_words (problem version ws)))))
  unfolding write_cnf
  write_cnf_is room = checked_then version ws (room_checks (problem version ws) room ∷ []) (granted (length (cnf_words (problem version ws))))

  pub judge_witness_is : (bs : List ℕ) → judge_witness version ws bs ≡ problem_checked version ws (judge_bytes (problem version ws) bs)
  unfolding judge_witness judge_bytes
  judge_witness_is bs = checked_then version ws (witness_parts (problem version ws) bs) (granted 0)

  module _ (refutation : List ℤ) (room by_numbers by_clauses : ℕ) where
    -- After 6 it is the judge of the CNF's clauses.
    pub refutation_by_clauses :
        judge_refutation version ws refutation room by_numbers by_clauses
        ≡ problem_checked version ws
        (first_failing (room_checks (problem version ws) room)
        (judge_clauses (variables (problem version ws)) (cnf (problem version ws)) refutation by_numbers by_clauses))
    unfolding judge_refutation judge_clauses judge_steps
    refutation_by_clauses =
        checked_then version ws (preparing_parts (problem version ws) refutation room by_numbers by_clauses ++ step_parts (problem version ws) refutation) (granted 0)

    -- After 12 it is the judge of the steps.
    pub refutation_by_steps :
        judge_refutation version ws refutation room by_numbers by_clauses
        ≡ first_failing_part
        (check_parts version ws ++ preparing_parts (problem version ws) refutation room by_numbers by_clauses)
        (judge_steps (cnf (problem version ws)) (steps_of refutation))
    unfolding judge_refutation judge_steps
    refutation_by_steps = refl
