-- "Version 1 files mean D = 0 and keep every answer": the check, the CNF and the judge of a witness are in version 1 those of document 01, without constraints.
-- Assumes nothing.
use mathlib.Core.Path.{◌≡◌, refl, sym, ◌∙◌, ap}
use mathlib.Core.Bool.{true}
use mathlib.Core.List.{List, [], ◌∷◌, ◌++◌}
use Prim.Native.Nat.{ℕ, ◌+◌}
use Rattle.answers.specs.Lists.{all_of, numbers, each, joined}
use Rattle.answers.specs.Answers.{Answer, check, first_failing, first_failing_part, granted}
use Rattle.clauses.specs.Clauses.{Clause}
use Rattle.answers.proofs.Tests.{all_of_map}
use Rattle.answers.proofs.Answers.{passing, first_failing_passed, parts_append}
use Rattle.answers.specs.Limits.{constraints_limit}
use Rattle.meaning.specs.Witnesses.{constraint_broken, shape, position, byte_checks, reset_checks, loop_checks, position_checks, formula_checks}
use Rattle.meaning.specs.Problem.{Problem, header_words, problem}
use Rattle.meaning.specs.Runs.{meets_constraints}
use Rattle.meaning.specs.Cnf.{positions, constraints_item, cnf}
use Rattle.meaning.specs.Calls.{check_parts, witness_parts, judge_bytes, judge_witness}
use Rattle.meaning.specs.VersionOne.{check_before, items_before, witness_parts_before}
use Rattle.meaning.proofs.Numbers.{all_of_numbers_if}
use Rattle.meaning.proofs.ShownBy.{none_in_version_1}

-- ════════ The check ════════

-- D is 0, which is within its limit, and there is no constraint to check; whatever comes after the check.
pub check_in_version_1 : (ws : List ℕ) (after : Answer) → first_failing_part (check_parts 1 ws) after ≡ first_failing_part (check_before ws) after
unfolding header_words constraints_limit
check_in_version_1 ws after = refl

-- ════════ The CNF ════════

nothing_each : {A : Type 0} (xs : List A) → each xs (λ (x : A). ◌++◌ {A = Clause} [] []) ≡ []
nothing_each [] = refl
nothing_each (x ∷ xs) = nothing_each xs

no_constraint : (p : Problem) → p.constraints ≡ [] → constraints_item p ≡ []
no_constraint p none = rw none (nothing_each (positions p))

pub cnf_without_constraints : (p : Problem) → p.constraints ≡ [] → cnf p ≡ joined (items_before p)
unfolding cnf
cnf_without_constraints p none = rw (no_constraint p none)

pub cnf_in_version_1 : (ws : List ℕ) → cnf (problem 1 ws) ≡ joined (items_before (problem 1 ws))
cnf_in_version_1 ws = cnf_without_constraints (problem 1 ws) (none_in_version_1 ws)

-- ════════ The judge of a witness ════════

-- Without constraints every position passes.
positions_pass : (p : Problem) (bs : List ℕ) → p.constraints ≡ [] → all_of passing (position_checks p bs) ≡ true
unfolding meets_constraints
positions_pass p bs none =
    all_of_map passing (λ t. check (meets_constraints p (position p bs t)) (constraint_broken t)) (numbers 0 (p.bound + 1))
    ∙ all_of_numbers_if (λ t. meets_constraints p (position p bs t)) (p.bound + 1) (λ t l. rw none)

answers_before : (p : Problem) (bs : List ℕ) → p.constraints ≡ []
    → first_failing_part (witness_parts p bs) (granted 0) ≡ first_failing_part (witness_parts_before p bs) (granted 0)
answers_before p bs none =
    ap (λ (a : Answer). first_failing_part (byte_checks p bs ∷ reset_checks p bs ∷ loop_checks p bs (shape bs) ∷ []) a)
    (first_failing_passed (position_checks p bs) (first_failing (formula_checks p bs) (granted 0)) (positions_pass p bs none))

pub judged_in_version_1 : (ws bs : List ℕ) → judge_bytes (problem 1 ws) bs ≡ first_failing_part (witness_parts_before (problem 1 ws) bs) (granted 0)
unfolding judge_bytes
judged_in_version_1 ws bs = answers_before (problem 1 ws) bs (none_in_version_1 ws)

pub judge_in_version_1 : (ws bs : List ℕ) → judge_witness 1 ws bs ≡ first_failing_part (check_before ws ++ witness_parts_before (problem 1 ws) bs) (granted 0)
unfolding judge_witness header_words constraints_limit
judge_in_version_1 ws bs =
    parts_append (check_parts 1 ws) (witness_parts (problem 1 ws) bs) (granted 0)
    ∙ ap (first_failing_part (check_parts 1 ws)) (answers_before (problem 1 ws) bs (none_in_version_1 ws))
    ∙ sym (parts_append (check_before ws) (witness_parts_before (problem 1 ws) bs) (granted 0))
