-- Case T's CNF as bare words and its refutations, with steps that are trivially true among them, and the signs of the word 0, by
-- computing. Assumes nothing.
use Rattle.std.specs.Prelude.{◌≡◌, refl, true, false, List, [], ◌∷◌, ℤ, pos}
use Rattle.std.proofs.Math.Option.{none}
use Rattle.answers.specs.Limits.{variables_limit}
use Rattle.answers.specs.Answers.{answer}
use Rattle.clauses.specs.Clauses.{minus}
use Rattle.clauses.specs.CnfWords.{cnf_checks}
use Rattle.clauses.specs.Refutations.{step, judge_cnf, refutation_checks, area_checks, step_accepted, both_signs}

-- The words of case T, a clause a line.
abbrev pub t_cnf : List ℤ
t_cnf =
    pos 1 ∷ pos 0
    ∷ minus 2 ∷ pos 0
    ∷ minus 3 ∷ minus 2 ∷ minus 2 ∷ pos 0
    ∷ minus 3 ∷ pos 2 ∷ pos 2 ∷ pos 0
    ∷ minus 4 ∷ pos 2 ∷ pos 0
    ∷ pos 4 ∷ minus 2 ∷ pos 0
    ∷ minus 5 ∷ pos 4 ∷ pos 0
    ∷ pos 5 ∷ minus 4 ∷ pos 0
    ∷ minus 3 ∷ minus 6 ∷ pos 5 ∷ pos 0
    ∷ minus 3 ∷ pos 6 ∷ minus 5 ∷ pos 0
    ∷ minus 6 ∷ pos 3 ∷ pos 0
    ∷ pos 4 ∷ pos 0
    ∷ []

-- "Refutation 0 2 12 5 0 is accepted"
abbrev pub t_steps : List ℤ
t_steps = pos 0 ∷ pos 2 ∷ pos 12 ∷ pos 5 ∷ pos 0 ∷ []

pub t_refuted : judge_cnf 6 t_cnf t_steps 7 13 ≡ answer 0 0
unfolding judge_cnf refutation_checks area_checks step_accepted cnf_checks variables_limit
t_refuted = refl

-- "0 12 5 0 is refused (13 at 0)"
abbrev pub t_other_steps : List ℤ
t_other_steps = pos 0 ∷ pos 12 ∷ pos 5 ∷ pos 0 ∷ []

pub t_refused : judge_cnf 6 t_cnf t_other_steps 7 13 ≡ answer 13 0
unfolding judge_cnf refutation_checks area_checks step_accepted cnf_checks variables_limit
t_refused = refl

-- Document 02, Q-4: `1 -1 0 0` in front of T's refutation is accepted.
abbrev pub t_trivial_first : List ℤ
t_trivial_first = pos 1 ∷ minus 1 ∷ pos 0 ∷ pos 0 ∷ t_steps

pub t_trivial_accepted : judge_cnf 6 t_cnf t_trivial_first 7 14 ≡ answer 0 0
unfolding judge_cnf refutation_checks area_checks step_accepted cnf_checks variables_limit
t_trivial_accepted = refl

-- Its clause has the number 13, so the step after it is 14: (-4) from clauses 2 and 5, and then the empty clause from 12 and 14.
abbrev pub t_trivial_numbered : List ℤ
t_trivial_numbered =
    pos 1 ∷ minus 1 ∷ pos 0 ∷ pos 0
    ∷ minus 4 ∷ pos 0 ∷ pos 2 ∷ pos 5 ∷ pos 0
    ∷ pos 0 ∷ pos 12 ∷ pos 14 ∷ pos 0
    ∷ []

pub t_trivial_has_a_number : judge_cnf 6 t_cnf t_trivial_numbered 7 15 ≡ answer 0 0
unfolding judge_cnf refutation_checks area_checks step_accepted cnf_checks variables_limit
t_trivial_has_a_number = refl

-- With a hint, `1 -1 0 1 0`, it is refused.
pub t_trivial_refused : judge_cnf 6 t_cnf (pos 1 ∷ minus 1 ∷ pos 0 ∷ pos 1 ∷ pos 0 ∷ []) 7 13 ≡ answer 13 0
unfolding judge_cnf refutation_checks area_checks step_accepted cnf_checks variables_limit
t_trivial_refused = refl

-- As the last step it leaves the refutation open.
pub t_trivial_last : judge_cnf 6 t_cnf (pos 1 ∷ minus 1 ∷ pos 0 ∷ pos 0 ∷ []) 7 13 ≡ answer 14 1
unfolding judge_cnf refutation_checks area_checks step_accepted cnf_checks variables_limit
t_trivial_last = refl

-- As a hint, 13 in front of T's own, it refuses the step.
abbrev pub t_trivial_hinted : List ℤ
t_trivial_hinted = pos 1 ∷ minus 1 ∷ pos 0 ∷ pos 0 ∷ pos 0 ∷ pos 13 ∷ pos 2 ∷ pos 12 ∷ pos 5 ∷ pos 0 ∷ []

pub t_trivial_serves_not : judge_cnf 6 t_cnf t_trivial_hinted 7 14 ≡ answer 13 1
unfolding judge_cnf refutation_checks area_checks step_accepted cnf_checks variables_limit
t_trivial_serves_not = refl

-- The word 0 is no literal: though it is its own negation, it has no sign, and a clause of it is not trivially true. A variable has.
zero_has_no_sign : both_signs (pos 0 ∷ []) ≡ false
zero_has_no_sign = refl

zero_is_refused : step_accepted (λ h. none) (step (pos 0 ∷ []) []) ≡ false
unfolding step_accepted
zero_is_refused = refl

one_has_both_signs : both_signs (pos 1 ∷ minus 1 ∷ []) ≡ true
one_has_both_signs = refl
