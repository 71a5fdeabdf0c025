-- Laws of the judges' orders of checks: the numbers that they give, and what a count or a yes says of them. Assumes nothing.
use mathlib.Core.Path.{◌≡◌, refl, sym, ◌∙◌}
use mathlib.Core.Bool.{Bool, true, false, not, cond}
use mathlib.Core.List.{List, [], ◌∷◌, ◌++◌}
use Prim.Native.Nat.{ℕ, suc}
use lib.IntN.{ℤ}
use lib.Dec.{eqb, leb}
use lib.ListN.{length, take}
use Rattle.answers.specs.Lists.{all_of, numbered}
use Rattle.answers.specs.Answers.{Answer, Check, check, first_failing, granted, bad_cnf, bad_refutation}
use Rattle.clauses.specs.Clauses.{Clause, size}
use Rattle.clauses.specs.CnfWords.{clauses_of, ended, cnf_checks}
use Rattle.clauses.specs.Refutations.{Step, zeros, word_right, whole, refutation_checks, with_step, step_checks, area_checks, closing_checks, steps_of, last_is_empty, judge_steps, judge_clauses, judge_cnf, judged}
use Rattle.answers.proofs.Tests.{both_true, first_true, second_true, all_of_append, all_of_numbered}
use Rattle.answers.proofs.Answers.{place_of, passing, other_than, refusing, all_pass_if_granted, after_if_granted}

-- ════════ The judges' checks ════════

-- Their answers are 16, 11, 12 and 13, and no other.
module _ (k : ℕ) where
  words_other : (ws : List ℤ) (f : ℕ → ℤ → Check) (last : Check) → ((i : ℕ) (w : ℤ) → other_than k (f i w) ≡ true) → other_than k last ≡ true
      → all_of (other_than k) (numbered 0 ws f ++ (last ∷ [])) ≡ true
  words_other ws f last each e =
      all_of_append (other_than k) (numbered 0 ws f) (last ∷ []) ∙ both_true (all_of_numbered (other_than k) 0 ws f each) (both_true e refl)

  pub cnf_checks_other : not (eqb 16 k) ≡ true → (variables : ℕ) (ws : List ℤ) → all_of (other_than k) (cnf_checks variables ws) ≡ true
  unfolding cnf_checks
  cnf_checks_other e variables ws =
      both_true e
      (words_other ws (λ i w. check (leb (size w) variables) (bad_cnf i)) (check (ended ws) (bad_cnf (length ws))) (λ i w. e) e)

  pub refutation_checks_other : not (eqb 11 k) ≡ true → (variables C : ℕ) (ws : List ℤ) → all_of (other_than k) (refutation_checks variables C ws) ≡ true
  unfolding refutation_checks
  refutation_checks_other e variables C ws =
      words_other ws (λ i w. check (word_right variables C (zeros (take i ws)) w) (bad_refutation i)) (check (whole ws) (bad_refutation (length ws)))
      (λ i w. e) e

  pub area_checks_other : not (eqb 12 k) ≡ true → (variables : ℕ) (cs : List Clause) (ss : List Step) (m n : ℕ)
      → all_of (other_than k) (area_checks variables cs ss m n) ≡ true
  unfolding area_checks
  area_checks_other e variables cs ss m n = both_true e (both_true e refl)

  pub step_checks_other : not (eqb 13 k) ≡ true → (cs : List Clause) (i : ℕ) (ss : List Step) → all_of (other_than k) (step_checks cs i ss) ≡ true
  step_checks_other e cs i [] = refl
  step_checks_other e cs i (s ∷ ss) = both_true e (step_checks_other e (with_step cs s) (suc i) ss)

pub cnf_checks_refusing : (variables : ℕ) (ws : List ℤ) → all_of refusing (cnf_checks variables ws) ≡ true
cnf_checks_refusing = cnf_checks_other 0 refl

pub refutation_checks_refusing : (variables C : ℕ) (ws : List ℤ) → all_of refusing (refutation_checks variables C ws) ≡ true
refutation_checks_refusing = refutation_checks_other 0 refl

pub area_checks_refusing : (variables : ℕ) (cs : List Clause) (ss : List Step) (m n : ℕ) → all_of refusing (area_checks variables cs ss m n) ≡ true
area_checks_refusing = area_checks_other 0 refl

pub step_checks_refusing : (cs : List Clause) (i : ℕ) (ss : List Step) → all_of refusing (step_checks cs i ss) ≡ true
step_checks_refusing = step_checks_other 0 refl

-- ════════ Words that were counted ════════

-- A count that is granted: every check passed, and it is the one that comes after them.
counted : (cs : List Check) (m : ℕ) {n : ℕ} → all_of refusing cs ≡ true → granted n ≡ first_failing cs (granted m)
    → (all_of passing cs ≡ true) × (n ≡ m)
counted cs m r e =
    (all_pass_if_granted cs (granted m) r (sym e), sym (place_of (after_if_granted cs (granted m) r (sym e))))

pub cnf_counted : (variables : ℕ) (cnf : List ℤ) {n : ℕ} → granted n ≡ first_failing (cnf_checks variables cnf) (granted (length (clauses_of cnf)))
    → (all_of passing (cnf_checks variables cnf) ≡ true) × (n ≡ length (clauses_of cnf))
cnf_counted variables cnf = counted (cnf_checks variables cnf) (length (clauses_of cnf)) (cnf_checks_refusing variables cnf)

pub steps_counted : (variables clauses : ℕ) (ws : List ℤ) {n : ℕ}
    → granted n ≡ first_failing (refutation_checks variables clauses ws) (granted (length (steps_of ws)))
    → (all_of passing (refutation_checks variables clauses ws) ≡ true) × (n ≡ length (steps_of ws))
steps_counted variables clauses ws =
    counted (refutation_checks variables clauses ws) (length (steps_of ws)) (refutation_checks_refusing variables clauses ws)

-- ════════ Steps that were judged: yes, 13 or 14 ════════

abbrev judged_check : Check → Bool
judged_check c = judged c.otherwise

judged_first : (cs : List Check) (after : Answer) → all_of judged_check cs ≡ true → judged after ≡ true → judged (first_failing cs after) ≡ true
judged_first [] after e a = a
judged_first (c ∷ cs) after e a =
    go c.passes (first_true (judged_check c) (all_of judged_check cs) e) (judged_first cs after (second_true (judged_check c) (all_of judged_check cs) e) a)
  where
    go : (b : Bool) → judged c.otherwise ≡ true → judged (first_failing cs after) ≡ true → judged (cond b (first_failing cs after) c.otherwise) ≡ true
    go true o rest = rest
    go false o rest = o

step_checks_judged : (cs : List Clause) (i : ℕ) (ss : List Step) → all_of judged_check (step_checks cs i ss) ≡ true
step_checks_judged cs i [] = refl
step_checks_judged cs i (s ∷ ss) = step_checks_judged _ (suc i) ss

pub steps_judged : (cs : List Clause) (ss : List Step) → judged (judge_steps cs ss) ≡ true
unfolding judge_steps
steps_judged cs ss =
    judged_first (step_checks cs 0 ss) _ (step_checks_judged cs 0 ss) (judged_first (closing_checks ss) (granted 0) refl refl)

-- ════════ One judge by another ════════

-- Past 16 it is the judge of clauses that are given.
pub cnf_judged : (variables : ℕ) (cnf ws : List ℤ) (m n : ℕ)
    → judge_cnf variables cnf ws m n ≡ first_failing (cnf_checks variables cnf) (judge_clauses variables (clauses_of cnf) ws m n)
unfolding judge_cnf judge_clauses judge_steps
cnf_judged variables cnf ws m n = refl

-- Past 11 and 12 it is the judge of steps.
pub clauses_judged : (variables : ℕ) (cs : List Clause) (ws : List ℤ) (m n : ℕ)
    → judge_clauses variables cs ws m n
    ≡ first_failing (refutation_checks variables (length cs) ws)
    (first_failing (area_checks variables cs (steps_of ws) m n) (judge_steps cs (steps_of ws)))
unfolding judge_clauses
clauses_judged variables cs ws m n = refl

-- ════════ What a judge's yes says ════════

-- Every step is accepted, and the last clause is empty.
pub steps_granted : (cs : List Clause) (ss : List Step) {p : ℕ} → judge_steps cs ss ≡ granted p
    → (all_of passing (step_checks cs 0 ss) ≡ true) × (last_is_empty ss ≡ true)
unfolding judge_steps
steps_granted cs ss e =
    let closed = after_if_granted (step_checks cs 0 ss) _ (step_checks_refusing cs 0 ss) e in
    let end = all_pass_if_granted (closing_checks ss) (granted 0) refl closed in
    (all_pass_if_granted (step_checks cs 0 ss) _ (step_checks_refusing cs 0 ss) e, first_true (last_is_empty ss) true end)

pub clauses_granted : (variables : ℕ) (cs : List Clause) (ws : List ℤ) (m n : ℕ) {p : ℕ} → judge_clauses variables cs ws m n ≡ granted p
    → judge_steps cs (steps_of ws) ≡ granted p
clauses_granted variables cs ws m n e =
    after_if_granted (area_checks variables cs (steps_of ws) m n) _ (area_checks_refusing variables cs (steps_of ws) m n)
    (after_if_granted (refutation_checks variables (length cs) ws) _ (refutation_checks_refusing variables (length cs) ws)
    (sym (clauses_judged variables cs ws m n) ∙ e))

pub cnf_granted : (variables : ℕ) (cnf ws : List ℤ) (m n : ℕ) {p : ℕ} → judge_cnf variables cnf ws m n ≡ granted p
    → judge_clauses variables (clauses_of cnf) ws m n ≡ granted p
cnf_granted variables cnf ws m n e =
    after_if_granted (cnf_checks variables cnf) _ (cnf_checks_refusing variables cnf) (sym (cnf_judged variables cnf ws m n) ∙ e)
