-- 16 passes exactly the words of clauses: V within its limit, and the words those of clauses over V variables. Assumes nothing.
use mathlib.Core.Path.{◌≡◌, refl, sym, ◌∙◌, ap}
use mathlib.Core.Logic.{◌↔◌}
use mathlib.Core.Bool.{Bool, true}
use mathlib.Core.List.{List, [], ◌∷◌}
use Prim.Native.Nat.{ℕ, ◌≤◌, zero-le}
use borrow.Author.Tests.{leb-true, le-leb}
use lib.IntN.{ℤ, pos}
use lib.Dec.{leb}
use lib.ListN.{length}
use Rattle.answers.specs.Lists.{all_of, numbered}
use Rattle.answers.specs.Limits.{variables_limit}
use Rattle.answers.specs.Answers.{first_failing, check, granted, bad_cnf}
use Rattle.clauses.specs.Clauses.{Clause, size, literal_within, Within}
use Rattle.clauses.specs.CnfWords.{ended_by_0, words_of, clauses_of, ended, cnf_checks}
use Rattle.answers.proofs.Tests.{both_true, first_true, second_true, all_of_append, all_of_weaker}
use Rattle.answers.proofs.Answers.{passing, numbered_passing, first_failing_passed, all_pass_if_granted}
use Rattle.clauses.proofs.Judges.{cnf_checks_refusing}
use Rattle.clauses.proofs.ReadBack.{words_ended, words_back}
use Rattle.clauses.proofs.CnfPassed.{cnf_right}

module _ (variables : ℕ) where
  abbrev small : ℤ → Bool
  small w = leb (size w) variables

  small_clause : (c : Clause) → all_of (literal_within variables) c ≡ true → all_of small (ended_by_0 c) ≡ true
  small_clause c e =
      all_of_append small c (pos 0 ∷ [])
      ∙ both_true (all_of_weaker (literal_within variables) small (λ w. second_true (leb 1 (size w)) (small w)) c e)
      (both_true (le-leb 0 variables zero-le) refl)

  small_words : (cs : List Clause) → Within variables cs → all_of small (words_of cs) ≡ true
  small_words [] e = refl
  small_words (c ∷ cs) e =
      all_of_append small (ended_by_0 c) (words_of cs)
      ∙ both_true (small_clause c (first_true (all_of (literal_within variables) c) _ e))
      (small_words cs (second_true (all_of (literal_within variables) c) _ e))

  pass_if_read : (ws : List ℤ) → variables ≤ variables_limit → words_of (clauses_of ws) ≡ ws → Within variables (clauses_of ws)
      → all_of passing (cnf_checks variables ws) ≡ true
  unfolding cnf_checks
  pass_if_read ws few back within =
      both_true (le-leb variables variables_limit few)
      (all_of_append passing (numbered 0 ws (λ i w. check (small w) (bad_cnf i))) (check (ended ws) (bad_cnf (length ws)) ∷ [])
      ∙ both_true (numbered_passing small bad_cnf 0 ws ∙ ap (all_of small) (sym back) ∙ small_words (clauses_of ws) within)
      (both_true (ap ended (sym back) ∙ words_ended (clauses_of ws)) refl))

  few_if_passed : (ws : List ℤ) → all_of passing (cnf_checks variables ws) ≡ true → variables ≤ variables_limit
  unfolding cnf_checks
  few_if_passed ws e = leb-true variables variables_limit (first_true (leb variables variables_limit) _ e)

  -- 16 passes exactly where V is within its limit and the words are those of clauses over V variables.
  pub cnf_read : (ws : List ℤ) → (first_failing (cnf_checks variables ws) (granted 0) ≡ granted 0)
      ↔ ((variables ≤ variables_limit) × (words_of (clauses_of ws) ≡ ws) × Within variables (clauses_of ws))
  cnf_read ws = (
    λ e.
        let passed = all_pass_if_granted (cnf_checks variables ws) (granted 0) (cnf_checks_refusing variables ws) e in
        let right = cnf_right variables ws passed in
        (few_if_passed ws passed, words_back ws right.1, right.0),
    λ r. first_failing_passed (cnf_checks variables ws) (granted 0) (pass_if_read ws r.0 r.1 r.2),
  )
