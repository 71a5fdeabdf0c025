-- The clauses of a CNF that 16 passes: their literals are of variables 1 to V, and the last one is ended. Assumes nothing.
use mathlib.Core.Path.{◌≡◌, refl, sym, ◌∙◌}
use mathlib.Core.Bool.{Bool, true}
use mathlib.Core.List.{List, [], ◌∷◌, ◌++◌}
use Prim.Native.Nat.{ℕ, zero, suc, ◌≤◌}
use native.Mathlib.Omega.{arith}
use borrow.Author.Tests.{le-leb}
use lib.IntN.{ℤ, pos, negsuc}
use lib.Dec.{leb}
use lib.ListN.{length}
use Rattle.answers.specs.Lists.{all_of, numbered}
use Rattle.answers.specs.Limits.{variables_limit}
use Rattle.answers.specs.Answers.{check, bad_cnf}
use Rattle.clauses.specs.Clauses.{Clause, Within, variable_of}
use Rattle.clauses.specs.CnfWords.{clauses_of, in_front, ended, cnf_checks}
use Rattle.answers.proofs.Tests.{first_true, second_true, all_of_first, all_of_second}
use Rattle.answers.proofs.Answers.{passing, numbered_passing}

module _ (variables : ℕ) where
  abbrev small : ℤ → Bool
  small w = leb (variable_of w) variables

  within_in_front : (w : ℤ) (cs : List Clause) → 1 ≤ variable_of w → small w ≡ true → Within variables cs → Within variables (in_front w cs)
  within_in_front w [] some e rest = rw (le-leb 1 (variable_of w) some, e)
  within_in_front w (c ∷ cs) some e rest = rw (le-leb 1 (variable_of w) some, e) rest

  small_within : (ws : List ℤ) → all_of small ws ≡ true → Within variables (clauses_of ws)
  small_within [] e = refl
  small_within (pos zero ∷ ws) e = small_within ws (second_true (leb 0 variables) _ e)
  small_within (pos (suc n) ∷ ws) e =
      within_in_front (pos (suc n)) (clauses_of ws) (omega arith) (first_true (leb (suc n) variables) _ e) (small_within ws (second_true (leb (suc n) variables) _ e))
  small_within (negsuc n ∷ ws) e =
      within_in_front (negsuc n) (clauses_of ws) (omega arith) (first_true (leb (suc n) variables) _ e) (small_within ws (second_true (leb (suc n) variables) _ e))

  pub cnf_right : (cnf : List ℤ) → all_of passing (cnf_checks variables cnf) ≡ true → Within variables (clauses_of cnf) × (ended cnf ≡ true)
  unfolding cnf_checks
  cnf_right cnf e =
      let words = numbered 0 cnf (λ i w. check (small w) (bad_cnf i)) in
      let last = check (ended cnf) (bad_cnf (length cnf)) ∷ [] in
      let both = second_true (leb variables variables_limit) (all_of passing (words ++ last)) e in
      (small_within cnf (sym (numbered_passing small bad_cnf 0 cnf) ∙ all_of_first passing words last both), first_true (ended cnf) true (all_of_second passing words last both))
