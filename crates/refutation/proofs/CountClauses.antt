-- The words of a CNF, read one by one: the clauses so far, and whether the last word began or went on with one. Assumes nothing.
use mathlib.Core.Bool.{Bool, true, false, not, cond, not-not, false≢true}
use mathlib.Core.Path.{◌≡◌, refl, sym, ap, ◌∙◌}
use mathlib.Core.List.{List, [], ◌∷◌, ◌++◌}
use Prim.Native.Nat.{ℕ, zero, suc, ◌+◌, ◌<◌, ◌≤◌}
use native.Mathlib.Nat.{add-zero}
use native.Mathlib.Omega.{arith}
use borrow.Author.Tests.{le-leb, lt-leb}
use lib.IntN.{ℤ, pos, negsuc}
use lib.Dec.{leb}
use lib.ListN.{length}
use Rattle.answers.specs.Lists.{numbered}
use Rattle.answers.specs.Limits.{variables_limit}
use Rattle.answers.specs.Answers.{Answer, check, first_failing, granted, bad_cnf}
use Rattle.clauses.specs.Clauses.{Clause, variable_of}
use Rattle.clauses.specs.CnfWords.{clauses_of, in_front, is_0, ended_after, ended, cnf_checks}
use Rattle.clauses.proofs.ReadBack.{some_clause}
use Rattle.refutation.proofs.Scan.{Reader, answer_from}

pub record Tally : Type 0 where
  pub clauses : ℕ
  pub begun : Bool

abbrev pub tally : ℕ → Bool → Tally
tally n o = record { clauses = n; begun = o }

-- A 0 ends a clause; any other word begins one or goes on with it.
abbrev pub tally_after : Tally → ℤ → Tally
tally_after t w = tally (cond (is_0 w) (suc t.clauses) t.clauses) (not (is_0 w))

abbrev pub reader : ℕ → Reader
reader variables = record {
  State = Tally;
  right = λ t w. leb (variable_of w) variables;
  after = tally_after;
  cut_short = λ t. t.begun;
  count = λ t. t.clauses;
  bad = bad_cnf;
}

-- Not cut short, where the word before these began or went on with a clause or did not.
abbrev ended_from : Bool → List ℤ → Bool
ended_from o [] = not o
ended_from o (w ∷ ws) = ended_after w ws

ended_next : (o : Bool) (w : ℤ) (ws : List ℤ) → ended_from o (w ∷ ws) ≡ ended_from (not (is_0 w)) ws
ended_next o w [] = sym (not-not (is_0 w))
ended_next o w (v ∷ vs) = refl

front_length : (w : ℤ) (cs : List Clause) → 0 < length cs → length (in_front w cs) ≡ length cs
front_length w [] h = absurd (omega arith)
front_length w (c ∷ cs) h = refl

-- One word more: where the words are not cut short, its clause is counted at its 0.
pub clauses_next : (w : ℤ) (ws : List ℤ) → ended_after w ws ≡ true → length (clauses_of (w ∷ ws)) ≡ cond (is_0 w) (suc (length (clauses_of ws))) (length (clauses_of ws))
clauses_next (pos zero) ws e = refl
clauses_next (pos (suc k)) [] e = absurd (false≢true e)
clauses_next (pos (suc k)) (v ∷ vs) e = front_length (pos (suc k)) (clauses_of (v ∷ vs)) (some_clause v vs)
clauses_next (negsuc k) [] e = absurd (false≢true e)
clauses_next (negsuc k) (v ∷ vs) e = front_length (negsuc k) (clauses_of (v ∷ vs)) (some_clause v vs)

count_next : (zero? : Bool) (n m : ℕ) → n + cond zero? (suc m) m ≡ cond zero? (suc n) n + m
count_next true n m = omega arith
count_next false n m = refl

module _ (variables : ℕ) where
  -- The checks of the words from a place on, then the one for cut short, whose place and whose count of clauses are those of all the words.
  abbrev checked : ℕ → List ℤ → Bool → ℕ → ℕ → Answer
  checked i ws e place total =
      first_failing
      (numbered i ws (λ i w. check (leb (variable_of w) variables) (bad_cnf i)) ++ (check e (bad_cnf place) ∷ []))
      (granted total)

  checked_is : (n : ℕ) (o : Bool) (i : ℕ) (ws : List ℤ) (e : Bool) (place total : ℕ) → e ≡ ended_from o ws → place ≡ i + length ws → (e ≡ true → total ≡ n + length (clauses_of ws)) → checked i ws e place total ≡ answer_from (reader variables) (tally n o) i ws
  checked_is n true i [] e place total p q t = rw (p, q, add-zero)
  checked_is n false i [] e place total p q t = rw (p, t p, add-zero)
  checked_is n o i (w ∷ ws) e place total p q t =
      ap (λ a. cond (leb (variable_of w) variables) a (bad_cnf i))
      (checked_is (tally_after (tally n o) w).clauses (not (is_0 w)) (suc i) ws e place total (p ∙ ended_next o w ws) (omega arith) (λ y. t y ∙ ap (λ m. n + m) (clauses_next w ws (sym p ∙ y)) ∙ count_next (is_0 w) n (length (clauses_of ws))))

  pub read_cnf : (ws : List ℤ) → variables ≤ variables_limit → first_failing (cnf_checks variables ws) (granted (length (clauses_of ws))) ≡ answer_from (reader variables) (tally 0 false) 0 ws
  unfolding cnf_checks
  read_cnf ws h = rw (le-leb variables variables_limit h) (checked_is 0 false 0 ws (ended ws) (length ws) (length (clauses_of ws)) (start ws) (omega arith) (λ _. omega arith))
    where
      start : (ws : List ℤ) → ended ws ≡ ended_from false ws
      start [] = refl
      start (w ∷ ws) = refl

  pub limit_passed : (ws : List ℤ) → variables_limit < variables → bad_cnf 0 ≡ first_failing (cnf_checks variables ws) (granted (length (clauses_of ws)))
  unfolding cnf_checks
  limit_passed ws h = rw (lt-leb variables variables_limit h)
