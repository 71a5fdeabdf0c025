-- How large the words of a refutation are that 11 passes: a literal is at most V, a hint names an earlier clause. Assumes nothing.
use mathlib.Core.Path.{◌≡◌, refl, sym, ◌∙◌}
use mathlib.Core.Bool.{true, false≢true}
use mathlib.Core.List.{List, [], ◌∷◌}
use Prim.Native.Nat.{ℕ, zero, suc, max, ◌+◌, ◌^◌, ◌≤◌, ◌<◌}
use native.Mathlib.Omega.{arith}
use borrow.Author.Tests.{le-leb, leb-true, ltb-true}
use lib.IntN.{ℤ, pos, negsuc}
use lib.Dec.{leb, ltb}
use lib.ListN.{length, get_or}
use mir.Syntax.{w32}
use mir.Val.{SFits}
use Rattle.answers.specs.Lists.{all_of}
use Rattle.answers.specs.Answers.{check, bad_refutation}
use Rattle.clauses.specs.Clauses.{Clause, size}
use Rattle.clauses.specs.CnfWords.{in_front, clauses_of}
use Rattle.clauses.specs.Refutations.{paired, steps_of, refutation_checks}
use Rattle.clauses.specs.Refutable.{WordsFit}
use Rattle.answers.proofs.Tests.{both_true, first_true, second_true, all_of_first, all_of_at}
use Rattle.answers.proofs.Answers.{passing}
use Rattle.clauses.proofs.WordByWord.{Part, literals, hints, word_checks, whole_by_parts, words_right, words_right_is, word_by_word}

-- ════════ Words from a part of a step on ════════

-- The clauses of words before which a step's clause stands, where they begin with its hints.
abbrev from_part : Part → List Clause → List Clause
from_part literals cs = cs
from_part hints cs = [] ∷ cs

-- A literal in front takes no step away.
front_keeps : (p : Part) (w : ℤ) (cs : List Clause) → length (paired (from_part p cs)) ≤ length (paired (from_part p (in_front w cs)))
front_keeps literals w [] = omega arith
front_keeps literals w (c ∷ []) = omega arith
front_keeps literals w (c ∷ d ∷ cs) = omega arith
front_keeps hints w [] = omega arith
front_keeps hints w (c ∷ cs) = omega arith

-- Words of V variables, of which none is larger than `most`.
module _ (variables most : ℕ) (few : variables ≤ most) where
  at_most : (p : Part) (own : ℕ) (ws : List ℤ) → own + length (paired (from_part p (clauses_of ws))) ≤ suc most
      → words_right variables p own ws ≡ true → all_of (λ w. leb (size w) most) ws ≡ true
  at_most p own [] l e = refl
  at_most literals own (pos zero ∷ ws) l e = both_true (le-leb 0 most (omega arith)) (at_most hints own ws l (second_true (leb 0 variables) _ e))
  at_most literals own (pos (suc n) ∷ ws) l e =
      both_true (le-leb (suc n) most (omega (arith, leb-true (suc n) variables (first_true (leb (suc n) variables) _ e))))
      (at_most literals own ws (omega (arith, front_keeps literals (pos (suc n)) (clauses_of ws))) (second_true (leb (suc n) variables) _ e))
  at_most literals own (negsuc n ∷ ws) l e =
      both_true (le-leb (suc n) most (omega (arith, leb-true (suc n) variables (first_true (leb (suc n) variables) _ e))))
      (at_most literals own ws (omega (arith, front_keeps literals (negsuc n) (clauses_of ws))) (second_true (leb (suc n) variables) _ e))
  at_most hints own (pos zero ∷ ws) l e = both_true (le-leb 0 most (omega arith)) (at_most literals (suc own) ws (omega arith) e)
  at_most hints own (pos (suc h) ∷ ws) l e =
      both_true (le-leb (suc h) most (omega (arith, ltb-true (suc h) own (first_true (ltb (suc h) own) _ e))))
      (at_most hints own ws (omega (arith, front_keeps hints (pos (suc h)) (clauses_of ws))) (second_true (ltb (suc h) own) _ e))
  at_most hints own (negsuc h ∷ ws) l e = absurd (false≢true e)

-- ════════ All the words ════════

-- What 11 asks of the words, without the check for cut short.
words_right_if_passed : (variables C : ℕ) (ws : List ℤ) → all_of passing (refutation_checks variables C ws) ≡ true
    → words_right variables literals (suc C) ws ≡ true
words_right_if_passed variables C ws e =
    sym (words_right_is variables literals (suc C) 0 ws)
    ∙ all_of_first passing (word_checks variables literals (suc C) 0 ws) (check (whole_by_parts ws) (bad_refutation (length ws)) ∷ [])
    (rw word_by_word at e)

pub passed_words_fit : (variables : ℕ) (cs : List Clause) (ws : List ℤ) → all_of passing (refutation_checks variables (length cs) ws) ≡ true
    → WordsFit variables cs ws
passed_words_fit variables cs ws e i h =
    leb-true _ _
    (all_of_at (λ w. leb (size w) most) ws i (pos 0)
    (at_most variables most (omega arith) literals (suc (length cs)) ws (omega arith) (words_right_if_passed variables (length cs) ws e)) h)
  where
    most : ℕ
    most = max variables (length cs + length (steps_of ws))

-- ════════ As signed words ════════

-- Where the variables, and the clauses and steps together, are numbers of 32 bits with a sign, so is the size of each word.
pub words_below : (variables : ℕ) (cs : List Clause) (ws : List ℤ) → WordsFit variables cs ws → variables < 2 ^ 31
    → length cs + length (steps_of ws) < 2 ^ 31 → (i : ℕ) → i < length ws → size (get_or ws i (pos 0)) < 2 ^ 31
words_below variables cs ws fit few few_numbers i h = omega (arith, fit i h)

-- And so is the word.
pub signed_if_below : (w : ℤ) → size w < 2 ^ 31 → SFits w32 w
signed_if_below (pos n) b = omega arith
signed_if_below (negsuc n) b = omega arith
