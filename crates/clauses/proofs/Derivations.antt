-- Steps that are right one after another; those that end in the empty clause are a refutation. Assumes nothing.
use mathlib.Core.Path.{◌≡◌, refl, ◌∙◌}
use mathlib.Core.Bool.{Bool, true, ◌&&◌, false≢true}
use mathlib.Core.List.{List, [], ◌∷◌, ◌++◌, map}
use Prim.Native.Nat.{ℕ, zero, suc, ◌≤◌, ◌<◌}
use native.Mathlib.Numerals.{add-one}
use native.Mathlib.Nat.{le_refl, le_trans, lt_of_lt_of_le}
use native.Mathlib.Omega.{arith}
use lib.IntN.{ℤ, pos, negsuc}
use lib.Dec.{leb, leb-zero, leb-suc-suc}
use lib.ListN.{length, get_or, length-append, get_or-append}
use Rattle.answers.specs.Lists.{all_of}
use Rattle.answers.specs.Answers.{Answer, Check, first_failing, granted}
use Rattle.clauses.specs.Clauses.{Clause, variable_of, literal_within}
use Rattle.clauses.specs.CnfWords.{ended_by_0}
use Rattle.clauses.specs.Refutations.{Step, step, words_of_steps, step_accepted, clause_numbered, with_step, step_checks, last_is_empty, last_is_empty_after, judge_steps}
use Rattle.clauses.specs.Refutable.{Refutation}
use Rattle.answers.proofs.Tests.{both_true, first_true, second_true, all_of_weaker}
use Rattle.clauses.proofs.ReadBack.{not_0, StepsNoZeros, step_first, steps_back, steps_whole, within_not_0}
use Rattle.answers.proofs.Answers.{first_failing_append, first_failing_passed}
use Rattle.clauses.proofs.WordByWord.{Part, literals, hints, word_checks, words_right, words_right_is, whole_is, word_by_word}

-- ════════ Clauses after steps ════════

abbrev pub clauses_after_all : List Clause → List Step → List Clause
clauses_after_all cs [] = cs
clauses_after_all cs (s ∷ ss) = clauses_after_all (with_step cs s) ss

pub clauses_after_append : (cs : List Clause) (ss ts : List Step)
    → clauses_after_all cs (ss ++ ts) ≡ clauses_after_all (clauses_after_all cs ss) ts
clauses_after_append cs [] ts = refl
clauses_after_append cs (s ∷ ss) ts = clauses_after_append (with_step cs s) ss ts

length_after : (cs : List Clause) (s : Step) → length (with_step cs s) ≡ suc (length cs)
length_after cs s = length-append cs (s.clause ∷ []) ∙ add-one (length cs)

-- The clauses of the first list stand in the second under the same numbers.
pub record Extends (cs ds : List Clause) : Type 0 where
  pub longer : length cs ≤ length ds
  pub kept : (n : ℕ) → n < length cs → get_or ds n [] ≡ get_or cs n []

pub extends_self : (cs : List Clause) → Extends cs cs
extends_self cs = record { longer = le_refl (length cs); kept = λ n l. refl }

pub extends_twice : {cs ds es : List Clause} → Extends cs ds → Extends ds es → Extends cs es
extends_twice d e = record {
  longer = le_trans d.longer e.longer;
  kept = λ n l. e.kept n (lt_of_lt_of_le l d.longer) ∙ d.kept n l;
}

extends_after : (cs : List Clause) (s : Step) → Extends cs (with_step cs s)
extends_after cs s = record {
  longer = rw length_after (omega arith);
  kept = get_or-append cs (s.clause ∷ []) [];
}

pub extends_after_all : (cs : List Clause) (ss : List Step) → Extends cs (clauses_after_all cs ss)
extends_after_all cs [] = extends_self cs
extends_after_all cs (s ∷ ss) = extends_twice (extends_after cs s) (extends_after_all (with_step cs s) ss)

-- ════════ Right steps ════════

-- The number of one of so many clauses.
abbrev pub names_one_of : ℕ → ℕ → Bool
names_one_of n h = leb 1 h && leb h n

-- Accepted, its literals within the variables, its hints earlier clauses.
pub record RightStep (variables : ℕ) (cs : List Clause) (s : Step) : Type 0 where
  pub accepted : step_accepted (clause_numbered cs) s ≡ true
  pub within : all_of (literal_within variables) s.clause ≡ true
  pub earlier : all_of (names_one_of (length cs)) s.hints ≡ true

abbrev pub RightSteps : ℕ → List Clause → List Step → Type 0
RightSteps variables cs [] = Unit {0}
RightSteps variables cs (s ∷ ss) = RightStep variables cs s × RightSteps variables (with_step cs s) ss

pub right_append : (variables : ℕ) (cs : List Clause) (ss ts : List Step) → RightSteps variables cs ss
    → RightSteps variables (clauses_after_all cs ss) ts → RightSteps variables cs (ss ++ ts)
right_append variables cs [] ts r q = q
right_append variables cs (s ∷ ss) ts r q = (r.0, right_append variables (with_step cs s) ss ts r.1 q)

-- ════════ The judge accepts right steps ════════

last_after : (t : Step) (ss : List Step) (hs : List ℕ) → last_is_empty_after t (ss ++ (step [] hs ∷ [])) ≡ true
last_after t [] hs = refl
last_after t (s ∷ ss) hs = last_after s ss hs

pub last_empty : (ss : List Step) (hs : List ℕ) → last_is_empty (ss ++ (step [] hs ∷ [])) ≡ true
last_empty [] hs = refl
last_empty (s ∷ ss) hs = last_after s ss hs

module _ (variables : ℕ) (after : Answer) where
  step_checks_pass : (cs : List Clause) (i : ℕ) (ss : List Step) → RightSteps variables cs ss → first_failing (step_checks cs i ss) after ≡ after
  step_checks_pass cs i [] r = refl
  step_checks_pass cs i (s ∷ ss) r = rw r.0.accepted (step_checks_pass (with_step cs s) (suc i) ss r.1)

-- ════════ The words of right steps are right ════════

module _ (variables : ℕ) where
  word_checks_pass : (p : Part) (own i : ℕ) (ws : List ℤ) (rest : List Check) (after : Answer) → words_right variables p own ws ≡ true
      → first_failing (word_checks variables p own i ws ++ rest) after ≡ first_failing rest after
  word_checks_pass p own i ws rest after e =
      first_failing_append (word_checks variables p own i ws) rest after
      ∙ first_failing_passed (word_checks variables p own i ws) (first_failing rest after) (words_right_is variables p own i ws ∙ e)

  small_literal : (w : ℤ) (c : Clause) → all_of (literal_within variables) (w ∷ c) ≡ true → leb (variable_of w) variables ≡ true
  small_literal w c e =
      second_true (leb 1 (variable_of w)) (leb (variable_of w) variables)
      (first_true (literal_within variables w) (all_of (literal_within variables) c) e)

  small_rest : (w : ℤ) (c : Clause) → all_of (literal_within variables) (w ∷ c) ≡ true → all_of (literal_within variables) c ≡ true
  small_rest w c = second_true (literal_within variables w) (all_of (literal_within variables) c)

  literals_right : (own : ℕ) (c : Clause) (ws : List ℤ) → all_of (literal_within variables) c ≡ true
      → words_right variables literals own (ended_by_0 c ++ ws) ≡ words_right variables hints own ws
  literals_right own [] ws e = rw leb-zero
  literals_right own (pos zero ∷ c) ws e = absurd (false≢true e)
  literals_right own (pos (suc n) ∷ c) ws e =
      rw (small_literal (pos (suc n)) c e) (literals_right own c ws (small_rest (pos (suc n)) c e))
  literals_right own (negsuc n ∷ c) ws e =
      rw (small_literal (negsuc n) c e) (literals_right own c ws (small_rest (negsuc n) c e))

  hints_right : (n : ℕ) (hs : List ℕ) (ws : List ℤ) → all_of (names_one_of n) hs ≡ true
      → words_right variables hints (suc n) (ended_by_0 (map pos hs) ++ ws) ≡ words_right variables literals (suc (suc n)) ws
  hints_right n [] ws e = refl
  hints_right n (zero ∷ hs) ws e = absurd (false≢true e)
  hints_right n (suc h ∷ hs) ws e =
      rw (
        leb-suc-suc (suc h) n,
        second_true (leb 1 (suc h)) (leb (suc h) n) (first_true (names_one_of n (suc h)) (all_of (names_one_of n) hs) e),
      )
      (hints_right n hs ws (second_true (names_one_of n (suc h)) (all_of (names_one_of n) hs) e))

  steps_right : (cs : List Clause) (ss : List Step) → RightSteps variables cs ss
      → words_right variables literals (suc (length cs)) (words_of_steps ss) ≡ true
  steps_right cs [] r = refl
  steps_right cs (s ∷ ss) r =
      rw (
        step_first s (words_of_steps ss),
        literals_right (suc (length cs)) s.clause (ended_by_0 (map pos s.hints) ++ words_of_steps ss) r.0.within,
        hints_right (length cs) s.hints (words_of_steps ss) r.0.earlier,
        ← length_after cs s,
      )
      (steps_right (with_step cs s) ss r.1)

  right_no_zeros : (cs : List Clause) (ss : List Step) → RightSteps variables cs ss → StepsNoZeros ss
  right_no_zeros cs [] r = refl
  right_no_zeros cs (s ∷ ss) r = both_true (both_true no_0 at_least_1) (right_no_zeros (with_step cs s) ss r.1)
    where
      no_0 : all_of not_0 s.clause ≡ true
      no_0 = all_of_weaker (literal_within variables) not_0 (within_not_0 variables) s.clause r.0.within

      at_least_1 : all_of (leb 1) s.hints ≡ true
      at_least_1 =
          all_of_weaker (names_one_of (length cs)) (leb 1) (λ h. first_true (leb 1 h) (leb h (length cs))) s.hints r.0.earlier

  -- ════════ Right steps that end in the empty clause ════════

  pub refutation_by : (cs : List Clause) (ss : List Step) → RightSteps variables cs ss → last_is_empty ss ≡ true → Refutation variables cs
  unfolding judge_steps
  refutation_by cs ss r e = record {
    steps = ss;
    accepted = step_checks_pass variables _ cs 0 ss r ∙ rw e;
    read_back = steps_back ss (right_no_zeros cs ss r);
    words_right =
        rw (word_by_word)
        (word_checks_pass literals (suc (length cs)) 0 (words_of_steps ss) _ (granted 0) (steps_right cs ss r)
        ∙ rw (← whole_is (words_of_steps ss), steps_whole ss (right_no_zeros cs ss r)));
  }
