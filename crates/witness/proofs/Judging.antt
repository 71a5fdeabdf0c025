-- What the parts of the judge leave where they pass, and the whole answer. Assumes nothing.
use mathlib.Core.Path.{◌≡◌, refl, sym, ◌∙◌, ap}
use mathlib.Core.Bool.{Bool, true, false}
use mathlib.Core.List.{List, [], ◌∷◌, ◌++◌}
use Prim.Native.Nat.{ℕ, ◌+◌, ◌≤◌}
use native.Mathlib.Omega.{arith}
use lib.Dec.{eqb, leb}
use lib.ListN.{length}
use borrow.Author.Tests.{leb-true, eqb-true}
use Rattle.std.specs.Prelude.{Result, Ok, ⊤}
use Rattle.answers.specs.Lists.{all_of, numbered}
use Rattle.answers.specs.Answers.{Check, first_failing, granted}
use Rattle.answers.proofs.Tests.{first_true, second_true}
use Rattle.answers.proofs.Answers.{passing, first_failing_append, place_of}
use Rattle.meaning.specs.Problem.{Problem, problem}
use Rattle.meaning.specs.Witnesses.{witness_length, byte, byte_checks, reset_checks, loop_checks, position_checks, formula_checks, shape}
use Rattle.meaning.specs.Calls.{WellFormed, check_problem, judge_bytes, judge_witness}
use Rattle.meaning.proofs.Check.{first_failing_refused, checked_if_well_formed}
use Rattle.meaning.proofs.Calls.{judge_witness_is}
use Rattle.problem.specs.declared.Refusal.{Refusal}
use Rattle.problem.specs.Promise.{refusal_answer}
use Rattle.problem.proofs.Formed.{refused_whatever}
use Rattle.witness.specs.declared.NotWitness.{NotWitness}
use Rattle.witness.specs.Promise.{answer_of, AnsweredBy, byte_check}

-- ════════ What 7 leaves ════════

-- Checks that leave the answer to what comes after all pass.
all_pass : (cs : List Check) → AnsweredBy cs (Ok (tt {0})) → all_of passing cs ≡ true
all_pass cs a = go (all_of passing cs) refl
  where
    go : (b : Bool) → all_of passing cs ≡ b → b ≡ true
    go true e = refl
    go false e =
        let same : granted 0 ≡ granted 1 = a.answered (granted 0) ∙ first_failing_refused cs (granted 0) (granted 1) e ∙ sym (a.answered (granted 1)) in
        let places : ◌≡◌ {A = ℕ} 0 1 = place_of same in
        absurd (omega arith)

first_within : (p : Problem) (bs : List ℕ) → all_of passing (numbered 0 bs (byte_check p)) ≡ true → byte bs 0 ≤ p.bound + 1
first_within p [] e = omega arith
first_within p (b ∷ bs) e = leb-true _ _ (first_true (leb b (p.bound + 1)) (all_of passing (numbered 1 bs (byte_check p))) e)

-- The length, and the first byte.
module _ (p : Problem) (bs : List ℕ) (a : AnsweredBy (byte_checks p bs) (Ok (tt {0}))) where
  pub length_right : length bs ≡ witness_length p
  length_right = eqb-true _ _ (first_true (eqb (length bs) (witness_length p)) (all_of passing (numbered 0 bs (byte_check p))) (all_pass (byte_checks p bs) a))

  pub start_right : byte bs 0 ≤ p.bound + 1
  start_right =
      first_within p bs (second_true (eqb (length bs) (witness_length p)) (all_of passing (numbered 0 bs (byte_check p))) (all_pass (byte_checks p bs) a))

-- ════════ The whole ════════

-- 7, 8, 9, 20, 10.
abbrev pub from_positions : Problem → List ℕ → List Check
from_positions p bs = position_checks p bs ++ formula_checks p bs

abbrev pub from_loop : Problem → List ℕ → List Check
from_loop p bs = loop_checks p bs (shape bs) ++ from_positions p bs

abbrev pub from_resets : Problem → List ℕ → List Check
from_resets p bs = reset_checks p bs ++ from_loop p bs

pub judged : (p : Problem) (bs : List ℕ) {r : Result ⊤ NotWitness} → AnsweredBy (byte_checks p bs ++ from_resets p bs) r → answer_of r ≡ judge_bytes p bs
unfolding judge_bytes
judged p bs a =
    a.answered (granted 0)
    ∙ first_failing_append (byte_checks p bs) (from_resets p bs) (granted 0)
    ∙ ap (first_failing (byte_checks p bs))
    (first_failing_append (reset_checks p bs) (from_loop p bs) (granted 0)
    ∙ ap (first_failing (reset_checks p bs))
    (first_failing_append (loop_checks p bs (shape bs)) (from_positions p bs) (granted 0)
    ∙ ap (first_failing (loop_checks p bs (shape bs))) (first_failing_append (position_checks p bs) (formula_checks p bs) (granted 0))))

module _ (version : ℕ) (ws bs : List ℕ) where
  -- The check of a good problem leaves the answer to the witness.
  pub good_judged : {p : Problem} → WellFormed version ws × (p ≡ problem version ws) → judge_bytes p bs ≡ judge_witness version ws bs
  good_judged g = rw g.1 (sym (judge_witness_is version ws bs ∙ checked_if_well_formed version ws (judge_bytes (problem version ws) bs) g.0))

  -- A refused problem's answer does not depend on the witness.
  pub refused_judged : (f : Refusal) → refusal_answer f ≡ check_problem version ws → refusal_answer f ≡ judge_witness version ws bs
  refused_judged f e = refused_whatever version ws f _ e ∙ sym (judge_witness_is version ws bs)
