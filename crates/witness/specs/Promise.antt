-- The judge's answers as the documents', and what the judge and its parts promise. Assumes nothing.
use Rattle.std.specs.Prelude.{List, ◌≡◌, ℕ, leb, ⊤, Result, Ok, Err}
use Rattle.answers.specs.Answers.{Answer, Check, check, first_failing, granted, bad_witness, against_reset, open_loop, formula_false}
use Rattle.meaning.specs.Witnesses.{constraint_broken, byte_limit}
use Rattle.meaning.specs.Problem as problems
use Rattle.problem.specs.Promise.{refusal_answer}
use Rattle.witness.specs.declared.NotWitness.{NotWitness}
use Rattle.witness.specs.declared.NotWitness.TheVariants.{Problem, BadWitness, AgainstReset, OpenLoop, ConstraintBroken, FormulaFalse}

-- The documents' number and place of each refusal.
abbrev pub not_witness_answer : NotWitness → Answer
not_witness_answer (Problem f) = refusal_answer f
not_witness_answer (BadWitness i) = bad_witness i
not_witness_answer (AgainstReset i) = against_reset i
not_witness_answer (OpenLoop i) = open_loop i
not_witness_answer (ConstraintBroken t) = constraint_broken t
not_witness_answer FormulaFalse = formula_false 0

-- A yes leaves the answer to what comes after.
abbrev pub answer_then : Result ⊤ NotWitness → Answer → Answer
answer_then (Ok x) after = after
answer_then (Err f) after = not_witness_answer f

abbrev pub answer_of : Result ⊤ NotWitness → Answer
answer_of r = answer_then r (granted 0)

-- A part of the judge answers for its checks, whatever comes after them.
pub record AnsweredBy (cs : List Check) (r : Result ⊤ NotWitness) : Type 0 where
  pub answered : (after : Answer) → answer_then r after ≡ first_failing cs after

-- 7, of one byte.
abbrev pub byte_check : problems.Problem → ℕ → ℕ → Check
byte_check p i b = check (leb b (byte_limit p i)) (bad_witness i)
