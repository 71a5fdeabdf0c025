-- What judging a refutation of a problem's CNF promises, and its refusals as the answers of document 01. Assumes nothing.
use Rattle.std.specs.Prelude.{◌≡◌, List, ℕ, ◌≤◌, ℤ, length, take, Result, Ok, Err}
use Rattle.answers.specs.Answers.{Answer, granted}
use Rattle.clauses.specs.Refutations.{steps_of, judge_clauses, numbers_area, clauses_area, area_after}
use Rattle.meaning.specs.Problem as problems
use Rattle.meaning.specs.Problem.{problem}
use Rattle.meaning.specs.Proper.{Proper}
use Rattle.meaning.specs.Cnf.{cnf, cnf_words, variables}
use Rattle.meaning.specs.Calls.{judge_refutation, room_after_judging, numbers_area_after, clauses_area_after}
use Rattle.pairing.specs.Excluded.{Excluded}
use Rattle.counts.specs.declared.Counts.{Counts}
use Rattle.counts.specs.Promise.{counts_of}
use Rattle.encoder.specs.Promise.{not_written_answer}
use Rattle.refutation.specs.Promise as refutations
use Rattle.checker.specs.declared.Unrefuted.{Unrefuted}
use Rattle.checker.specs.declared.Unrefuted.TheVariants.{Cnf, Refutation}

-- Document 01's number and place of each refusal, and of each outcome of the judge.
abbrev pub unrefuted_answer : Unrefuted → Answer
unrefuted_answer (Cnf f) = not_written_answer f
unrefuted_answer (Refutation f) = refutations.refusal_answer f

abbrev pub refuted_answer : Result Unit Unrefuted → Answer
refuted_answer (Ok u) = granted 0
refuted_answer (Err f) = unrefuted_answer f

-- The judge: its answer, every lent buffer after it, and what a yes says: no lasso at any bound from 0 to k, no prefix at k, and where there are no
-- constraints no witness at any bound from 0 to k.
pub record JudgedAs (version : ℕ) (ws : List ℕ) (refutation room : List ℤ) (numbers clauses : List ℕ) (r : Result Unit Unrefuted) (room' : List ℤ) (numbers' clauses' : List ℕ) : Type 0 where
  pub answered : refuted_answer r ≡ judge_refutation version ws refutation (length room) (length numbers) (length clauses)
  pub room_left : room' ≡ room_after_judging (refuted_answer r) version ws room
  pub numbers_left : numbers' ≡ numbers_area_after (refuted_answer r) version ws numbers
  pub clauses_left : clauses' ≡ clauses_area_after (refuted_answer r) version ws refutation clauses
  pub excludes : r ≡ Ok tt → Excluded (problem version ws)

-- ════════ Inside the judge ════════

-- The room holds the CNF of a proper problem, whose numbers these are.
pub record CnfHeld (p : problems.Problem) (n : Counts) (room : List ℤ) : Type 0 where
  pub proper : Proper p
  pub counted : n ≡ counts_of p
  pub fits : n.words ≤ length room
  pub held : take n.words room ≡ cnf_words p

-- It is so of some problem.
pub record CnfIn (n : Counts) (room : List ℤ) : Type 0 where
  pub p : problems.Problem
  pub holds : CnfHeld p n room

-- The answer to a refutation of a problem's CNF, 11 to 14 or yes, and the work areas after it.
pub record JudgedFor (p : problems.Problem) (refutation : List ℤ) (numbers clauses : List ℕ) (r : Result Unit Unrefuted) (numbers' clauses' : List ℕ) : Type 0 where
  pub answered : refuted_answer r ≡ judge_clauses (variables p) (cnf p) refutation (length numbers) (length clauses)
  pub numbers_left : numbers' ≡ area_after (refuted_answer r) (numbers_area (variables p)) numbers
  pub clauses_left : clauses' ≡ area_after (refuted_answer r) (clauses_area (cnf p) (steps_of refutation)) clauses
