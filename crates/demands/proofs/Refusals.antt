-- Beside the page of Demands: of the calls, exactly when a refusal comes, and with what place. 17, 18, and 6 and 12 by the numbers of the check's record
-- stand there; 1 to 5, 7, 8, 11, 15 and 16 are read off their definitions, where the first check that fails answers, with its own place.
-- Each theorem is stated in full, and is proved by the one that it names. Sentences in quotes are those of documents 01 and 02. Assumes nothing.
use mathlib.Core.{Path.◌≡◌, List.List, List.[], Logic.◌↔◌, Logic.◌⊎◌}
use mathlib.Core.Bool.{true, false}
use Prim.Native.Nat.{ℕ, ◌≤◌, ◌<◌}
use lib.{IntN.ℤ, ListN.length, ListN.get_or}
use Rattle.std.specs.Prelude.{Result, Ok, Err}
use Rattle.answers.specs.Lists.{empty}
use Rattle.answers.specs.Limits.{longest_text}
use Rattle.answers.specs.Answers.{granted, first_failing}
use Rattle.clauses.specs.CnfWords.{clauses_of, cnf_checks}
use Rattle.clauses.specs.Refutations.{step, steps_of, refutation_checks, both_signs, last_is_empty, numbers_area, clauses_area}
use Rattle.clauses.specs.StepsRefused.{passes, FirstRefused}
use Rattle.refutation.specs.declared.NotRefuted.{NotRefuted}
use Rattle.refutation.specs.declared.NotRefuted.TheVariants as not-refuted
use Rattle.refutation.specs.Promise.{Judged}
use Rattle.meaning.specs.Problem.{problem}
use Rattle.meaning.specs.Runs.{meets_constraints}
use Rattle.meaning.specs.Bounded.{lasso}
use Rattle.meaning.specs.Witnesses.{shape, position, Shows}
use Rattle.meaning.specs.Cnf.{cnf, cnf_words, variables}
use Rattle.meaning.specs.Calls.{WellFormed, judge_witness}
use Rattle.counts.specs.declared.Counts.{Counts}
use Rattle.encoder.specs.declared.NotWritten.{NotWritten}
use Rattle.encoder.specs.declared.NotWritten.TheVariants as not-written
use Rattle.encoder.specs.Promise.{EncodedAs}
use Rattle.witness.specs.declared.NotWitness.{NotWitness}
use Rattle.witness.specs.declared.NotWitness.TheVariants as not-witness
use Rattle.witness.specs.Promise.{answer_of}
use Rattle.text.specs.Readings.{found, fault}
use Rattle.aiger.specs.declared.NotDone.{NotDone}
use Rattle.aiger.specs.declared.NotDone.TheVariants as not-done
use Rattle.aiger.specs.Circuits.{check_circuit}
use Rattle.aiger.specs.Texts.{circuit_text, circuit_read}
use Rattle.aiger.specs.Promise.{ReadAs, WrittenAs}
use Rattle.checker.specs.declared.Unrefuted.{Unrefuted}
use Rattle.checker.specs.declared.Unrefuted.TheVariants as unrefuted
use Rattle.checker.specs.Refutation.{JudgedAs}
use Rattle.demands.specs.RunRefused.{Begins, ClosesIfLasso, FirstOpen}
use Rattle.demands.specs.BeforeSteps.{CnfReady, ProblemReady}

-- ════════ 6 and 12 ════════

-- 6 of the CNF writer: the words are well formed, and the room has fewer words than their CNF; the place is the words that it needs.
pub refused_6 : {version : ℕ} {ws : List ℕ} {before after : List ℤ} {r : Result Counts NotWritten} → EncodedAs version ws before r after → (n : ℕ)
    → (r ≡ Err (not-written.RoomTooSmall n))
    ↔ (WellFormed version ws × (length before < length (cnf_words (problem version ws))) × (n ≡ length (cnf_words (problem version ws))))
refused_6 call = Rattle.demands.proofs.RoomRefused.refused_6 call

-- 12 of the refutation judge for any CNF: 16 and 11 pass, and the area by numbers has too few words, or it has enough and the area by clauses has too few.
pub refused_12 : {v : ℕ} {bare refutation : List ℤ} {numbers clauses : List ℕ} {r : Result Unit NotRefuted} {numbers' clauses' : List ℕ}
    → Judged v bare refutation numbers clauses r numbers' clauses' → (n : ℕ)
    → (r ≡ Err (not-refuted.AreaTooSmall n))
    ↔ ((first_failing (cnf_checks v bare) (granted 0) ≡ granted 0)
    × (first_failing (refutation_checks v (length (clauses_of bare)) refutation) (granted 0) ≡ granted 0)
    × (((length numbers < numbers_area v) × (n ≡ numbers_area v))
    ⊎ ((numbers_area v ≤ length numbers)
    × (length clauses < clauses_area (clauses_of bare) (steps_of refutation)) × (n ≡ clauses_area (clauses_of bare) (steps_of refutation)))))
refused_12 call = Rattle.demands.proofs.RoomRefused.refused_12 call

-- The judge of a problem's refutation: 6 as of the CNF writer, and 12 where 15, 1 to 5, 6 and 11 pass.
module _ {version : ℕ} {ws : List ℕ} {refutation room : List ℤ} {numbers clauses : List ℕ}
    {r : Result Unit Unrefuted} {room' : List ℤ} {numbers' clauses' : List ℕ}
    (call : JudgedAs version ws refutation room numbers clauses r room' numbers' clauses') (n : ℕ) where
  pub problem_refused_6 : (r ≡ Err (unrefuted.Cnf (not-written.RoomTooSmall n)))
      ↔ (WellFormed version ws × (length room < length (cnf_words (problem version ws))) × (n ≡ length (cnf_words (problem version ws))))
  problem_refused_6 = Rattle.demands.proofs.RoomRefused.problem_refused_6 call n

  pub problem_refused_12 : (r ≡ Err (unrefuted.Refutation (not-refuted.AreaTooSmall n)))
      ↔ (WellFormed version ws × (length (cnf_words (problem version ws)) ≤ length room)
      × (first_failing (refutation_checks (variables (problem version ws)) (length (cnf (problem version ws))) refutation) (granted 0) ≡ granted 0)
      × (((length numbers < numbers_area (variables (problem version ws))) × (n ≡ numbers_area (variables (problem version ws))))
      ⊎ ((numbers_area (variables (problem version ws)) ≤ length numbers)
      × (length clauses < clauses_area (cnf (problem version ws)) (steps_of refutation)) × (n ≡ clauses_area (cnf (problem version ws)) (steps_of refutation)))))
  problem_refused_12 = Rattle.demands.proofs.RoomRefused.problem_refused_12 call n

-- ════════ 9, 20 and 10 ════════

-- The witness judge: 9 names the first latch that differs, 20 the first position at which a constraint is false; 10, whose place is 0, comes where all
-- else passes and the formula is not shown.
module _ (version : ℕ) (ws bs : List ℕ) {r : Result Unit NotWitness} (call : answer_of r ≡ judge_witness version ws bs) where
  pub refused_9 : (i : ℕ) → (r ≡ Err (not-witness.OpenLoop i))
      ↔ (WellFormed version ws × Begins (problem version ws) bs × ((l : ℕ) × (shape bs ≡ lasso l) × FirstOpen (problem version ws) bs l i))
  refused_9 = Rattle.demands.proofs.RunRefused.refused_9 version ws bs call

  pub refused_20 : (t : ℕ) → (r ≡ Err (not-witness.ConstraintBroken t))
      ↔ (WellFormed version ws × Begins (problem version ws) bs × ClosesIfLasso (problem version ws) bs (shape bs) × (t ≤ (problem version ws).bound)
      × (meets_constraints (problem version ws) (position (problem version ws) bs t) ≡ false)
      × ((u : ℕ) → u < t → meets_constraints (problem version ws) (position (problem version ws) bs u) ≡ true))
  refused_20 = Rattle.demands.proofs.RunRefused.refused_20 version ws bs call

  pub refused_10 : (r ≡ Err not-witness.FormulaFalse)
      ↔ (WellFormed version ws × Begins (problem version ws) bs × ClosesIfLasso (problem version ws) bs (shape bs)
      × ((t : ℕ) → t ≤ (problem version ws).bound → meets_constraints (problem version ws) (position (problem version ws) bs t) ≡ true)
      × (Shows (problem version ws) bs (shape bs) → ⊥))
  refused_10 = Rattle.demands.proofs.RunRefused.refused_10 version ws bs call

-- ════════ 13 and 14 ════════

-- 13, 14 and yes of the refutation judge for any CNF: 16, 11 and 12 pass, and then the first step that is refused, or none and the last clause. Of Q-4, "a
-- step whose clause has a variable with both signs" is refused exactly if it has hints.
module _ {v : ℕ} {bare refutation : List ℤ} {numbers clauses : List ℕ} {r : Result Unit NotRefuted} {numbers' clauses' : List ℕ}
    (call : Judged v bare refutation numbers clauses r numbers' clauses') where
  pub refused_13 : (i : ℕ) → (r ≡ Err (not-refuted.StepRefused i))
      ↔ (CnfReady v bare refutation (length numbers) (length clauses) × FirstRefused (clauses_of bare) (steps_of refutation) i)
  refused_13 = Rattle.demands.proofs.StepsRefused.refused_13 call

  pub refused_14 : (n : ℕ) → (r ≡ Err (not-refuted.NotClosed n))
      ↔ (CnfReady v bare refutation (length numbers) (length clauses)
      × ((j : ℕ) → j < length (steps_of refutation) → passes (clauses_of bare) (steps_of refutation) j ≡ true)
      × (last_is_empty (steps_of refutation) ≡ false) × (n ≡ length (steps_of refutation)))
  refused_14 = Rattle.demands.proofs.StepsRefused.refused_14 call

  pub accepted_exactly : (r ≡ Ok tt)
      ↔ (CnfReady v bare refutation (length numbers) (length clauses)
      × ((j : ℕ) → j < length (steps_of refutation) → passes (clauses_of bare) (steps_of refutation) j ≡ true)
      × (last_is_empty (steps_of refutation) ≡ true))
  accepted_exactly = Rattle.demands.proofs.StepsRefused.accepted_exactly call

  pub both_signs_refused : CnfReady v bare refutation (length numbers) (length clauses) → (i : ℕ) → i < length (steps_of refutation)
      → ((j : ℕ) → j < i → passes (clauses_of bare) (steps_of refutation) j ≡ true)
      → both_signs (get_or (steps_of refutation) i (step [] [])).clause ≡ true
      → (r ≡ Err (not-refuted.StepRefused i)) ↔ (empty (get_or (steps_of refutation) i (step [] [])).hints ≡ false)
  both_signs_refused = Rattle.demands.proofs.StepsRefused.both_signs_refused call

-- The same of a problem's refutation, where 15, 1 to 5, 6, 11 and 12 pass.
module _ {version : ℕ} {ws : List ℕ} {refutation room : List ℤ} {numbers clauses : List ℕ}
    {r : Result Unit Unrefuted} {room' : List ℤ} {numbers' clauses' : List ℕ}
    (call : JudgedAs version ws refutation room numbers clauses r room' numbers' clauses') where
  pub problem_refused_13 : (i : ℕ) → (r ≡ Err (unrefuted.Refutation (not-refuted.StepRefused i)))
      ↔ (ProblemReady version ws refutation (length room) (length numbers) (length clauses) × FirstRefused (cnf (problem version ws)) (steps_of refutation) i)
  problem_refused_13 = Rattle.demands.proofs.StepsRefused.problem_refused_13 call

  pub problem_refused_14 : (n : ℕ) → (r ≡ Err (unrefuted.Refutation (not-refuted.NotClosed n)))
      ↔ (ProblemReady version ws refutation (length room) (length numbers) (length clauses)
      × ((j : ℕ) → j < length (steps_of refutation) → passes (cnf (problem version ws)) (steps_of refutation) j ≡ true)
      × (last_is_empty (steps_of refutation) ≡ false) × (n ≡ length (steps_of refutation)))
  problem_refused_14 = Rattle.demands.proofs.StepsRefused.problem_refused_14 call

  pub problem_accepted_exactly : (r ≡ Ok tt)
      ↔ (ProblemReady version ws refutation (length room) (length numbers) (length clauses)
      × ((j : ℕ) → j < length (steps_of refutation) → passes (cnf (problem version ws)) (steps_of refutation) j ≡ true)
      × (last_is_empty (steps_of refutation) ≡ true))
  problem_accepted_exactly = Rattle.demands.proofs.StepsRefused.problem_accepted_exactly call

  pub problem_both_signs_refused : ProblemReady version ws refutation (length room) (length numbers) (length clauses) → (i : ℕ) → i < length (steps_of refutation)
      → ((j : ℕ) → j < i → passes (cnf (problem version ws)) (steps_of refutation) j ≡ true)
      → both_signs (get_or (steps_of refutation) i (step [] [])).clause ≡ true
      → (r ≡ Err (unrefuted.Refutation (not-refuted.StepRefused i))) ↔ (empty (get_or (steps_of refutation) i (step [] [])).hints ≡ false)
  problem_both_signs_refused = Rattle.demands.proofs.StepsRefused.problem_both_signs_refused call

-- ════════ 19 and 27 ════════

-- The reader of a circuit's text: 19 at the fault of its lines, or of good lines at 2,147,483,647 where the text is too long; 27 where both pass. The writer:
-- 27 of words that pass 1 to 4.
pub refused_19 : {text before after : List ℕ} {r : Result ℕ NotDone} → ReadAs text before r after → (p : ℕ)
    → (r ≡ Err (not-done.BadText p))
    ↔ ((circuit_read text ≡ fault p)
    ⊎ (((ws : List ℕ) × (q : ℕ) × (left : List ℕ) × (circuit_read text ≡ found ws q left)) × (longest_text < length text) × (p ≡ longest_text)))
refused_19 call = Rattle.aiger.proofs.Refused.refused_19 call

pub read_refused_27 : {text before after : List ℕ} {r : Result ℕ NotDone} → ReadAs text before r after → (n : ℕ)
    → (r ≡ Err (not-done.RoomTooSmall n))
    ↔ ((ws : List ℕ) × (q : ℕ) × (left : List ℕ) × (circuit_read text ≡ found ws q left)
    × (length text ≤ longest_text) × (length before < length ws) × (n ≡ length ws))
read_refused_27 call = Rattle.aiger.proofs.Refused.read_refused_27 call

pub write_refused_27 : {ws before after : List ℕ} {r : Result ℕ NotDone} → WrittenAs ws before r after → (n : ℕ)
    → (r ≡ Err (not-done.RoomTooSmall n)) ↔ ((check_circuit ws ≡ granted 0) × (length before < length (circuit_text ws)) × (n ≡ length (circuit_text ws)))
write_refused_27 call = Rattle.aiger.proofs.Refused.write_refused_27 call

-- No fault lies past byte 2,147,483,647.
pub fault_within : (text : List ℕ) {p : ℕ} → circuit_read text ≡ fault p → p ≤ longest_text
fault_within = Rattle.aiger.proofs.Places.fault_within
