-- Beside the page of Demands: what is proved further of what Q-3, Q-5 and Q-6 of document 02 ask.
-- Each theorem is stated in full, and is proved by the one that it names. Sentences in quotes are those of documents 01 and 02. Assumes nothing.
use mathlib.Core.{Path.◌≡◌, List.List, List.[], List.◌∷◌, List.◌++◌, Logic.◌↔◌}
use mathlib.Core.Bool.{Bool, false}
use Prim.Native.Nat.{ℕ, ◌≤◌}
use lib.{IntN.ℤ, ListN.length, ListN.take}
use Rattle.std.specs.Prelude.{Result, Ok, Err}
use Rattle.answers.specs.Lists.{written}
use Rattle.answers.specs.Limits.{longest_text}
use Rattle.answers.specs.Answers.{Answer, granted, first_failing, first_failing_part}
use Rattle.clauses.specs.Clauses.{Assignment, Satisfies}
use Rattle.meaning.specs.Problem.{problem}
use Rattle.meaning.specs.Cnf.{cnf, cnf_words}
use Rattle.meaning.specs.Calls.{check_parts, WellFormed, judge_bytes, judge_witness}
use Rattle.counts.specs.declared.Counts.{Counts}
use Rattle.problem.specs.declared.ProblemRecord.{ProblemRecord}
use Rattle.problem.specs.declared.Refusal.{Refusal}
use Rattle.problem.specs.Promise.{answer_of as checked_answer, CheckedAs}
use Rattle.encoder.specs.declared.NotWritten.{NotWritten}
use Rattle.encoder.specs.Promise.{answer_of as encoded_answer, EncodedAs}
use Rattle.witness.specs.declared.NotWitness.{NotWitness}
use Rattle.witness.specs.Promise.{answer_of as witness_answer}
use Rattle.finder.specs.declared.NotFound.{NotFound}
use Rattle.finder.specs.declared.NotFound.TheVariants as not-found
use Rattle.finder.specs.Promise.{answer_of as finding_answer, FoundAs, Searched}
use Rattle.job_file.specs.JobFile.{job_version, printed}
use Rattle.job_file.specs.Promise.{Prints}
use Rattle.text.specs.Readings.{found}
use Rattle.aiger.specs.declared.NotDone.{NotDone}
use Rattle.aiger.specs.Circuits.{check_circuit}
use Rattle.aiger.specs.Texts.{circuit_text, circuit_read}
use Rattle.aiger.specs.Accepted.{text_telling}
use Rattle.aiger.specs.Calls.{room_check, words_found}
use Rattle.aiger.specs.Promise.{answer_of as circuit_answer, ReadAs, WrittenAs}
use Rattle.checker.specs.declared.Unrefuted.{Unrefuted}
use Rattle.checker.specs.Refutation.{refuted_answer, JudgedAs}
use Rattle.demands.specs.VersionOne.{problem_in_01, check_in_01, check_problem_in_01, cnf_in_01, cnf_words_in_01, counts_in_01, write_cnf_in_01, room_after_writing_in_01, judge_bytes_in_01, judge_witness_in_01, find_witness_in_01, room_after_finding_in_01, judge_refutation_in_01, room_after_judging_in_01, numbers_area_after_in_01, clauses_area_after_in_01, printed_in_01}

-- ════════ Q-3: the finder ════════

module _ (version : ℕ) (ws room : List ℕ) {r : Result ℕ NotFound} {after : List ℕ} (call : FoundAs version ws room r after) where
  -- "Its none is proved equal to the CNF can't be satisfied": given the same, by an assignment of any length.
  pub none_unsatisfiable : WellFormed version ws → Searched (problem version ws) (length room)
      → (r ≡ Err not-found.NoneExists) ↔ ((a : Assignment) → Satisfies a (cnf (problem version ws)) → ⊥)
  none_unsatisfiable = Rattle.demands.proofs.NoneAtAll.none_unsatisfiable version ws room call

-- ════════ Q-5: circuits in AIGER text ════════

-- Which texts are accepted: those of words that pass 1 to 4, in which a reset of 0 may be told of any latches, and anything after them. Without one told
-- it is the normal text; and of the call, which has then written their words.
pub accepted_texts : (text ws : List ℕ) (p : ℕ) (left : List ℕ)
    → (circuit_read text ≡ found ws p left)
    ↔ ((check_circuit ws ≡ granted 0) × ((told : ℕ → Bool) × (text ≡ text_telling told ws ++ left) × (p ≡ length (text_telling told ws))))
accepted_texts = Rattle.aiger.proofs.AcceptedTexts.accepted_texts

pub normal_text : (ws : List ℕ) → text_telling (λ i. false) ws ≡ circuit_text ws
normal_text = Rattle.aiger.proofs.AcceptedTexts.normal_text

pub read_accepted : {text before after : List ℕ} {r : Result ℕ NotDone} → ReadAs text before r after → (n : ℕ)
    → (r ≡ Ok n)
    ↔ ((ws : List ℕ) × (told : ℕ → Bool) × (left : List ℕ) × (check_circuit ws ≡ granted 0) × (text ≡ text_telling told ws ++ left)
    × (length text ≤ longest_text) × (length ws ≤ length before) × (n ≡ length ws) × (after ≡ written ws before))
read_accepted call = Rattle.aiger.proofs.AcceptedTexts.read_accepted call

-- Of the calls: what was read and is written again is never refused by 1 to 4; 27, or yes.
pub call_read_answered : {text room room' out out' : List ℕ} {q r : Result ℕ NotDone} → ReadAs text room q room' → (circuit_answer q).number ≡ 0
    → WrittenAs (take (circuit_answer q).place room') out r out'
    → circuit_answer r ≡ first_failing (room_check (length (circuit_text (words_found (circuit_read text)))) (length out) ∷ [])
    (granted (length (circuit_text (words_found (circuit_read text)))))
call_read_answered p at_0 = Rattle.aiger.proofs.RoundTrips.call_read_answered p at_0

-- ════════ Q-6: version 1 ════════

-- "Version 1 files mean D = 0 and keep every answer": those of document 01 as it was, with its 5 words and its 5+2L+2A+3N (specs/VersionOne).
-- The problem that the words are, the check whatever comes after it, the CNF, and the judge of a run's bytes: as document 01 has them.
pub problem_in_version_1 : (ws : List ℕ) → problem 1 ws ≡ problem_in_01 ws
problem_in_version_1 = Rattle.demands.proofs.VersionOneKept.problem_in_version_1

pub check_in_version_1 : (ws : List ℕ) (after : Answer) → first_failing_part (check_parts 1 ws) after ≡ first_failing_part (check_in_01 ws) after
check_in_version_1 = Rattle.demands.proofs.VersionOneKept.check_in_version_1

pub cnf_in_version_1 : (ws : List ℕ) → (cnf (problem 1 ws) ≡ cnf_in_01 (problem_in_01 ws)) × (cnf_words (problem 1 ws) ≡ cnf_words_in_01 (problem_in_01 ws))
cnf_in_version_1 ws = (Rattle.demands.proofs.VersionOneKept.cnf_in_version_1 ws, Rattle.demands.proofs.VersionOneKept.cnf_words_in_version_1 ws)

pub judged_in_version_1 : (ws bs : List ℕ) → judge_bytes (problem 1 ws) bs ≡ judge_bytes_in_01 (problem_in_01 ws) bs
judged_in_version_1 = Rattle.demands.proofs.VersionOneKept.judged_in_version_1

-- And of every call: the check with the numbers of its record, the writer, the judge of a run, the finder, the judge of a problem's refutation.
pub checked_in_version_1 : {ws : List ℕ} {r : Result ProblemRecord Refusal} → CheckedAs 1 ws r → checked_answer r ≡ check_problem_in_01 ws
checked_in_version_1 = Rattle.demands.proofs.VersionOneKept.checked_in_version_1

pub record_in_version_1 : {ws : List ℕ} {g : ProblemRecord} → CheckedAs 1 ws (Ok g) → g.counts ≡ counts_in_01 (problem_in_01 ws)
record_in_version_1 = Rattle.demands.proofs.VersionOneKept.record_in_version_1

pub encoded_in_version_1 : {ws : List ℕ} {before after : List ℤ} {r : Result Counts NotWritten} → EncodedAs 1 ws before r after
    → (encoded_answer r ≡ write_cnf_in_01 ws (length before)) × (after ≡ room_after_writing_in_01 (encoded_answer r) ws before)
encoded_in_version_1 = Rattle.demands.proofs.VersionOneKept.encoded_in_version_1

pub numbers_in_version_1 : {ws : List ℕ} {before after : List ℤ} {n : Counts} → EncodedAs 1 ws before (Ok n) after → n ≡ counts_in_01 (problem_in_01 ws)
numbers_in_version_1 = Rattle.demands.proofs.VersionOneKept.numbers_in_version_1

pub run_judged_in_version_1 : (ws bs : List ℕ) (r : Result Unit NotWitness) → witness_answer r ≡ judge_witness 1 ws bs → witness_answer r ≡ judge_witness_in_01 ws bs
run_judged_in_version_1 = Rattle.demands.proofs.VersionOneKept.run_judged_in_version_1

pub found_in_version_1 : {ws before after : List ℕ} {r : Result ℕ NotFound} → FoundAs 1 ws before r after
    → (finding_answer r ≡ find_witness_in_01 ws (length before)) × (after ≡ room_after_finding_in_01 (finding_answer r) ws before)
found_in_version_1 = Rattle.demands.proofs.VersionOneKept.found_in_version_1

pub refutation_judged_in_version_1 : {ws : List ℕ} {refutation room : List ℤ} {numbers clauses : List ℕ}
    {r : Result Unit Unrefuted} {room' : List ℤ} {numbers' clauses' : List ℕ}
    → JudgedAs 1 ws refutation room numbers clauses r room' numbers' clauses'
    → (refuted_answer r ≡ judge_refutation_in_01 ws refutation (length room) (length numbers) (length clauses))
    × (room' ≡ room_after_judging_in_01 (refuted_answer r) ws room)
    × (numbers' ≡ numbers_area_after_in_01 (refuted_answer r) ws numbers)
    × (clauses' ≡ clauses_area_after_in_01 (refuted_answer r) ws refutation clauses)
refutation_judged_in_version_1 = Rattle.demands.proofs.VersionOneKept.refutation_judged_in_version_1

-- And the program: every file whose version byte is not 2 prints what it printed, so one that is neither 1 nor 2 is refused by 15 as it was.
pub printed_kept : (bs : List ℕ) → (job_version bs ≡ 2 → ⊥) → printed bs ≡ printed_in_01 bs
printed_kept = Rattle.demands.proofs.PrintedKept.printed_kept

pub print_kept : (bs : List ℕ) → (job_version bs ≡ 2 → ⊥) → {out : List ℕ} {r : Result ℕ ℕ} {out' : List ℕ}
    → Prints (printed bs) out r out' → Prints (printed_in_01 bs) out r out'
print_kept bs not_2 = Rattle.demands.proofs.PrintedKept.print_kept bs not_2
