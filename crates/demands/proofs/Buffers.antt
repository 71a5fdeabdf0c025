-- Each call that is lent buffers leaves them as document 01 says: by its promise alone. Assumes nothing.
use mathlib.Core.Path.{◌≡◌, refl, sym, ◌∙◌}
use mathlib.Core.Bool.{true, false}
use mathlib.Core.List.{List, [], ◌∷◌}
use mathlib.Core.Logic.{◌≢◌}
use Prim.Native.Nat.{ℕ, ◌≤◌, ◌<◌}
use native.Mathlib.Omega.{arith}
use borrow.Author.Tests.{leb-true, le-leb, lt-leb, eqb-true, ne_eqb}
use lib.Dec.{leb, lit<}
use lib.IntN.{ℤ}
use lib.ListN.{length, take, replicate}
use Rattle.std.specs.Prelude.{Result, Ok, Err}
use Rattle.answers.specs.Answers.{first_failing, granted}
use Rattle.answers.proofs.Answers.{number_of, parts_append, all_pass_if_yes}
use Rattle.clauses.specs.CnfWords.{clauses_of}
use Rattle.clauses.specs.Refutations.{steps_of, judged, numbers_area, clauses_area}
use Rattle.refutation.specs.declared.NotRefuted.{NotRefuted}
use Rattle.refutation.specs.Promise as judging
use Rattle.refutation.specs.Promise.{Judged}
use Rattle.meaning.specs.Problem.{problem}
use Rattle.meaning.specs.Witnesses.{witness_length}
use Rattle.meaning.specs.Cnf.{cnf, cnf_words, variables}
use Rattle.meaning.specs.Calls.{room_after_writing, room_after_judging, numbers_area_after, clauses_area_after}
use Rattle.meaning.proofs.Check.{passes_at}
use Rattle.counts.specs.declared.Counts.{Counts}
use Rattle.problem.proofs.Unique.{refusal_not_yes}
use Rattle.encoder.specs.declared.NotWritten.{NotWritten}
use Rattle.encoder.specs.declared.NotWritten.TheVariants as not-written
use Rattle.encoder.specs.Promise as encoding
use Rattle.encoder.specs.Promise.{EncodedAs}
use Rattle.encoder.proofs.WrittenCnf.{written_only}
use Rattle.finder.specs.Calls.{room_after_finding}
use Rattle.finder.specs.declared.NotFound.{NotFound}
use Rattle.finder.specs.declared.NotFound.TheVariants as not-found
use Rattle.finder.specs.Promise as finding
use Rattle.finder.specs.Promise.{FoundAs}
use Rattle.finder.proofs.Means.{found_first}
use Rattle.job_file.specs.Promise.{Prints}
use Rattle.text.specs.Readings.{Reading, found, fault}
use Rattle.aiger.specs.declared.NotDone.{NotDone}
use Rattle.aiger.specs.Circuits.{circuit_parts}
use Rattle.aiger.specs.Texts.{circuit_text, circuit_read}
use Rattle.aiger.specs.Calls as circuits
use Rattle.aiger.specs.Calls.{room_check, length_check, answer_to, words_found, read_answer, room_after_reading, write_answer}
use Rattle.aiger.specs.Promise as texts
use Rattle.aiger.proofs.CheckedCircuit.{good_by_number, more_if_good}
use Rattle.checker.specs.declared.Unrefuted.{Unrefuted}
use Rattle.checker.specs.Refutation.{refuted_answer, JudgedAs}
use Rattle.demands.specs.Buffers.{KeptPast}
use Rattle.demands.specs.BeforeSteps.{CnfReady, ProblemReady}
use Rattle.demands.proofs.LeftBuffers.{Left, kept_if_unchanged, unchanged, holds, kept, left_by_number, area_left}
use Rattle.demands.proofs.BeforeSteps.{past_cnf, past_problem}

-- ════════ The CNF writer ════════

-- A refusal changes nothing; at 0 the room holds the CNF; what stands past it stays.
module _ {version : ℕ} {ws : List ℕ} {before : List ℤ} {r : Result Counts NotWritten} {after : List ℤ} (e : EncodedAs version ws before r after) where
  cnf_fits : (encoding.answer_of r).number ≡ 0 → length (cnf_words (problem version ws)) ≤ length before
  cnf_fits = go r refl
    where
      go : (s : Result Counts NotWritten) → r ≡ s → (encoding.answer_of s).number ≡ 0 → length (cnf_words (problem version ws)) ≤ length before
      go (Ok n) is at_0 = (written_only version ws before e is).1
      go (Err (not-written.Problem f)) is at_0 = absurd (refusal_not_yes f at_0)
      go (Err (not-written.RoomTooSmall n)) is at_0 = absurd (omega arith)

  pub encoded_buffers :
      ((encoding.answer_of r).number ≢ 0 → after ≡ before)
      × ((encoding.answer_of r).number ≡ 0 → take (length (cnf_words (problem version ws))) after ≡ cnf_words (problem version ws))
      × KeptPast (length (cnf_words (problem version ws))) before after
  unfolding room_after_writing
  encoded_buffers =
      left_by_number (cnf_words (problem version ws)) (encoding.answer_of r)
      (record { length_is = refl; is = e.room_after; fits = λ passes. cnf_fits (eqb-true _ 0 passes) })

-- ════════ The finder ════════

-- "The witness room is untouched on none", and at a refusal; what it holds at 0 is `found_first` of the finder.
module _ {version : ℕ} {ws before : List ℕ} {r : Result ℕ NotFound} {after : List ℕ} (call : FoundAs version ws before r after) where
  unchanged_if_none : (finding.answer_of r).number ≢ 0 → after ≡ before
  unfolding room_after_finding
  unchanged_if_none refused = call.room_after ∙ rw (ne_eqb _ 0 refused)

  room_kept : KeptPast (witness_length (problem version ws)) before after
  room_kept = go r refl
    where
      first : {n : ℕ} → r ≡ Ok n → KeptPast (witness_length (problem version ws)) before after
      first is =
          let seen = found_first version ws before call is in
          let run = seen.3 in
          kept {new = run.0} {test = true} (record { length_is = run.2.length_right; is = run.1; fits = λ z. seen.1.fits })

      refused : {s : Result ℕ NotFound} → r ≡ s → ((finding.answer_of s).number ≡ 0 → ⊥) → KeptPast (witness_length (problem version ws)) before after
      refused is other = kept_if_unchanged (unchanged_if_none (λ at_0. other (rw is at at_0)))

      go : (s : Result ℕ NotFound) → r ≡ s → KeptPast (witness_length (problem version ws)) before after
      go (Ok n) is = first is
      go (Err (not-found.Problem f)) is = refused is (refusal_not_yes f)
      go (Err (not-found.TooMuchOpen n)) is = refused is (λ z. omega arith)
      go (Err (not-found.RoomTooSmall n)) is = refused is (λ z. omega arith)
      go (Err not-found.NoneExists) is = refused is (λ z. omega arith)

  pub found_buffers : ((finding.answer_of r).number ≢ 0 → after ≡ before) × KeptPast (witness_length (problem version ws)) before after
  found_buffers = (unchanged_if_none, room_kept)

-- ════════ The judge for any CNF ════════

-- "When a refutation judge answers 13, 14 or yes, all the needed work words are 0"; another answer changes neither area.
module _ {v : ℕ} {cnf refutation : List ℤ} {numbers clauses : List ℕ} {r : Result Unit NotRefuted} {numbers' clauses' : List ℕ}
    (j : Judged v cnf refutation numbers clauses r numbers' clauses') where
  ready : judged (judging.answer_of r) ≡ true → CnfReady v cnf refutation (length numbers) (length clauses)
  ready done = ((past_cnf (judging.answer_of r) done v cnf refutation (length numbers) (length clauses)).0 (sym j.answered)).0

  by_numbers : Left (replicate (numbers_area v) 0) (numbers_area v) (judged (judging.answer_of r)) numbers numbers'
  by_numbers = area_left (judging.answer_of r) (numbers_area v) j.numbers_left (λ done. (ready done).numbers_fit)

  by_clauses : Left (replicate (clauses_area (clauses_of cnf) (steps_of refutation)) 0) (clauses_area (clauses_of cnf) (steps_of refutation))
      (judged (judging.answer_of r)) clauses clauses'
  by_clauses = area_left (judging.answer_of r) (clauses_area (clauses_of cnf) (steps_of refutation)) j.clauses_left (λ done. (ready done).clauses_fit)

  pub judged_buffers :
      (judged (judging.answer_of r) ≡ false → (numbers' ≡ numbers) × (clauses' ≡ clauses))
      × (judged (judging.answer_of r) ≡ true
      → (take (numbers_area v) numbers' ≡ replicate (numbers_area v) 0)
      × (take (clauses_area (clauses_of cnf) (steps_of refutation)) clauses' ≡ replicate (clauses_area (clauses_of cnf) (steps_of refutation)) 0))
      × KeptPast (numbers_area v) numbers numbers'
      × KeptPast (clauses_area (clauses_of cnf) (steps_of refutation)) clauses clauses'
  judged_buffers = (
    λ refused. (unchanged by_numbers refused, unchanged by_clauses refused),
    λ done. (holds by_numbers done, holds by_clauses done),
    kept by_numbers,
    kept by_clauses,
  )

-- ════════ The judge of a problem's refutation ════════

-- The same, and "the CNF room holds the CNF at 0, 13 and 14".
module _ {version : ℕ} {ws : List ℕ} {refutation room : List ℤ} {numbers clauses : List ℕ} {r : Result Unit Unrefuted} {room' : List ℤ} {numbers' clauses' : List ℕ}
    (j : JudgedAs version ws refutation room numbers clauses r room' numbers' clauses') where
  all_ready : judged (refuted_answer r) ≡ true → ProblemReady version ws refutation (length room) (length numbers) (length clauses)
  all_ready done =
      ((past_problem (refuted_answer r) done version ws refutation (length room) (length numbers) (length clauses)).0 (sym j.answered)).0

  cnf_left : Left (cnf_words (problem version ws)) (length (cnf_words (problem version ws))) (judged (refuted_answer r)) room room'
  unfolding room_after_judging
  cnf_left = record { length_is = refl; is = j.room_left; fits = λ done. (all_ready done).room_fits }

  numbers_left : Left (replicate (numbers_area (variables (problem version ws))) 0) (numbers_area (variables (problem version ws)))
      (judged (refuted_answer r)) numbers numbers'
  unfolding numbers_area_after
  numbers_left = area_left (refuted_answer r) (numbers_area (variables (problem version ws))) j.numbers_left (λ done. (all_ready done).numbers_fit)

  clauses_left : Left (replicate (clauses_area (cnf (problem version ws)) (steps_of refutation)) 0) (clauses_area (cnf (problem version ws)) (steps_of refutation))
      (judged (refuted_answer r)) clauses clauses'
  unfolding clauses_area_after
  clauses_left = area_left (refuted_answer r) (clauses_area (cnf (problem version ws)) (steps_of refutation)) j.clauses_left (λ done. (all_ready done).clauses_fit)

  pub problem_judged_buffers :
      (judged (refuted_answer r) ≡ false → (room' ≡ room) × (numbers' ≡ numbers) × (clauses' ≡ clauses))
      × (judged (refuted_answer r) ≡ true
      → (take (length (cnf_words (problem version ws))) room' ≡ cnf_words (problem version ws))
      × (take (numbers_area (variables (problem version ws))) numbers' ≡ replicate (numbers_area (variables (problem version ws))) 0)
      × (take (clauses_area (cnf (problem version ws)) (steps_of refutation)) clauses' ≡ replicate (clauses_area (cnf (problem version ws)) (steps_of refutation)) 0))
      × KeptPast (length (cnf_words (problem version ws))) room room'
      × KeptPast (numbers_area (variables (problem version ws))) numbers numbers'
      × KeptPast (clauses_area (cnf (problem version ws)) (steps_of refutation)) clauses clauses'
  problem_judged_buffers = (
    λ refused. (unchanged cnf_left refused, unchanged numbers_left refused, unchanged clauses_left refused),
    λ done. (holds cnf_left done, holds numbers_left done, holds clauses_left done),
    kept cnf_left,
    kept numbers_left,
    kept clauses_left,
  )

-- ════════ The reader and the writer of circuits' texts ════════

-- Read words are no more than the room has.
words_fit : (text : List ℕ) (room : ℕ) (r : Reading) → (answer_to text room r).number ≡ 0 → length (words_found r) ≤ room
words_fit text room (fault p) at_0 = absurd (omega arith)
words_fit text room (found ws p t) at_0 =
    let checks = length_check text ∷ room_check (length ws) room ∷ [] in
    leb-true _ _ (passes_at checks 1 (all_pass_if_yes checks (granted (length ws)) refl at_0) (lit< tt))

pub read_buffers : {text before : List ℕ} {r : Result ℕ NotDone} {after : List ℕ} → texts.ReadAs text before r after
    → ((texts.answer_of r).number ≢ 0 → after ≡ before)
    × ((texts.answer_of r).number ≡ 0 → take (length (words_found (circuit_read text))) after ≡ words_found (circuit_read text))
    × KeptPast (length (words_found (circuit_read text))) before after
unfolding read_answer room_after_reading
read_buffers {text} {before} {r} a =
    left_by_number (words_found (circuit_read text)) (texts.answer_of r)
    (record {
      length_is = refl;
      is = a.room_after;
      fits = λ passes. words_fit text (length before) (circuit_read text) (sym (number_of a.answered) ∙ eqb-true _ 0 passes);
    })

-- Nor is a written text longer than its room.
text_fits : (ws : List ℕ) (room : ℕ) → (write_answer ws room).number ≡ 0 → length (circuit_text ws) ≤ room
unfolding write_answer
text_fits ws room at_0 =
    let needed = length (circuit_text ws) in
    let checks = room_check needed room ∷ [] in
    let parted = parts_append (circuit_parts ws) (checks ∷ []) (granted needed) in
    let good = good_by_number ws 0 (first_failing checks (granted needed)) (λ n l h z. omega arith) (sym (number_of parted) ∙ at_0) in
    let answered = number_of (more_if_good ws (checks ∷ []) (granted needed) good) in
    leb-true _ _ (passes_at checks 0 (all_pass_if_yes checks (granted needed) refl (sym answered ∙ at_0)) (lit< tt))

pub written_buffers : {ws before : List ℕ} {r : Result ℕ NotDone} {after : List ℕ} → texts.WrittenAs ws before r after
    → ((texts.answer_of r).number ≢ 0 → after ≡ before)
    × ((texts.answer_of r).number ≡ 0 → take (length (circuit_text ws)) after ≡ circuit_text ws)
    × KeptPast (length (circuit_text ws)) before after
unfolding circuits.room_after_writing
written_buffers {ws} {before} {r} a =
    left_by_number (circuit_text ws) (texts.answer_of r)
    (record { length_is = refl; is = a.room_after; fits = λ passes. text_fits ws (length before) (sym (number_of a.answered) ∙ eqb-true _ 0 passes) })

-- ════════ A text that is printed ════════

pub printed_buffers : {text out : List ℕ} {r : Result ℕ ℕ} {out' : List ℕ} → Prints text out r out'
    → (length out < length text → out' ≡ out)
    × (length text ≤ length out → take (length text) out' ≡ text)
    × KeptPast (length text) out out'
printed_buffers {text} {out} {r} {out'} p =
    let b : Left text (length text) (leb (length text) (length out)) out out' = record { length_is = refl; is = p.left; fits = λ passes. leb-true _ _ passes } in
    (λ short. unchanged b (lt-leb _ _ short), λ fits. holds b (le-leb _ _ fits), kept b)
