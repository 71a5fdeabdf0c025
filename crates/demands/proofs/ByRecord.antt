-- What rests on the numbers of variables, clauses and words in the check's record: 6, 12 and the header of the text. Assumes nothing.
use mathlib.Core.Path.{◌≡◌, refl, sym, ◌∙◌, ap}
use mathlib.Core.Bool.{Bool, true, false, not, cond, true≢false}
use mathlib.Core.List.{List, [], ◌∷◌, ◌++◌}
use mathlib.Core.Logic.{◌↔◌, ◌⊎◌, inl, inr}
use Prim.Native.Nat.{ℕ, suc, ◌+◌, ◌≤◌, ◌<◌}
use native.Mathlib.Omega.{arith}
use borrow.Author.Tests.{leb-true, leb-false, le-leb, lt-leb}
use lib.Dec.{leb, eqb}
use lib.IntN.{ℤ}
use lib.ListN.{length}
use Rattle.std.specs.Prelude.{Result, Ok, Err}
use Rattle.answers.specs.Lists.{all_of, each}
use Rattle.answers.specs.Answers.{Answer, answer, Check, check, first_failing, granted, area_too_small, room_too_small}
use Rattle.clauses.specs.Refutations.{steps_of, refutation_checks, area_checks, judge_steps, judged}
use Rattle.answers.proofs.Tests.{both_true, all_of_append, all_of_numbered}
use Rattle.answers.proofs.Answers.{number_of, place_of, other_than, first_failing_passed, passed_by_number, number_after, all_pass_if_granted}
use Rattle.clauses.proofs.Judges.{refutation_checks_refusing, steps_judged, clauses_judged}
use Rattle.refutation.specs.declared.NotRefuted.TheVariants as not-refuted
use Rattle.meaning.specs.Problem.{Problem, problem}
use Rattle.meaning.specs.Cnf.{cnf, cnf_words, variables}
use Rattle.meaning.specs.Calls.{WellFormed, write_cnf, judge_refutation}
use Rattle.job_file.specs.JobFile.{job_version, job_words, job_problem, job_answer, header_line, clause_line, cnf_text, printed}
use Rattle.meaning.proofs.Check.{checked_if_well_formed}
use Rattle.meaning.proofs.Calls.{write_cnf_is, refutation_by_clauses}
use Rattle.counts.specs.declared.Counts.{Counts}
use Rattle.problem.specs.declared.ProblemRecord.{ProblemRecord}
use Rattle.problem.specs.Promise.{CheckedAs}
use Rattle.encoder.specs.declared.NotWritten.{NotWritten}
use Rattle.encoder.specs.declared.NotWritten.TheVariants as not-written
use Rattle.encoder.specs.Promise as encoding
use Rattle.encoder.specs.Promise.{EncodedAs}
use Rattle.encoder.proofs.Unique.{encoded_unique}
use Rattle.job_file.proofs.PrintJob.{text_if_yes}
use Rattle.checker.specs.declared.Unrefuted.{Unrefuted}
use Rattle.checker.specs.declared.Unrefuted.TheVariants as unrefuted
use Rattle.checker.specs.Refutation.{refuted_answer, JudgedAs}
use Rattle.encoder.proofs.WrittenCnf.{cnf_written, written_only}
use Rattle.checker.proofs.RefutedUnique.{same_answer}

-- ════════ One check ════════

-- Either the check passes, and the answer is that of what comes after it, or it is its refusal.
one_check : {x : Answer} (b : Bool) (after refusal : Answer) → cond b after refusal ≡ x → ((b ≡ true) × (after ≡ x)) ⊎ ((b ≡ false) × (refusal ≡ x))
one_check true after refusal e = inl (refl, e)
one_check false after refusal e = inr (refl, e)

-- ════════ 6 and 12 by the numbers that they name ════════

-- 6, and what comes after it, which is no 6.
abbrev room_answer : ℕ → ℕ → Answer → Answer
room_answer words room after = cond (leb words room) after (room_too_small words)

room_refused : (words room n : ℕ) (after : Answer) → (after.number ≡ 6 → ⊥)
    → (room_answer words room after ≡ room_too_small n) ↔ ((room < words) × (n ≡ words))
room_refused words room n after not_6 = (
  λ e. elim (one_check (leb words room) after (room_too_small words) e) [
    | inl a ↦ absurd (not_6 (number_of a.1))
    | inr b ↦ (leb-false _ _ b.0, sym (place_of b.1))
  ],
  λ h. rw (lt-leb words room h.0, h.1),
)

-- 12, of an area by numbers and an area by clauses: the words needed, and the words there.
abbrev size_checks : ℕ → ℕ → ℕ → ℕ → List Check
size_checks by_numbers by_clauses numbers clauses =
    check (leb by_numbers numbers) (area_too_small by_numbers) ∷ check (leb by_clauses clauses) (area_too_small by_clauses) ∷ []

abbrev AreaShort : ℕ → ℕ → ℕ → ℕ → ℕ → Type 0
AreaShort by_numbers by_clauses numbers clauses n =
    ((numbers < by_numbers) × (n ≡ by_numbers)) ⊎ ((by_numbers ≤ numbers) × (clauses < by_clauses) × (n ≡ by_clauses))

areas_refused : (by_numbers by_clauses numbers clauses n : ℕ) (after : Answer) → (after.number ≡ 12 → ⊥)
    → (first_failing (size_checks by_numbers by_clauses numbers clauses) after ≡ area_too_small n) ↔ AreaShort by_numbers by_clauses numbers clauses n
areas_refused by_numbers by_clauses numbers clauses n after not-12 = (
  λ e. elim (one_check (leb by_numbers numbers) _ _ e) [
    | inl a ↦ elim (one_check (leb by_clauses clauses) _ _ a.1) [
      | inl b ↦ absurd (not-12 (number_of b.1))
      | inr b ↦ inr (leb-true _ _ a.0, leb-false _ _ b.0, sym (place_of b.1))
    ]
    | inr a ↦ inl (leb-false _ _ a.0, sym (place_of a.1))
  ],
  λ h. elim h [
    | inl s ↦ rw (lt-leb by_numbers numbers s.0, s.1)
    | inr s ↦ rw (le-leb by_numbers numbers s.0, lt-leb by_clauses clauses s.1, s.2)
  ],
)

-- ════════ The record's numbers ════════

module _ {version : ℕ} {ws : List ℕ} {g : ProblemRecord} (c : CheckedAs version ws (Ok g)) where
  abbrev p : Problem
  p = problem version ws

  formed : WellFormed version ws
  formed = sym c.answered

  variables_are : g.counts.variables ≡ variables p
  variables_are = ap (λ (n : Counts). n.variables) c.counted

  clauses_are : g.counts.clauses ≡ length (cnf p)
  clauses_are = ap (λ (n : Counts). n.clauses) c.counted

  words_are : g.counts.words ≡ length (cnf_words p)
  words_are = ap (λ (n : Counts). n.words) c.counted

  -- ════════ 6 of the CNF writer ════════

  -- The check passes, so 6 is the first that can answer.
  write_cnf_by_record : (room : ℕ) → write_cnf version ws room ≡ room_answer g.counts.words room (granted g.counts.words)
  write_cnf_by_record room = write_cnf_is version ws room ∙ checked_if_well_formed version ws _ formed ∙ rw words_are

  module _ {before after : List ℤ} {r : Result Counts NotWritten} (e : EncodedAs version ws before r after) where
    pub room_by_record : (n : ℕ) → (r ≡ Err (not-written.RoomTooSmall n)) ↔ ((length before < g.counts.words) × (n ≡ g.counts.words))
    room_by_record n =
        let named = room_refused g.counts.words (length before) n (granted g.counts.words) (λ z. omega arith) in (
          λ s. named.0 (sym (write_cnf_by_record (length before)) ∙ sym e.answered ∙ ap encoding.answer_of s),
          λ h. (encoded_unique version ws before r (Err (not-written.RoomTooSmall n)) after _ e
              (record { answered = sym (write_cnf_by_record (length before) ∙ named.1 h); room_after = refl; numbered = tt })).0,
        )

    pub written_by_record : (r ≡ Ok g.counts) ↔ (g.counts.words ≤ length before)
    written_by_record = (
      λ s. rw words_are (written_only version ws before e s).1,
      λ fits. (cnf_written version ws before e formed (rw words_are at fits)).0 ∙ ap Ok (sym c.counted),
    )

  -- ════════ 6 and 12 of the judge of a problem's refutation ════════

  module _ (refutation : List ℤ) where
    abbrev words_checks : List Check
    words_checks = refutation_checks g.counts.variables g.counts.clauses refutation

    -- The words that each area needs.
    abbrev by_numbers : ℕ
    by_numbers = g.counts.variables + 1

    abbrev by_clauses : ℕ
    by_clauses = g.counts.clauses + length (steps_of refutation)

    abbrev steps_answer : Answer
    steps_answer = judge_steps (cnf p) (steps_of refutation)

    abbrev after_6 : ℕ → ℕ → Answer
    after_6 numbers clauses = first_failing words_checks (first_failing (size_checks by_numbers by_clauses numbers clauses) steps_answer)

    -- 6, 11, 12, then the steps.
    judge_by_record : (room numbers clauses : ℕ)
        → judge_refutation version ws refutation room numbers clauses ≡ room_answer g.counts.words room (after_6 numbers clauses)
    unfolding area_checks
    judge_by_record room numbers clauses =
        let one_more : variables p + 1 ≡ suc (variables p) = omega arith in
        refutation_by_clauses version ws refutation room numbers clauses
        ∙ checked_if_well_formed version ws _ formed
        ∙ rw (clauses_judged (variables p) (cnf p) refutation numbers clauses, words_are, variables_are, clauses_are, one_more)

    -- The steps answer 0, 13 or 14.
    not_steps : (k : ℕ) → judged (answer k 0) ≡ false → steps_answer.number ≡ k → ⊥
    not_steps k other e = true≢false (sym (steps_judged (cnf p) (steps_of refutation)) ∙ rw e other)

    -- 11 is the one number of its checks.
    words_other : (k : ℕ) → not (eqb 11 k) ≡ true → all_of (other_than k) words_checks ≡ true
    unfolding refutation_checks
    words_other k e = rw all_of_append (both_true (all_of_numbered (other_than k) 0 refutation _ (λ i w. e)) (both_true e refl))

    not_6 : (numbers clauses : ℕ) → (after_6 numbers clauses).number ≡ 6 → ⊥
    not_6 numbers clauses e =
        let areas = size_checks by_numbers by_clauses numbers clauses in
        not_steps 6 refl (number_after 6 areas steps_answer refl (number_after 6 words_checks (first_failing areas steps_answer) (words_other 6 refl) e))

    -- 12 comes where 6 and 11 pass.
    area_refused : (room numbers clauses n : ℕ)
        → (room_answer g.counts.words room (after_6 numbers clauses) ≡ area_too_small n)
        ↔ ((g.counts.words ≤ room) × (first_failing words_checks (granted 0) ≡ granted 0) × AreaShort by_numbers by_clauses numbers clauses n)
    area_refused room numbers clauses n =
        let areas = first_failing (size_checks by_numbers by_clauses numbers clauses) steps_answer in
        let named = areas_refused by_numbers by_clauses numbers clauses n steps_answer (not_steps 12 refl) in (
          λ e. elim (one_check (leb g.counts.words room) _ _ e) [
            | inl a ↦
                let pass = passed_by_number 12 words_checks areas (words_other 12 refl) (number_of a.1) in
                (leb-true _ _ a.0, first_failing_passed words_checks (granted 0) pass, named.0 (sym (first_failing_passed words_checks areas pass) ∙ a.1))
            | inr b ↦ absurd (let z : ◌≡◌ {A = ℕ} 6 12 = number_of b.1 in omega arith)
          ],
          λ h.
              let pass = all_pass_if_granted words_checks (granted 0) (refutation_checks_refusing g.counts.variables g.counts.clauses refutation) h.1 in
              rw (le-leb g.counts.words room h.0) (first_failing_passed words_checks areas pass ∙ named.1 h.2),
        )

  module _ {refutation room : List ℤ} {numbers clauses : List ℕ} {r : Result Unit Unrefuted} {room' : List ℤ} {numbers' clauses' : List ℕ}
      (j : JudgedAs version ws refutation room numbers clauses r room' numbers' clauses') where
    answered : refuted_answer r ≡ room_answer g.counts.words (length room) (after_6 refutation (length numbers) (length clauses))
    answered = j.answered ∙ judge_by_record refutation (length room) (length numbers) (length clauses)

    pub judge_room_by_record : (n : ℕ) → (r ≡ Err (unrefuted.Cnf (not-written.RoomTooSmall n))) ↔ ((length room < g.counts.words) × (n ≡ g.counts.words))
    judge_room_by_record n =
        let named = room_refused g.counts.words (length room) n _ (not_6 refutation (length numbers) (length clauses)) in (
          λ s. named.0 (sym answered ∙ ap refuted_answer s),
          λ h. same_answer r (Err (unrefuted.Cnf (not-written.RoomTooSmall n))) (answered ∙ named.1 h),
        )

    pub area_by_record : (n : ℕ)
        → (r ≡ Err (unrefuted.Refutation (not-refuted.AreaTooSmall n)))
        ↔ ((g.counts.words ≤ length room)
        × (first_failing (words_checks refutation) (granted 0) ≡ granted 0)
        × AreaShort (by_numbers refutation) (by_clauses refutation) (length numbers) (length clauses) n)
    area_by_record n =
        let named = area_refused refutation (length room) (length numbers) (length clauses) n in (
          λ s. named.0 (sym answered ∙ ap refuted_answer s),
          λ h. same_answer r (Err (unrefuted.Refutation (not-refuted.AreaTooSmall n))) (answered ∙ named.1 h),
        )

-- ════════ The header of the text ════════

pub header_by_record : (bs : List ℕ) {g : ProblemRecord} → CheckedAs (job_version bs) (job_words bs) (Ok g) → (job_answer bs).number ≡ 0
    → printed bs ≡ header_line g.counts.variables g.counts.clauses ++ each (cnf (job_problem bs)) clause_line
unfolding cnf_text
header_by_record bs c e = text_if_yes bs e ∙ rw (variables_are c, clauses_are c)
