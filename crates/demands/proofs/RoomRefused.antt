-- 6 and 12, of any words: exactly when the CNF writer and both refutation judges answer them, and with what place. Assumes nothing.
use mathlib.Core.Path.{◌≡◌, refl, sym, ◌∙◌, ap}
use mathlib.Core.Bool.{false, true≢false}
use mathlib.Core.List.{List}
use mathlib.Core.Logic.{◌↔◌, ◌⊎◌, inl, inr}
use Prim.Native.Nat.{ℕ, ◌≤◌, ◌<◌}
use native.Mathlib.Omega.{arith}
use borrow.Author.Tests.{leb-true, leb-false, le-leb, lt-leb}
use lib.Dec.{leb}
use lib.IntN.{ℤ}
use lib.ListN.{length}
use Rattle.std.specs.Prelude.{Result, Err}
use Rattle.answers.specs.Answers.{Answer, answer, Check, first_failing, granted, area_too_small, room_too_small}
use Rattle.answers.proofs.Answers.{number_of, place_of, number_after, past_checks, one_check}
use Rattle.clauses.specs.Clauses.{Clause}
use Rattle.clauses.specs.CnfWords.{clauses_of, cnf_checks}
use Rattle.clauses.specs.Refutations.{Step, steps_of, refutation_checks, area_checks, numbers_area, clauses_area, judge_steps, judge_clauses, judged}
use Rattle.clauses.proofs.Judges.{cnf_checks_other, cnf_checks_refusing, refutation_checks_other, refutation_checks_refusing, area_checks_other}
use Rattle.clauses.proofs.Judges.{steps_judged, cnf_judged, clauses_judged}
use Rattle.refutation.specs.declared.NotRefuted.{NotRefuted}
use Rattle.refutation.specs.declared.NotRefuted.TheVariants as not-refuted
use Rattle.refutation.specs.Promise.{answer_of as refutation_answer, Judged}
use Rattle.refutation.proofs.Unique as cnf-unique
use Rattle.meaning.specs.Problem.{Problem, problem}
use Rattle.meaning.specs.Cnf.{cnf, cnf_words, variables}
use Rattle.meaning.specs.Calls.{WellFormed, room_checks}
use Rattle.meaning.proofs.Check.{problem_checked, past_check}
use Rattle.meaning.proofs.Calls.{write_cnf_is, refutation_by_clauses}
use Rattle.counts.specs.declared.Counts.{Counts}
use Rattle.encoder.specs.declared.NotWritten.{NotWritten}
use Rattle.encoder.specs.declared.NotWritten.TheVariants as not-written
use Rattle.encoder.specs.Promise.{answer_of as encoded_answer, EncodedAs}
use Rattle.encoder.proofs.Unique.{encoded_unique}
use Rattle.checker.specs.declared.Unrefuted.{Unrefuted}
use Rattle.checker.specs.declared.Unrefuted.TheVariants as unrefuted
use Rattle.checker.specs.Refutation.{refuted_answer, JudgedAs}
use Rattle.checker.proofs.RefutedUnique as problem-unique
use Rattle.demands.proofs.BeforeSteps.{yes_through, past_6}

-- ════════ 6 ════════

-- 6 before what is no 6.
room_refused : (p : Problem) (room n : ℕ) (after : Answer) → (after.number ≡ 6 → ⊥)
    → (first_failing (room_checks p room) after ≡ room_too_small n) ↔ ((room < length (cnf_words p)) × (n ≡ length (cnf_words p)))
room_refused p room n after not_6 = (
  λ e. elim (one_check (leb (length (cnf_words p)) room) _ _ e) [
    | inl a ↦ absurd (not_6 (number_of a.1))
    | inr b ↦ (leb-false _ _ b.0, sym (place_of b.1))
  ],
  λ h. rw (lt-leb (length (cnf_words p)) room h.0, h.1),
)

-- And after the check of a problem.
checked_6 : (version : ℕ) (ws : List ℕ) (room n : ℕ) (after : Answer) → (after.number ≡ 6 → ⊥)
    → (problem_checked version ws (first_failing (room_checks (problem version ws) room) after) ≡ room_too_small n)
    ↔ (WellFormed version ws × (room < length (cnf_words (problem version ws))) × (n ≡ length (cnf_words (problem version ws))))
checked_6 version ws room n after not_6 =
    let checked = past_check version ws (first_failing (room_checks (problem version ws) room) after) (room_too_small n) refl in
    let named = room_refused (problem version ws) room n after not_6 in (
      λ e. let (formed, later) = checked.0 e in let (short, is) = named.0 later in (formed, short, is),
      λ h. checked.1 (h.0, named.1 (h.1, h.2)),
    )

-- The CNF writer.
module _ {version : ℕ} {ws : List ℕ} {before after : List ℤ} {r : Result Counts NotWritten} (call : EncodedAs version ws before r after) where
  pub refused_6 : (n : ℕ) → (r ≡ Err (not-written.RoomTooSmall n))
      ↔ (WellFormed version ws × (length before < length (cnf_words (problem version ws))) × (n ≡ length (cnf_words (problem version ws))))
  refused_6 n =
      let named = checked_6 version ws (length before) n (granted (length (cnf_words (problem version ws)))) (λ z. omega arith) in
      let is = write_cnf_is version ws (length before) in (
        λ e. named.0 (sym is ∙ sym call.answered ∙ ap encoded_answer e),
        λ h. (encoded_unique version ws before r (Err (not-written.RoomTooSmall n)) after _ call
            (record { answered = sym (is ∙ named.1 h); room_after = refl; numbered = tt })).0,
      )

-- ════════ 12 ════════

-- An area is short by so many words: that by numbers, or where it fits that by clauses.
abbrev pub AreaShort : ℕ → ℕ → ℕ → ℕ → ℕ → Type 0
AreaShort by_numbers by_clauses numbers clauses n =
    ((numbers < by_numbers) × (n ≡ by_numbers)) ⊎ ((by_numbers ≤ numbers) × (clauses < by_clauses) × (n ≡ by_clauses))

module _ (v : ℕ) (cs : List Clause) (refutation : List ℤ) (numbers clauses : ℕ) where
  abbrev ss : List Step
  ss = steps_of refutation

  abbrev words : List Check
  words = refutation_checks v (length cs) refutation

  abbrev areas : List Check
  areas = area_checks v cs ss numbers clauses

  -- The steps answer 0, 13 or 14.
  not_steps : (k : ℕ) → judged (answer k 0) ≡ false → (judge_steps cs ss).number ≡ k → ⊥
  not_steps k other e = true≢false (sym (steps_judged cs ss) ∙ rw e other)

  areas_refused : (n : ℕ) → (first_failing areas (judge_steps cs ss) ≡ area_too_small n) ↔ AreaShort (numbers_area v) (clauses_area cs ss) numbers clauses n
  unfolding area_checks
  areas_refused n = (
    λ e. elim (one_check (leb (numbers_area v) numbers) _ _ e) [
      | inl a ↦ elim (one_check (leb (clauses_area cs ss) clauses) _ _ a.1) [
        | inl b ↦ absurd (not_steps 12 refl (number_of b.1))
        | inr b ↦ inr (leb-true _ _ a.0, leb-false _ _ b.0, sym (place_of b.1))
      ]
      | inr a ↦ inl (leb-false _ _ a.0, sym (place_of a.1))
    ],
    λ h. elim h [
      | inl s ↦ rw (lt-leb (numbers_area v) numbers s.0, s.1)
      | inr s ↦ rw (le-leb (numbers_area v) numbers s.0, lt-leb (clauses_area cs ss) clauses s.1, s.2)
    ],
  )

  -- 12 comes where 11 passes.
  clauses_12 : (n : ℕ) → (judge_clauses v cs refutation numbers clauses ≡ area_too_small n)
      ↔ ((first_failing words (granted 0) ≡ granted 0) × AreaShort (numbers_area v) (clauses_area cs ss) numbers clauses n)
  clauses_12 n =
      let past = past_checks (area_too_small n) words (first_failing areas (judge_steps cs ss)) (refutation_checks_other 12 refl v (length cs) refutation) in
      let right = yes_through words (refutation_checks_refusing v (length cs) refutation) in
      let is = clauses_judged v cs refutation numbers clauses in (
        λ e. let (pass, later) = past.0 (sym is ∙ e) in (right.1 pass, (areas_refused n).0 later),
        λ h. is ∙ past.1 (right.0 h.0, (areas_refused n).1 h.1),
      )

  -- 11, 12 and the steps are no 6.
  clauses_not_6 : (judge_clauses v cs refutation numbers clauses).number ≡ 6 → ⊥
  clauses_not_6 e =
      let past_11 = number_after 6 words (first_failing areas (judge_steps cs ss)) (refutation_checks_other 6 refl v (length cs) refutation)
      (sym (number_of (clauses_judged v cs refutation numbers clauses)) ∙ e) in
      not_steps 6 refl (number_after 6 areas (judge_steps cs ss) (area_checks_other 6 refl v cs ss numbers clauses) past_11)

-- The refutation judge for any CNF.
module _ {v : ℕ} {bare refutation : List ℤ} {numbers clauses : List ℕ} {r : Result Unit NotRefuted} {numbers' clauses' : List ℕ}
    (call : Judged v bare refutation numbers clauses r numbers' clauses') where
  pub refused_12 : (n : ℕ) → (r ≡ Err (not-refuted.AreaTooSmall n))
      ↔ ((first_failing (cnf_checks v bare) (granted 0) ≡ granted 0)
      × (first_failing (refutation_checks v (length (clauses_of bare)) refutation) (granted 0) ≡ granted 0)
      × AreaShort (numbers_area v) (clauses_area (clauses_of bare) (steps_of refutation)) (length numbers) (length clauses) n)
  refused_12 n =
      let later = judge_clauses v (clauses_of bare) refutation (length numbers) (length clauses) in
      let past = past_checks (area_too_small n) (cnf_checks v bare) later (cnf_checks_other 12 refl v bare) in
      let right = yes_through (cnf_checks v bare) (cnf_checks_refusing v bare) in
      let named = clauses_12 v (clauses_of bare) refutation (length numbers) (length clauses) n in
      let is = cnf_judged v bare refutation (length numbers) (length clauses) in (
        λ e.
            let (pass, after_16) = past.0 (sym is ∙ sym call.answered ∙ ap refutation_answer e) in
            let (words_right, short) = named.0 after_16 in
            (right.1 pass, words_right, short),
        λ h. cnf-unique.same_answer r (Err (not-refuted.AreaTooSmall n)) (call.answered ∙ is ∙ past.1 (right.0 h.0, named.1 (h.1, h.2))),
      )

-- ════════ The judge of a problem's refutation ════════

module _ {version : ℕ} {ws : List ℕ} {refutation room : List ℤ} {numbers clauses : List ℕ}
    {r : Result Unit Unrefuted} {room' : List ℤ} {numbers' clauses' : List ℕ}
    (call : JudgedAs version ws refutation room numbers clauses r room' numbers' clauses') where
  abbrev p : Problem
  p = problem version ws

  abbrev after_6 : Answer
  after_6 = judge_clauses (variables p) (cnf p) refutation (length numbers) (length clauses)

  answered : refuted_answer r ≡ problem_checked version ws (first_failing (room_checks p (length room)) after_6)
  answered = call.answered ∙ refutation_by_clauses version ws refutation (length room) (length numbers) (length clauses)

  pub problem_refused_6 : (n : ℕ) → (r ≡ Err (unrefuted.Cnf (not-written.RoomTooSmall n)))
      ↔ (WellFormed version ws × (length room < length (cnf_words (problem version ws))) × (n ≡ length (cnf_words (problem version ws))))
  problem_refused_6 n =
      let named = checked_6 version ws (length room) n after_6 (clauses_not_6 (variables p) (cnf p) refutation (length numbers) (length clauses)) in (
        λ e. named.0 (sym answered ∙ ap refuted_answer e),
        λ h. problem-unique.same_answer r (Err (unrefuted.Cnf (not-written.RoomTooSmall n))) (answered ∙ named.1 h),
      )

  pub problem_refused_12 : (n : ℕ) → (r ≡ Err (unrefuted.Refutation (not-refuted.AreaTooSmall n)))
      ↔ (WellFormed version ws × (length (cnf_words (problem version ws)) ≤ length room)
      × (first_failing (refutation_checks (variables (problem version ws)) (length (cnf (problem version ws))) refutation) (granted 0) ≡ granted 0)
      × AreaShort (numbers_area (variables (problem version ws))) (clauses_area (cnf (problem version ws)) (steps_of refutation))
      (length numbers) (length clauses) n)
  problem_refused_12 n =
      let checked = past_check version ws (first_failing (room_checks p (length room)) after_6) (area_too_small n) refl in
      let fitting = past_6 (area_too_small n) refl p (length room) after_6 in
      let named = clauses_12 (variables p) (cnf p) refutation (length numbers) (length clauses) n in (
        λ e.
            let (formed, after_check) = checked.0 (sym answered ∙ ap refuted_answer e) in
            let (fits, later) = fitting.0 after_check in
            let (words_right, short) = named.0 later in
            (formed, fits, words_right, short),
        λ h.
            problem-unique.same_answer r (Err (unrefuted.Refutation (not-refuted.AreaTooSmall n)))
            (answered ∙ checked.1 (h.0, fitting.1 (h.1, named.1 (h.2, h.3)))),
      )
