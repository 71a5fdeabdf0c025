-- A problem's CNF passes 16, so its refutations are judged as document 01 says; and each outcome of the judge meets its promise.
-- Assumes nothing.
use mathlib.Core.Path.{◌≡◌, refl, sym, ◌∙◌, ap}
use mathlib.Core.Bool.{Bool, true, false, true≢false}
use mathlib.Core.List.{List, [], ◌∷◌}
use Prim.Native.Nat.{ℕ, ◌≤◌}
use native.Mathlib.Omega.{arith}
use borrow.Author.Tests.{le-leb, leb-true}
use lib.IntN.{ℤ}
use lib.Dec.{leb}
use lib.ListN.{length, take, drop, length-append}
use lib.Seq.{take-append_seam}
use Rattle.answers.specs.Limits.{variables_limit}
use Rattle.answers.specs.Lists.{all_of, numbered, joined}
use Rattle.answers.specs.Answers.{Answer, Check, check, granted, bad_cnf}
use Rattle.clauses.specs.Clauses.{Clause, Within, variable_of, literal_within}
use Rattle.clauses.specs.CnfWords.{ended_by_0, words_of, cnf_checks}
use Rattle.clauses.specs.Refutations.{steps_of, refutation_checks, area_checks, judge_steps, judge_clauses, judge_cnf, judged, area_after}
use Rattle.answers.proofs.Tests.{both_true, first_true, second_true, all_of_append, all_of_numbered}
use Rattle.answers.proofs.Answers.{passing, other_than, number_after, first_failing_passed, first_failing_joined, numbered_passing, number_of}
use Rattle.clauses.proofs.Judges.{steps_judged, cnf_judged, clauses_judged}
use Rattle.clauses.proofs.ReadBack.{words_ended}
use Rattle.std.specs.Prelude.{Result, Ok, Err, MatchResult}
use Rattle.std.specs.Result.{IsErrAnd}
use Rattle.std.proofs.lemmas.Result.{err_from_is_err_and}
use Rattle.refutation.specs.declared.NotRefuted.{NotRefuted}
use Rattle.refutation.specs.Promise.{answer_of, Judged}
use Rattle.checker.specs.declared.Unrefuted.{Unrefuted}
use Rattle.checker.specs.declared.Unrefuted.TheVariants.{Refutation}
use Rattle.meaning.specs.Problem.{Problem, problem}
use Rattle.meaning.specs.Proper.{Proper}
use Rattle.meaning.specs.Cnf.{cnf, cnf_words, variables}
use Rattle.meaning.specs.Calls.{WellFormed, preparing_parts, judge_refutation, room_after_judging, numbers_area_after, clauses_area_after}
use Rattle.meaning.proofs.ItemByItem.{Every, all_of_joined}
use Rattle.meaning.proofs.Check.{checked_then, checked_if_well_formed, well_formed_if_checked, proper_if_well_formed}
use Rattle.meaning.proofs.Calls.{refutation_by_steps}
use Rattle.meaning.proofs.Ranges.{literals_within, variables_fit}
use Rattle.meaning.proofs.ReadBack.{cnf_read_back}
use Rattle.pairing.proofs.AtOrBelow.{problem_refuted}
use Rattle.problem.proofs.Formed.{passes_if_handed_on}
use Rattle.counts.specs.declared.Counts.{Counts}
use Rattle.checker.specs.Preparing.{prepared_then, PreparedAs}
use Rattle.checker.specs.Refutation.{refuted_answer, CnfHeld, JudgedFor, JudgedAs}

-- ════════ The words of a CNF pass 16 ════════

module _ (v : ℕ) where
  abbrev small : ℤ → Bool
  small w = leb (variable_of w) v

  clause_small : (c : Clause) → all_of (literal_within v) c ≡ true → all_of small (ended_by_0 c) ≡ true
  clause_small [] e = both_true (le-leb 0 v (omega arith)) refl
  clause_small (w ∷ c) e =
      both_true (second_true (leb 1 (variable_of w)) _ (first_true (literal_within v w) _ e)) (clause_small c (second_true (literal_within v w) _ e))

  words_small : (cs : List Clause) → Within v cs → all_of small (words_of cs) ≡ true
  words_small [] e = refl
  words_small (c ∷ cs) e =
      rw all_of_append
      (both_true (clause_small c (first_true (all_of (literal_within v) c) _ e)) (words_small cs (second_true (all_of (literal_within v) c) _ e)))

module _ (p : Problem) (proper : Proper p) where
  cnf_passes : all_of passing (cnf_checks (variables p) (cnf_words p)) ≡ true
  unfolding cnf_checks cnf_words
  cnf_passes =
      both_true (le-leb _ _ (variables_fit p proper))
      (all_of_append passing (numbered 0 (words_of (cnf p)) (λ i w. check (small (variables p) w) (bad_cnf i))) _
      ∙ both_true (numbered_passing (small (variables p)) bad_cnf 0 (words_of (cnf p)) ∙ words_small (variables p) (cnf p) (literals_within p proper))
      (both_true (words_ended (cnf p)) refl))

  pub judged_as_clauses : (refutation : List ℤ) (m n : ℕ)
      → judge_cnf (variables p) (cnf_words p) refutation m n ≡ judge_clauses (variables p) (cnf p) refutation m n
  judged_as_clauses refutation m n =
      cnf_judged (variables p) (cnf_words p) refutation m n
      ∙ first_failing_passed (cnf_checks (variables p) (cnf_words p)) _ cnf_passes
      ∙ rw (cnf_read_back p proper)

-- ════════ 16 never answers for a problem's CNF ════════

pub clauses_not_16 : (v : ℕ) (cs : List Clause) (ws : List ℤ) (m n : ℕ) → (judge_clauses v cs ws m n).number ≡ 16 → ⊥
unfolding refutation_checks area_checks
clauses_not_16 v cs ws m n e =
    let words : all_of (other_than 16) (refutation_checks v (length cs) ws) ≡ true =
    rw all_of_append (both_true (all_of_numbered (other_than 16) 0 ws _ (λ i w. refl)) refl) in
    let later = number_after 16 (refutation_checks v (length cs) ws) _ words (rw (clauses_judged v cs ws m n) at e) in
    let last = number_after 16 (area_checks v cs (steps_of ws) m n) (judge_steps cs (steps_of ws)) refl later in
    true≢false (sym (steps_judged cs (steps_of ws)) ∙ rw last)

-- ════════ The CNF in the room ════════

-- A judgement of the CNF is that of its problem.
abbrev pub lifted : Result Unit NotRefuted → Result Unit Unrefuted
lifted (Ok u) = Ok tt
lifted (Err f) = Err (Refutation f)

-- It is what the judge hands on.
pub lifted_is : (a : Result Unit NotRefuted) (r : Result Unit Unrefuted)
    → MatchResult a (λ u. r ≡ Ok u) (λ f. IsErrAnd r (λ e. e ≡ Refutation f)) → r ≡ lifted a
lifted_is (Ok u) r m = m
lifted_is (Err f) r m = let p = err_from_is_err_and r m in rw (p.1, p.2) refl

same_answer : (a : Result Unit NotRefuted) → refuted_answer (lifted a) ≡ answer_of a
same_answer (Ok u) = refl
same_answer (Err f) = refl

module _ {p : Problem} {n : Counts} {room : List ℤ} (c : CnfHeld p n room) where
  variables_are : n.variables ≡ variables p
  variables_are = ap (λ (m : Counts). m.variables) c.counted

  pub variables_few : n.variables ≤ variables_limit
  variables_few = rw variables_are (variables_fit p c.proper)

  pub judged_for : {refutation : List ℤ} {numbers clauses : List ℕ} {a : Result Unit NotRefuted} {numbers' clauses' : List ℕ}
      → Judged n.variables (take n.words room) refutation numbers clauses a numbers' clauses'
      → JudgedFor p refutation numbers clauses (lifted a) numbers' clauses'
  judged_for {refutation} {numbers} {clauses} {a} {numbers'} {clauses'} j =
      let here : Judged (variables p) (cnf_words p) refutation numbers clauses a numbers' clauses' = rw (c.held, variables_are) at j in
      let is = here.answered ∙ judged_as_clauses p c.proper refutation (length numbers) (length clauses) in
      let same = same_answer a in
      record {
        answered = same ∙ is;
        numbers_left = here.numbers_left ∙ rw same;
        clauses_left = here.clauses_left ∙ rw (same, cnf_read_back p c.proper);
      }

-- ════════ The outcomes ════════

module _ (version : ℕ) (ws : List ℕ) (refutation room : List ℤ) (numbers clauses : List ℕ) where
  abbrev Prepares : Result Counts Unrefuted → List ℤ → Type 0
  Prepares = PreparedAs version ws refutation (length numbers) (length clauses) room

  abbrev steps_answer : Answer
  steps_answer = judge_steps (cnf (problem version ws)) (steps_of refutation)

  -- What is checked before the steps, and then they.
  answer_is : {r : Result Counts Unrefuted} {room' : List ℤ} → Prepares r room'
      → prepared_then r steps_answer ≡ judge_refutation version ws refutation (length room) (length numbers) (length clauses)
  answer_is a = a.answered steps_answer ∙ sym (refutation_by_steps version ws refutation (length room) (length numbers) (length clauses))

  -- A refusal before the CNF is written changes nothing.
  nothing_changed : (r : Result Unit Unrefuted) → refuted_answer r ≡ judge_refutation version ws refutation (length room) (length numbers) (length clauses)
      → judged (refuted_answer r) ≡ false → JudgedAs version ws refutation room numbers clauses r room numbers clauses
  unfolding room_after_judging numbers_area_after clauses_area_after area_after
  nothing_changed r is unchanged = record {
    answered = is;
    room_left = rw unchanged;
    numbers_left = rw unchanged;
    clauses_left = rw unchanged;
    excludes = λ yes. problem_refuted version ws refutation (length room) (length numbers) (length clauses) (sym is ∙ ap refuted_answer yes);
  }

  pub refused_before : {f : Unrefuted} {room' : List ℤ} → Prepares (Err f) room'
      → JudgedAs version ws refutation room numbers clauses (Err f) room' numbers clauses
  refused_before {f} a = rw a.room_after (nothing_changed (Err f) (answer_is a) a.before_steps)

  -- Where the CNF is written all that is checked before the steps is right.
  module _ {n : Counts} {room' : List ℤ} (a : Prepares (Ok n) room') where
    abbrev checks : List (List Check)
    checks = preparing_parts (problem version ws) refutation (length room) (length numbers) (length clauses)

    formed : WellFormed version ws
    formed = well_formed_if_checked version ws _ (number_of (sym (a.answered (granted 0) ∙ checked_then version ws checks (granted 0))))

    proper : Proper (problem version ws)
    proper = proper_if_well_formed version ws formed

    abbrev words_checks : List Check
    words_checks = refutation_checks (variables (problem version ws)) (length (cnf (problem version ws))) refutation

    abbrev areas_checks : List Check
    areas_checks = area_checks (variables (problem version ws)) (cnf (problem version ws)) (steps_of refutation) (length numbers) (length clauses)

    all_pass : Every (λ part. all_of passing part ≡ true) checks
    all_pass =
        (all_of_joined passing checks).0
        (passes_if_handed_on (joined checks)
        (λ after. a.answered after ∙ checked_then version ws checks after ∙ checked_if_well_formed version ws _ formed ∙ first_failing_joined checks after))

    words_fit : length (cnf_words (problem version ws)) ≤ length room
    words_fit = leb-true _ _ (first_true (leb (length (cnf_words (problem version ws))) (length room)) true all_pass.0)

    words_are : n.words ≡ length (cnf_words (problem version ws))
    words_are = ap (λ (m : Counts). m.words) a.numbered

    pub cnf_held : CnfHeld (problem version ws) n room'
    cnf_held = record {
      proper = proper;
      counted = a.numbered;
      fits = rw (a.room_after, words_are) (omega (arith, length-append (cnf_words (problem version ws)) (drop (length (cnf_words (problem version ws))) room)));
      held = rw (a.room_after, words_are) (take-append_seam (cnf_words (problem version ws)) _);
    }

    pub steps_answered : {r : Result Unit Unrefuted} {numbers' clauses' : List ℕ} → JudgedFor (problem version ws) refutation numbers clauses r numbers' clauses'
        → JudgedAs version ws refutation room numbers clauses r room' numbers' clauses'
    unfolding room_after_judging numbers_area_after clauses_area_after
    steps_answered {r} j =
        let by_steps : refuted_answer r ≡ steps_answer =
        j.answered ∙ clauses_judged (variables (problem version ws)) (cnf (problem version ws)) refutation (length numbers) (length clauses)
        ∙ first_failing_passed words_checks _ all_pass.1.0 ∙ first_failing_passed areas_checks _ all_pass.1.1.0 in
        let is = by_steps ∙ answer_is a in
        let yes : judged (refuted_answer r) ≡ true = rw by_steps (steps_judged (cnf (problem version ws)) (steps_of refutation)) in
        record {
          answered = is;
          room_left = a.room_after ∙ rw yes;
          numbers_left = j.numbers_left;
          clauses_left = j.clauses_left;
          excludes = λ r-yes. problem_refuted version ws refutation (length room) (length numbers) (length clauses) (sym is ∙ ap refuted_answer r-yes);
        }
