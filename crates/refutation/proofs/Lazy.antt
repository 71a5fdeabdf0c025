-- Judges that are lazy or make their answers up do not meet the promise: for each an input, and what it answers there. Assumes nothing.
use mathlib.Core.Path.{◌≡◌, refl}
use mathlib.Core.List.{List, [], ◌∷◌}
use Prim.Native.Nat.{ℕ, ◌+◌}
use native.Mathlib.Omega.{arith}
use lib.IntN.{ℤ, pos, negsuc}
use lib.ListN.{length, replicate}
use Rattle.answers.specs.Limits.{variables_limit}
use Rattle.answers.specs.Answers.{Answer}
use Rattle.clauses.specs.CnfWords.{cnf_checks}
use Rattle.clauses.specs.Refutations.{judge_cnf, refutation_checks, area_checks, step_accepted}
use Rattle.clauses.specs.Cases.{t_cnf, t_steps, t_other_steps}
use Rattle.answers.proofs.Answers.{number_of, place_of}
use Rattle.refutation.specs.Promise.{Judged, CnfCounted, StepsCounted, answer_of}
use Rattle.std.specs.Prelude.{Result, Ok, Err}
use Rattle.refutation.specs.declared.NotRefuted.{NotRefuted}
use Rattle.refutation.specs.declared.NotRefuted.TheVariants.{BadCnf, BadRefutation, AreaTooSmall, StepRefused, NotClosed}

-- ════════ What it is to break the promise ════════

pub record Input : Type 0 where
  pub variables : ℕ
  pub cnf : List ℤ
  pub refutation : List ℤ
  pub numbers : List ℕ
  pub clauses : List ℕ

-- This answer, with these work areas after it, does not meet the promise for the input.
abbrev pub Breaks : Input → Result Unit NotRefuted → List ℕ → List ℕ → Type 0
Breaks x r numbers' clauses' = ¬ (Judged x.variables x.cnf x.refutation x.numbers x.clauses r numbers' clauses')

-- This answer does not meet the promise for the input, whatever the work areas are after it.
abbrev pub Wrong : Input → Result Unit NotRefuted → Type 0
Wrong x r = (numbers' clauses' : List ℕ) → Breaks x r numbers' clauses'

-- The answer that documents 01 and 02 lay down.
unfoldable pub laid_down : Input → Answer
unfolding judge_cnf refutation_checks area_checks step_accepted cnf_checks variables_limit
laid_down x = judge_cnf x.variables x.cnf x.refutation (length x.numbers) (length x.clauses)

module _ (x : Input) (r : Result Unit NotRefuted) where
  pub wrong_number : ¬ ((answer_of r).number ≡ (laid_down x).number) → Wrong x r
  unfolding laid_down
  wrong_number h numbers' clauses' j = h (number_of j.answered)

  pub wrong_place : ¬ ((answer_of r).place ≡ (laid_down x).place) → Wrong x r
  unfolding laid_down
  wrong_place h numbers' clauses' j = h (place_of j.answered)

-- ════════ Inputs ════════

-- Case T's CNF, 6 variables and 12 clauses, a refutation, and work areas of so many words, each 9.
abbrev pub over_t : List ℤ → ℕ → ℕ → Input
over_t refutation m n = record { variables = 6; cnf = t_cnf; refutation = refutation; numbers = replicate m 9; clauses = replicate n 9 }

abbrev pub T : Input
T = over_t t_steps 7 13

abbrev pub t_other : Input
t_other = over_t t_other_steps 7 13

-- ════════ Refuses all, accepts all ════════

pub refuses_all_breaks : (r : Result Unit NotRefuted) → ¬ (r ≡ Ok tt) → Wrong T r
unfolding laid_down
refuses_all_breaks (Ok tt) h = absurd (h refl)
refuses_all_breaks (Err (BadCnf i)) h = wrong_number T (Err (BadCnf i)) (λ e. omega arith)
refuses_all_breaks (Err (BadRefutation i)) h = wrong_number T (Err (BadRefutation i)) (λ e. omega arith)
refuses_all_breaks (Err (AreaTooSmall n)) h = wrong_number T (Err (AreaTooSmall n)) (λ e. omega arith)
refuses_all_breaks (Err (StepRefused i)) h = wrong_number T (Err (StepRefused i)) (λ e. omega arith)
refuses_all_breaks (Err (NotClosed n)) h = wrong_number T (Err (NotClosed n)) (λ e. omega arith)

pub accepts_all_breaks : Wrong t_other (Ok tt)
unfolding laid_down
accepts_all_breaks = wrong_number t_other (Ok tt) (λ e. omega arith)

-- ════════ Places that are made up ════════

pub made_up_step_breaks : (i : ℕ) → ¬ (i ≡ 0) → Wrong t_other (Err (StepRefused i))
unfolding laid_down
made_up_step_breaks i h = wrong_place t_other (Err (StepRefused i)) h

-- The clause [4] from clause 12, `4 0 12 0`: the step passes, and its clause is not empty.
abbrev pub t_open : Input
t_open = over_t (pos 4 ∷ pos 0 ∷ pos 12 ∷ pos 0 ∷ []) 7 13

pub made_up_step_count_breaks : (n : ℕ) → ¬ (n ≡ 1) → Wrong t_open (Err (NotClosed n))
unfolding laid_down
made_up_step_count_breaks n h = wrong_place t_open (Err (NotClosed n)) h

-- No words, so no step.
abbrev pub no_steps : Input
no_steps = over_t [] 7 13

pub made_up_step_count_of_none_breaks : (n : ℕ) → ¬ (n ≡ 0) → Wrong no_steps (Err (NotClosed n))
unfolding laid_down
made_up_step_count_of_none_breaks n h = wrong_place no_steps (Err (NotClosed n)) h

pub accepts_no_steps_breaks : Wrong no_steps (Ok tt)
unfolding laid_down
accepts_no_steps_breaks = wrong_number no_steps (Ok tt) (λ e. omega arith)

-- 0 2 13 0: hint 13 is the step itself, at word 2
abbrev pub bad_hint : Input
bad_hint = over_t (pos 0 ∷ pos 2 ∷ pos 13 ∷ pos 0 ∷ []) 7 13

pub made_up_hint_place_breaks : (i : ℕ) → ¬ (i ≡ 2) → Wrong bad_hint (Err (BadRefutation i))
unfolding laid_down
made_up_hint_place_breaks i h = wrong_place bad_hint (Err (BadRefutation i)) h

pub own_step_hinted_breaks : (r : Result Unit NotRefuted) → ¬ ((answer_of r).number ≡ 11) → Wrong bad_hint r
unfolding laid_down
own_step_hinted_breaks r h = wrong_number bad_hint r h

-- 1 -7 0 1 0: a literal of variable 7 among 6 variables, at word 1
abbrev pub bad_literal : Input
bad_literal = over_t (pos 1 ∷ negsuc 6 ∷ pos 0 ∷ pos 1 ∷ pos 0 ∷ []) 7 13

pub made_up_literal_place_breaks : (i : ℕ) → ¬ (i ≡ 1) → Wrong bad_literal (Err (BadRefutation i))
unfolding laid_down
made_up_literal_place_breaks i h = wrong_place bad_literal (Err (BadRefutation i)) h

-- 0 2 12 5: the hints are not ended, and the length is 4
abbrev pub cut_hints : Input
cut_hints = over_t (pos 0 ∷ pos 2 ∷ pos 12 ∷ pos 5 ∷ []) 7 13

pub made_up_length_breaks : (i : ℕ) → ¬ (i ≡ 4) → Wrong cut_hints (Err (BadRefutation i))
unfolding laid_down
made_up_length_breaks i h = wrong_place cut_hints (Err (BadRefutation i)) h

-- T with 6 words by numbers, where 7 are needed.
abbrev pub few_numbers : Input
few_numbers = over_t t_steps 6 13

pub made_up_numbers_need_breaks : (n : ℕ) → ¬ (n ≡ 7) → Wrong few_numbers (Err (AreaTooSmall n))
unfolding laid_down
made_up_numbers_need_breaks n h = wrong_place few_numbers (Err (AreaTooSmall n)) h

-- T with 12 words by clauses, where 13 are needed.
abbrev pub few_clauses : Input
few_clauses = over_t t_steps 7 12

pub made_up_clauses_need_breaks : (n : ℕ) → ¬ (n ≡ 13) → Wrong few_clauses (Err (AreaTooSmall n))
unfolding laid_down
made_up_clauses_need_breaks n h = wrong_place few_clauses (Err (AreaTooSmall n)) h

-- A CNF over so many variables, and the refutation `0 1 0` with work areas of 7 and 13 words, each 9.
abbrev pub over : ℕ → List ℤ → Input
over variables cnf =
    record { variables = variables; cnf = cnf; refutation = pos 0 ∷ pos 1 ∷ pos 0 ∷ []; numbers = replicate 7 9; clauses = replicate 13 9 }

-- 1 0 -7 0 over 6 variables: the bad literal is word 2
abbrev pub bad_cnf_literal : Input
bad_cnf_literal = over 6 (pos 1 ∷ pos 0 ∷ negsuc 6 ∷ pos 0 ∷ [])

pub made_up_cnf_place_breaks : (i : ℕ) → ¬ (i ≡ 2) → Wrong bad_cnf_literal (Err (BadCnf i))
unfolding laid_down
made_up_cnf_place_breaks i h = wrong_place bad_cnf_literal (Err (BadCnf i)) h

-- 1 0 -2 over 6 variables: cut short, and the length is 3
abbrev pub cut_cnf : Input
cut_cnf = over 6 (pos 1 ∷ pos 0 ∷ negsuc 1 ∷ [])

pub made_up_cnf_length_breaks : (i : ℕ) → ¬ (i ≡ 3) → Wrong cut_cnf (Err (BadCnf i))
unfolding laid_down
made_up_cnf_length_breaks i h = wrong_place cut_cnf (Err (BadCnf i)) h

-- 1 0 over one variable more than the limit: the place is 0
abbrev pub over_limit : Input
over_limit = over (variables_limit + 1) (pos 1 ∷ pos 0 ∷ [])

pub made_up_limit_place_breaks : (i : ℕ) → ¬ (i ≡ 0) → Wrong over_limit (Err (BadCnf i))
unfolding laid_down variables_limit
made_up_limit_place_breaks i h = wrong_place over_limit (Err (BadCnf i)) h

-- ════════ The order of checks turned round ════════

-- 0 13: hint 13 is bad at word 1, and the words are cut short at length 2
abbrev pub bad_and_cut : Input
bad_and_cut = over_t (pos 0 ∷ pos 13 ∷ []) 7 13

pub length_for_bad_word_breaks : Wrong bad_and_cut (Err (BadRefutation 2))
unfolding laid_down
length_for_bad_word_breaks = wrong_place bad_and_cut (Err (BadRefutation 2)) (λ e. omega arith)

-- 1 0 7 over 6 variables: literal 7 is bad at word 2, and the words are cut short at length 3
abbrev pub bad_and_cut_cnf : Input
bad_and_cut_cnf = over 6 (pos 1 ∷ pos 0 ∷ pos 7 ∷ [])

pub length_for_bad_cnf_word_breaks : Wrong bad_and_cut_cnf (Err (BadCnf 3))
unfolding laid_down
length_for_bad_cnf_word_breaks = wrong_place bad_and_cut_cnf (Err (BadCnf 3)) (λ e. omega arith)

-- Over the limit the answer is 16, before 11, 12, 13, 14 and yes.
pub cnf_judged_last_breaks : (r : Result Unit NotRefuted) → ¬ ((answer_of r).number ≡ 16) → Wrong over_limit r
unfolding laid_down variables_limit
cnf_judged_last_breaks r h = wrong_number over_limit r h

-- T's refutation with a bad hint, `0 2 13 0`, and no word in either work area.
abbrev pub bad_hint_no_room : Input
bad_hint_no_room = over_t (pos 0 ∷ pos 2 ∷ pos 13 ∷ pos 0 ∷ []) 0 0

pub room_before_words_breaks : (n : ℕ) → Wrong bad_hint_no_room (Err (AreaTooSmall n))
unfolding laid_down
room_before_words_breaks n = wrong_number bad_hint_no_room (Err (AreaTooSmall n)) (λ e. omega arith)

-- T with both work areas too small.
abbrev pub no_room : Input
no_room = over_t t_steps 6 12

pub clauses_area_first_breaks : Wrong no_room (Err (AreaTooSmall 13))
unfolding laid_down
clauses_area_first_breaks = wrong_place no_room (Err (AreaTooSmall 13)) (λ e. omega arith)

-- 0 12 5 0, then 4 0 12 0: the first step is refused, and the last clause is not empty.
abbrev pub refused_and_open : Input
refused_and_open = over_t (pos 0 ∷ pos 12 ∷ pos 5 ∷ pos 0 ∷ pos 4 ∷ pos 0 ∷ pos 12 ∷ pos 0 ∷ []) 7 14

pub closing_before_steps_breaks : (n : ℕ) → Wrong refused_and_open (Err (NotClosed n))
unfolding laid_down
closing_before_steps_breaks n = wrong_number refused_and_open (Err (NotClosed n)) (λ e. omega arith)

-- ════════ Counts that are made up ════════

-- T's refutation is one step.
pub made_up_count_breaks : (n : ℕ) → ¬ (n ≡ 1) → ¬ (StepsCounted 6 12 t_steps (Ok n))
unfolding refutation_checks
made_up_count_breaks n h e = h (place_of e)

pub refuses_right_words_breaks : (i : ℕ) → ¬ (StepsCounted 6 12 t_steps (Err i))
unfolding refutation_checks
refuses_right_words_breaks i e = let z : ◌≡◌ {A = ℕ} 11 0 = number_of e in omega arith

pub made_up_bad_place_breaks : (i : ℕ) → ¬ (i ≡ 2) → ¬ (StepsCounted 6 12 bad_hint.refutation (Err i))
unfolding refutation_checks
made_up_bad_place_breaks i h e = h (place_of e)

pub counts_bad_words_breaks : (n : ℕ) → ¬ (StepsCounted 6 12 bad_hint.refutation (Ok n))
unfolding refutation_checks
counts_bad_words_breaks n e = let z : ◌≡◌ {A = ℕ} 0 11 = number_of e in omega arith

pub length_counted_for_bad_word_breaks : ¬ (StepsCounted 6 12 bad_and_cut.refutation (Err 2))
unfolding refutation_checks
length_counted_for_bad_word_breaks e = let z : ◌≡◌ {A = ℕ} 2 1 = place_of e in omega arith

-- T's CNF is 12 clauses.
pub made_up_clause_count_breaks : (n : ℕ) → ¬ (n ≡ 12) → ¬ (CnfCounted 6 t_cnf (Ok n))
unfolding cnf_checks variables_limit
made_up_clause_count_breaks n h e = h (place_of e)

pub made_up_bad_clause_place_breaks : (i : ℕ) → ¬ (i ≡ 2) → ¬ (CnfCounted 6 bad_cnf_literal.cnf (Err i))
unfolding cnf_checks variables_limit
made_up_bad_clause_place_breaks i h e = h (place_of e)
