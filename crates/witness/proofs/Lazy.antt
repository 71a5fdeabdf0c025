-- Judges of a witness that are lazy or wrong do not meet the promise: for each an input, and what it answers there. Assumes nothing.
use mathlib.Core.Path.{◌≡◌, refl, sym, ◌∙◌}
use mathlib.Core.List.{List, [], ◌∷◌}
use Prim.Native.Nat.{ℕ}
use native.Mathlib.Omega.{arith}
use Rattle.std.specs.Prelude.{Result, Ok, Err, ⊤}
use Rattle.answers.specs.Answers.{Answer}
use Rattle.answers.proofs.Answers.{number_of, place_of}
use Rattle.answers.specs.Limits.{inputs_limit, latches_limit, gates_limit, nodes_limit, bound_limit, constraints_limit}
use Rattle.meaning.specs.Problem.{header_words, problem_by, problem}
use Rattle.meaning.specs.Runs.{values, next_values, meets_constraints}
use Rattle.meaning.specs.Formulas.{formula}
use Rattle.meaning.specs.Witnesses.{run}
use Rattle.meaning.specs.Calls.{judge_witness}
use Rattle.meaning.specs.Cases.{t_words, H}
use Rattle.problem.specs.declared.Refusal.TheVariants.{BadVersion, BadReset}
use Rattle.witness.specs.declared.NotWitness.{NotWitness}
use Rattle.witness.specs.declared.NotWitness.TheVariants.{Problem, BadWitness, AgainstReset, OpenLoop, FormulaFalse}
use Rattle.witness.specs.Promise.{answer_of}
use Rattle.witness.proofs.Unique.{judgement_unique}

-- ════════ What it is to break the promise ════════

abbrev pub yes : Result ⊤ NotWitness
yes = Ok (tt {0})

-- An input, and the answer that meets the judge's promise for it; each theorem below computes that it does.
pub record Input : Type 0 where
  pub version : ℕ
  pub words : List ℕ
  pub bytes : List ℕ
  pub right : Result ⊤ NotWitness

-- The answer that the documents lay down.
unfoldable pub laid_down : Input → Answer
unfolding header_words inputs_limit latches_limit gates_limit nodes_limit bound_limit constraints_limit judge_witness problem_by problem values next_values meets_constraints formula run
laid_down x = judge_witness x.version x.words x.bytes

-- This answer meets the promise for the input, or does not.
abbrev pub Meets : Input → Result ⊤ NotWitness → Type 0
Meets x r = answer_of r ≡ judge_witness x.version x.words x.bytes

abbrev pub Wrong : Input → Result ⊤ NotWitness → Type 0
Wrong x r = ¬ (Meets x r)

-- Whatever is not the right answer is wrong; so is another number, and another place.
module _ (x : Input) (r : Result ⊤ NotWitness) (meets : Meets x x.right) where
  pub other : ¬ (r ≡ x.right) → Wrong x r
  other h e = h (judgement_unique x.version x.words x.bytes r x.right e meets)

  pub other_number : ¬ ((answer_of r).number ≡ (answer_of x.right).number) → Wrong x r
  other_number h e = h (number_of (e ∙ sym meets))

  pub other_place : ¬ ((answer_of r).place ≡ (answer_of x.right).place) → Wrong x r
  other_place h e = h (place_of (e ∙ sym meets))

-- Words and bytes under the known version, and the right answer.
abbrev pub over : List ℕ → List ℕ → Result ⊤ NotWitness → Input
over words bytes r = record { version = 1; words = words; bytes = bytes; right = r }

-- ════════ Refuses all, says 10 always ════════

-- H with F 12 at k = 3: 0 2 4 2 3, 3 0, 11 0, 2 5, 3 4, 7 9, 2 4, 0 12 0, 4 0 0
abbrev pub h_finally : List ℕ
h_finally = H 2 3 (0 ∷ 12 ∷ 0 ∷ 4 ∷ 0 ∷ 0 ∷ [])

-- 1 0 0: the loop starts at 0
abbrev pub h_lasso : Input
h_lasso = over h_finally (1 ∷ 0 ∷ 0 ∷ []) yes

pub refuses_all_breaks : (r : Result ⊤ NotWitness) → ¬ (r ≡ yes) → Wrong h_lasso r
unfolding laid_down
refuses_all_breaks r = other h_lasso r refl

pub says_10_always_breaks : Wrong h_lasso (Err FormulaFalse)
unfolding laid_down
says_10_always_breaks = other_number h_lasso (Err FormulaFalse) refl (λ e. omega arith)

-- 0 0 0: a prefix
abbrev pub h_prefix : Input
h_prefix = over h_finally (0 ∷ 0 ∷ 0 ∷ []) yes

pub refuses_all_prefixes_breaks : (r : Result ⊤ NotWitness) → ¬ (r ≡ yes) → Wrong h_prefix r
unfolding laid_down
refuses_all_prefixes_breaks r = other h_prefix r refl

-- ════════ Accepts all, or leaves a check out ════════

-- H with F 12 at k = 2, and 0 0 0: full comes at 3
abbrev pub h_too_short : Input
h_too_short = over (H 2 2 (0 ∷ 12 ∷ 0 ∷ 4 ∷ 0 ∷ 0 ∷ [])) (0 ∷ 0 ∷ 0 ∷ []) (Err FormulaFalse)

pub accepts_all_breaks : Wrong h_too_short yes
unfolding laid_down
accepts_all_breaks = other_number h_too_short yes refl (λ e. omega arith)

-- 0 0 0 0: a byte more than the prefix has
abbrev pub h_long : Input
h_long = over h_finally (0 ∷ 0 ∷ 0 ∷ 0 ∷ []) (Err (BadWitness 4))

pub length_not_checked_breaks : Wrong h_long yes
unfolding laid_down
length_not_checked_breaks = other_number h_long yes refl (λ e. omega arith)

-- 0 0 2: a latch byte that is neither 0 nor 1
abbrev pub h_two : Input
h_two = over h_finally (0 ∷ 0 ∷ 2 ∷ []) (Err (BadWitness 2))

pub bytes_not_checked_breaks : Wrong h_two yes
unfolding laid_down
bytes_not_checked_breaks = other_number h_two yes refl (λ e. omega arith)

-- 0 0 1: the counter starts at 2, and full comes at 1
abbrev pub h_against : Input
h_against = over h_finally (0 ∷ 0 ∷ 1 ∷ []) (Err (AgainstReset 2))

pub resets_not_checked_breaks : Wrong h_against yes
unfolding laid_down
resets_not_checked_breaks = other_number h_against yes refl (λ e. omega arith)

-- 3 0 0: after 3 the counter is at 0, and the loop starts at 2
abbrev pub h_open : Input
h_open = over h_finally (3 ∷ 0 ∷ 0 ∷ []) (Err (OpenLoop 1))

pub loop_not_checked_breaks : Wrong h_open yes
unfolding laid_down
loop_not_checked_breaks = other_number h_open yes refl (λ e. omega arith)

-- ════════ Places that are made up ════════

-- 0 0: the length is 2
abbrev pub h_short : Input
h_short = over h_finally (0 ∷ 0 ∷ []) (Err (BadWitness 2))

pub made_up_length_breaks : (i : ℕ) → ¬ (i ≡ 2) → Wrong h_short (Err (BadWitness i))
unfolding laid_down
made_up_length_breaks i = other_place h_short (Err (BadWitness i)) refl

-- 0 2 0: byte 1 is over 1
abbrev pub h_bad_byte : Input
h_bad_byte = over h_finally (0 ∷ 2 ∷ 0 ∷ []) (Err (BadWitness 1))

pub made_up_byte_breaks : (i : ℕ) → ¬ (i ≡ 1) → Wrong h_bad_byte (Err (BadWitness i))
unfolding laid_down
made_up_byte_breaks i = other_place h_bad_byte (Err (BadWitness i)) refl

-- 5 0 0: byte 0 is over k + 1 = 4
abbrev pub h_bad_start : Input
h_bad_start = over h_finally (5 ∷ 0 ∷ 0 ∷ []) (Err (BadWitness 0))

pub made_up_start_byte_breaks : (i : ℕ) → ¬ (i ≡ 0) → Wrong h_bad_start (Err (BadWitness i))
unfolding laid_down
made_up_start_byte_breaks i = other_place h_bad_start (Err (BadWitness i)) refl

pub made_up_reset_place_breaks : (i : ℕ) → ¬ (i ≡ 2) → Wrong h_against (Err (AgainstReset i))
unfolding laid_down
made_up_reset_place_breaks i = other_place h_against (Err (AgainstReset i)) refl

pub made_up_latch_breaks : (i : ℕ) → ¬ (i ≡ 1) → Wrong h_open (Err (OpenLoop i))
unfolding laid_down
made_up_latch_breaks i = other_place h_open (Err (OpenLoop i)) refl

-- T with a reset of 3, at word 6: 0 1 0 1 0, 3 3, 0 2 0; no bytes
abbrev pub t_bad : Input
t_bad = over (0 ∷ 1 ∷ 0 ∷ 1 ∷ 0 ∷ 3 ∷ 3 ∷ 0 ∷ 2 ∷ 0 ∷ []) [] (Err (Problem (BadReset 6)))

pub made_up_word_breaks : (i : ℕ) → ¬ (i ≡ 6) → Wrong t_bad (Err (Problem (BadReset i)))
unfolding laid_down
made_up_word_breaks i = other_place t_bad (Err (Problem (BadReset i))) refl

-- ════════ The order of checks turned round ════════

-- 5 0 0 0: byte 0 is out of range, and the length is 4
abbrev pub h_long_bad : Input
h_long_bad = over h_finally (5 ∷ 0 ∷ 0 ∷ 0 ∷ []) (Err (BadWitness 4))

pub byte_before_length_breaks : Wrong h_long_bad (Err (BadWitness 0))
unfolding laid_down
byte_before_length_breaks = other_place h_long_bad (Err (BadWitness 0)) refl (λ e. omega arith)

-- 5 0 2: bytes 0 and 2 are out of range
abbrev pub h_two_bad : Input
h_two_bad = over h_finally (5 ∷ 0 ∷ 2 ∷ []) (Err (BadWitness 0))

pub later_byte_first_breaks : Wrong h_two_bad (Err (BadWitness 2))
unfolding laid_down
later_byte_first_breaks = other_place h_two_bad (Err (BadWitness 2)) refl (λ e. omega arith)

-- 5 0 1: byte 0 is out of range, and byte 2 against its reset
abbrev pub h_bad_against : Input
h_bad_against = over h_finally (5 ∷ 0 ∷ 1 ∷ []) (Err (BadWitness 0))

pub reset_before_bytes_breaks : (i : ℕ) → Wrong h_bad_against (Err (AgainstReset i))
unfolding laid_down
reset_before_bytes_breaks i = other_number h_bad_against (Err (AgainstReset i)) refl (λ e. omega arith)

-- 0 1 1: both latches are against their resets
abbrev pub h_both_against : Input
h_both_against = over h_finally (0 ∷ 1 ∷ 1 ∷ []) (Err (AgainstReset 1))

pub later_reset_first_breaks : Wrong h_both_against (Err (AgainstReset 2))
unfolding laid_down
later_reset_first_breaks = other_place h_both_against (Err (AgainstReset 2)) refl (λ e. omega arith)

-- T with 1 1: the latch is against its reset, and the loop does not close
abbrev pub t_both : Input
t_both = over t_words (1 ∷ 1 ∷ []) (Err (AgainstReset 1))

pub loop_before_reset_breaks : (i : ℕ) → Wrong t_both (Err (OpenLoop i))
unfolding laid_down
loop_before_reset_breaks i = other_number t_both (Err (OpenLoop i)) refl (λ e. omega arith)

-- 4 0 0: after 3 the latches are 0 0, and at 3 they are 1 1
abbrev pub h_both_open : Input
h_both_open = over h_finally (4 ∷ 0 ∷ 0 ∷ []) (Err (OpenLoop 0))

pub later_latch_first_breaks : Wrong h_both_open (Err (OpenLoop 1))
unfolding laid_down
later_latch_first_breaks = other_place h_both_open (Err (OpenLoop 1)) refl (λ e. omega arith)

-- T with 1 0: the loop does not close, and the formula is false
abbrev pub t_open : Input
t_open = over t_words (1 ∷ 0 ∷ []) (Err (OpenLoop 0))

pub formula_before_loop_breaks : Wrong t_open (Err FormulaFalse)
unfolding laid_down
formula_before_loop_breaks = other_number t_open (Err FormulaFalse) refl (λ e. omega arith)

pub witness_before_problem_breaks : (i : ℕ) → Wrong t_bad (Err (BadWitness i))
unfolding laid_down
witness_before_problem_breaks i = other_number t_bad (Err (BadWitness i)) refl (λ e. omega arith)

-- T, told as version 9, with no bytes
abbrev pub t_other_version : Input
t_other_version = record { version = 9; words = t_words; bytes = []; right = Err (Problem BadVersion) }

pub version_not_first_breaks : (r : Result ⊤ NotWitness) → ¬ (r ≡ Err (Problem BadVersion)) → Wrong t_other_version r
unfolding laid_down
version_not_first_breaks r = other t_other_version r refl
