-- Judges of a witness that read the run or its ends wrongly do not meet the promise: for each an input, and what it answers there. Assumes nothing.
use mathlib.Core.Path.{refl}
use mathlib.Core.List.{List, [], ◌∷◌}
use Rattle.std.specs.Prelude.{Err}
use Prim.Native.Nat.{ℕ}
use native.Mathlib.Omega.{arith}
use Rattle.meaning.specs.Cases.{H, one_input, one_free_latch}
use Rattle.witness.specs.declared.NotWitness.TheVariants.{AgainstReset, OpenLoop, FormulaFalse}
use Rattle.witness.proofs.Lazy.{yes, Input, laid_down, Wrong, other_number, over}

-- ════════ Inputs asked to match round the loop ════════

-- F 2 with one input, k = 1: 1 0 0 2 1, 0 2 0, 4 0 0; bytes 1 0 1: input 0 at 0 and 1 at 1, where no latch has to close
abbrev pub inputs_only : Input
inputs_only = over (1 ∷ 0 ∷ 0 ∷ 2 ∷ 1 ∷ 0 ∷ 2 ∷ 0 ∷ 4 ∷ 0 ∷ 0 ∷ []) (1 ∷ 0 ∷ 1 ∷ []) yes

pub matching_inputs_breaks : (i : ℕ) → Wrong inputs_only (Err (OpenLoop i))
unfolding laid_down
matching_inputs_breaks i = other_number inputs_only (Err (OpenLoop i)) refl (λ e. omega arith)

-- The same beside a latch that is always 0: 1 1 0 2 1, 0 0, 0 2 0, 4 0 0; bytes 1 0 0 1
abbrev pub inputs_and_latch : Input
inputs_and_latch = over (1 ∷ 1 ∷ 0 ∷ 2 ∷ 1 ∷ 0 ∷ 0 ∷ 0 ∷ 2 ∷ 0 ∷ 4 ∷ 0 ∷ 0 ∷ []) (1 ∷ 0 ∷ 0 ∷ 1 ∷ []) yes

pub matching_inputs_beside_a_latch_breaks : (i : ℕ) → Wrong inputs_and_latch (Err (OpenLoop i))
unfolding laid_down
matching_inputs_beside_a_latch_breaks i = other_number inputs_and_latch (Err (OpenLoop i)) refl (λ e. omega arith)

-- ════════ The loop compared with the latches at 0 ════════

-- F G 2 with a latch that starts at 0 and is 1 from then on, k = 1: 0 1 0 3 1, 1 0, 0 2 0, 5 0 0, 4 1 0; bytes 2 0: the loop from 1 closes there, and
-- not at 0
abbrev pub loop_from_1 : Input
loop_from_1 = over (0 ∷ 1 ∷ 0 ∷ 3 ∷ 1 ∷ 1 ∷ 0 ∷ 0 ∷ 2 ∷ 0 ∷ 5 ∷ 0 ∷ 0 ∷ 4 ∷ 1 ∷ 0 ∷ []) (2 ∷ 0 ∷ []) yes

pub loop_closed_at_0_only_breaks : (i : ℕ) → Wrong loop_from_1 (Err (OpenLoop i))
unfolding laid_down
loop_closed_at_0_only_breaks i = other_number loop_from_1 (Err (OpenLoop i)) refl (λ e. omega arith)

-- H with F 12 at k = 3, and 2 0 0: after 3 the latches are those at 0, and the loop starts at 1
abbrev pub h_closed_at_0 : Input
h_closed_at_0 = over (H 2 3 (0 ∷ 12 ∷ 0 ∷ 4 ∷ 0 ∷ 0 ∷ [])) (2 ∷ 0 ∷ 0 ∷ []) (Err (OpenLoop 0))

pub loop_at_another_row_breaks : Wrong h_closed_at_0 yes
unfolding laid_down
loop_at_another_row_breaks = other_number h_closed_at_0 yes refl (λ e. omega arith)

-- ════════ Round the loop ════════

-- H with G F 6 at k = 3, and 1 0 0: literal 6 is true at 1 only, so from 2 and 3 on it comes again before them
abbrev pub h_again : Input
h_again = over (H 3 3 (0 ∷ 6 ∷ 0 ∷ 4 ∷ 0 ∷ 0 ∷ 5 ∷ 1 ∷ 0 ∷ [])) (1 ∷ 0 ∷ 0 ∷ []) yes

pub until_ended_at_k_breaks : Wrong h_again (Err FormulaFalse)
unfolding laid_down
until_ended_at_k_breaks = other_number h_again (Err FormulaFalse) refl (λ e. omega arith)

-- G F 2 with one input, k = 1: 1 0 0 3 1, 0 2 0, 4 0 0, 5 1 0; bytes 1 1 0: input 1 at 0 and 0 at 1
abbrev pub input_again : Input
input_again = over (1 ∷ 0 ∷ 0 ∷ 3 ∷ 1 ∷ 0 ∷ 2 ∷ 0 ∷ 4 ∷ 0 ∷ 0 ∷ 5 ∷ 1 ∷ 0 ∷ []) (1 ∷ 1 ∷ 0 ∷ []) yes

pub until_of_an_input_ended_at_k_breaks : Wrong input_again (Err FormulaFalse)
unfolding laid_down
until_of_an_input_ended_at_k_breaks = other_number input_again (Err FormulaFalse) refl (λ e. omega arith)

-- G 2 with one input, k = 0: 1 0 0 2 0, 0 2 0, 5 0 0
abbrev pub always_input : List ℕ
always_input = one_input 2 (0 ∷ 2 ∷ 0 ∷ 5 ∷ 0 ∷ 0 ∷ [])

-- 1 1: input 1 for ever
abbrev pub always_lasso : Input
always_lasso = over always_input (1 ∷ 1 ∷ []) yes

pub release_ended_with_false_breaks : Wrong always_lasso (Err FormulaFalse)
unfolding laid_down
release_ended_with_false_breaks = other_number always_lasso (Err FormulaFalse) refl (λ e. omega arith)

-- X 2 with one input, k = 0: 1 0 0 2 0, 0 2 0, 3 0 0; bytes 1 1: after 0 comes 0
abbrev pub next_lasso : Input
next_lasso = over (one_input 2 (0 ∷ 2 ∷ 0 ∷ 3 ∷ 0 ∷ 0 ∷ [])) (1 ∷ 1 ∷ []) yes

pub next_of_the_last_read_as_false_breaks : Wrong next_lasso (Err FormulaFalse)
unfolding laid_down
next_of_the_last_read_as_false_breaks = other_number next_lasso (Err FormulaFalse) refl (λ e. omega arith)

-- ════════ Past the end of a prefix ════════

-- G 2 with one input, k = 0; bytes 0 1: a prefix with input 1
abbrev pub always_prefix : Input
always_prefix = over always_input (0 ∷ 1 ∷ []) (Err FormulaFalse)

pub always_true_of_a_prefix_breaks : Wrong always_prefix yes
unfolding laid_down
always_true_of_a_prefix_breaks = other_number always_prefix yes refl (λ e. omega arith)

-- H with 12 R 1 at k = 2, and 0 0 0: full has not come by 2
abbrev pub release_prefix : Input
release_prefix = over (H 3 2 (0 ∷ 12 ∷ 0 ∷ 0 ∷ 1 ∷ 0 ∷ 7 ∷ 0 ∷ 1 ∷ [])) (0 ∷ 0 ∷ 0 ∷ []) (Err FormulaFalse)

pub release_ended_with_true_breaks : Wrong release_prefix yes
unfolding laid_down
release_ended_with_true_breaks = other_number release_prefix yes refl (λ e. omega arith)

-- H with 12 R 1 at k = 3, and 0 0 0: full comes at 3
abbrev pub released_prefix : Input
released_prefix = over (H 3 3 (0 ∷ 12 ∷ 0 ∷ 0 ∷ 1 ∷ 0 ∷ 7 ∷ 0 ∷ 1 ∷ [])) (0 ∷ 0 ∷ 0 ∷ []) yes

pub no_release_on_a_prefix_breaks : Wrong released_prefix (Err FormulaFalse)
unfolding laid_down
no_release_on_a_prefix_breaks = other_number released_prefix (Err FormulaFalse) refl (λ e. omega arith)

-- H with X 2 at k = 0, and 0 0 0: there is no position after 0
abbrev pub next_prefix : Input
next_prefix = over (H 2 0 (0 ∷ 2 ∷ 0 ∷ 3 ∷ 0 ∷ 0 ∷ [])) (0 ∷ 0 ∷ 0 ∷ []) (Err FormulaFalse)

pub next_past_the_end_read_as_true_breaks : Wrong next_prefix yes
unfolding laid_down
next_past_the_end_read_as_true_breaks = other_number next_prefix yes refl (λ e. omega arith)

-- ════════ A free latch held to a reset ════════

-- One free latch with G 2, k = 0: 0 1 0 2 0, 2 2, 0 2 0, 5 0 0; bytes 1 1: it starts at 1
abbrev pub free_latch : Input
free_latch = over (one_free_latch 2 (0 ∷ 2 ∷ 0 ∷ 5 ∷ 0 ∷ 0 ∷ [])) (1 ∷ 1 ∷ []) yes

pub free_reset_taken_as_0_breaks : (i : ℕ) → Wrong free_latch (Err (AgainstReset i))
unfolding laid_down
free_reset_taken_as_0_breaks i = other_number free_latch (Err (AgainstReset i)) refl (λ e. omega arith)

-- One free latch with G 3, k = 0: 0 1 0 2 0, 2 2, 0 3 0, 5 0 0; bytes 1 0: it starts at 0
abbrev pub free_latch_at_0 : Input
free_latch_at_0 = over (one_free_latch 2 (0 ∷ 3 ∷ 0 ∷ 5 ∷ 0 ∷ 0 ∷ [])) (1 ∷ 0 ∷ []) yes

pub free_reset_taken_as_1_breaks : (i : ℕ) → Wrong free_latch_at_0 (Err (AgainstReset i))
unfolding laid_down
free_reset_taken_as_1_breaks i = other_number free_latch_at_0 (Err (AgainstReset i)) refl (λ e. omega arith)
