-- Finders that try too few runs, go through them in another order or read them wrongly break the promise: for each an input, what meets the
-- promise there, and what they give. Assumes nothing.
use Rattle.std.proofs.Common.{Result, Ok, Err}
use mathlib.Core.Path.{◌≡◌, refl}
use mathlib.Core.List.{List, [], ◌∷◌}
use Prim.Native.Nat.{ℕ}
use native.Mathlib.Omega.{arith}
use Rattle.meaning.specs.Cases.{H, one_input, one_free_latch}
use Rattle.finder.specs.declared.NotFound.{NotFound}
use Rattle.finder.specs.declared.NotFound.TheVariants.{NoneExists}
use Rattle.finder.proofs.Lazy.{Input, Meets, Breaks, other_answer_breaks, other_byte_breaks}
use Rattle.finder.proofs.LazyAnswers.{over, laid_down, room_left, none_not_found}

-- ════════ Another order ════════

-- 2 or G 3 with one free latch that keeps its value, k = 0: 0 1 0 4 0, 2 2, 0 2 0, 0 3 0, 5 1 0, 2 0 2. The run 0 is a witness as a lasso only.
abbrev pub lasso_then_prefix : Input
lasso_then_prefix = over (one_free_latch 4 (0 ∷ 2 ∷ 0 ∷ 0 ∷ 3 ∷ 0 ∷ 5 ∷ 1 ∷ 0 ∷ 2 ∷ 0 ∷ 2 ∷ [])) 2

pub lasso_then_prefix_meets : Meets lasso_then_prefix (Ok 2) (0 ∷ 1 ∷ [])
unfolding laid_down room_left
lasso_then_prefix_meets = record { answered = refl; room_after = refl }

-- 2 or 4 with two inputs, k = 0: 2 0 0 3 0, 0 2 0, 0 4 0, 2 0 1
abbrev pub one_of_two_inputs : Input
one_of_two_inputs = over (2 ∷ 0 ∷ 0 ∷ 3 ∷ 0 ∷ 0 ∷ 2 ∷ 0 ∷ 0 ∷ 4 ∷ 0 ∷ 2 ∷ 0 ∷ 1 ∷ []) 3

pub one_of_two_inputs_meets : Meets one_of_two_inputs (Ok 3) (0 ∷ 0 ∷ 1 ∷ [])
unfolding laid_down room_left
one_of_two_inputs_meets = record { answered = refl; room_after = refl }

-- 2 or 4 with an input and a free latch, k = 0: 1 1 0 3 0, 4 2, 0 2 0, 0 4 0, 2 0 1
abbrev pub input_or_latch : Input
input_or_latch = over (1 ∷ 1 ∷ 0 ∷ 3 ∷ 0 ∷ 4 ∷ 2 ∷ 0 ∷ 2 ∷ 0 ∷ 0 ∷ 4 ∷ 0 ∷ 2 ∷ 0 ∷ 1 ∷ []) 3

pub input_or_latch_meets : Meets input_or_latch (Ok 3) (0 ∷ 0 ∷ 1 ∷ [])
unfolding laid_down room_left
input_or_latch_meets = record { answered = refl; room_after = refl }

-- F 2 with one input, k = 1: 1 0 0 2 1, 0 2 0, 4 0 0
abbrev pub input_at_last : Input
input_at_last = over (1 ∷ 0 ∷ 0 ∷ 2 ∷ 1 ∷ 0 ∷ 2 ∷ 0 ∷ 4 ∷ 0 ∷ 0 ∷ []) 3

pub input_at_last_meets : Meets input_at_last (Ok 3) (0 ∷ 0 ∷ 1 ∷ [])
unfolding laid_down room_left
input_at_last_meets = record { answered = refl; room_after = refl }

module _ (r : Result ℕ NotFound) where
  -- The loop byte compared last.
  pub loop_byte_last_breaks : Breaks lasso_then_prefix r (1 ∷ 0 ∷ [])
  loop_byte_last_breaks = other_byte_breaks lasso_then_prefix_meets 0 (λ e. omega arith)

  -- The first of the inputs counts least.
  pub later_input_first_breaks : Breaks one_of_two_inputs r (0 ∷ 1 ∷ 0 ∷ [])
  later_input_first_breaks = other_byte_breaks one_of_two_inputs_meets 1 (λ e. omega arith)

  -- The latches count less than the inputs.
  pub inputs_before_latches_breaks : Breaks input_or_latch r (0 ∷ 1 ∷ 0 ∷ [])
  inputs_before_latches_breaks = other_byte_breaks input_or_latch_meets 1 (λ e. omega arith)

  -- The first of the positions counts least.
  pub later_position_first_breaks : Breaks input_at_last r (0 ∷ 1 ∷ 0 ∷ [])
  later_position_first_breaks = other_byte_breaks input_at_last_meets 1 (λ e. omega arith)

-- ════════ Too few candidates ════════

-- H with X 2 at k = 1: 0 2 4 2 1, .., 0 2 0, 3 0 0. No loop closes.
abbrev pub h_next : Input
h_next = over (H 2 1 (0 ∷ 2 ∷ 0 ∷ 3 ∷ 0 ∷ 0 ∷ [])) 3

pub h_next_meets : Meets h_next (Ok 3) (0 ∷ 0 ∷ 0 ∷ [])
unfolding laid_down room_left
h_next_meets = record { answered = refl; room_after = refl }

-- G 2 with one input, k = 0: 1 0 0 2 0, 0 2 0, 5 0 0. No prefix is a witness.
abbrev pub always_input : Input
always_input = over (one_input 2 (0 ∷ 2 ∷ 0 ∷ 5 ∷ 0 ∷ 0 ∷ [])) 2

pub always_input_meets : Meets always_input (Ok 2) (1 ∷ 1 ∷ [])
unfolding laid_down room_left
always_input_meets = record { answered = refl; room_after = refl }

-- F G 2 with a latch that starts at 0 and is 1 from then on, k = 1: 0 1 0 3 1, 1 0, 0 2 0, 5 0 0, 4 1 0. The loop starts at 1.
abbrev pub loop_at_1 : Input
loop_at_1 = over (0 ∷ 1 ∷ 0 ∷ 3 ∷ 1 ∷ 1 ∷ 0 ∷ 0 ∷ 2 ∷ 0 ∷ 5 ∷ 0 ∷ 0 ∷ 4 ∷ 1 ∷ 0 ∷ []) 2

pub loop_at_1_meets : Meets loop_at_1 (Ok 2) (2 ∷ 0 ∷ [])
unfolding laid_down room_left
loop_at_1_meets = record { answered = refl; room_after = refl }

-- G 2 with one free latch, k = 0: 0 1 0 2 0, 2 2, 0 2 0, 5 0 0
abbrev pub always_latch : Input
always_latch = over (one_free_latch 2 (0 ∷ 2 ∷ 0 ∷ 5 ∷ 0 ∷ 0 ∷ [])) 2

pub always_latch_meets : Meets always_latch (Ok 2) (1 ∷ 1 ∷ [])
unfolding laid_down room_left
always_latch_meets = record { answered = refl; room_after = refl }

-- 2 with a latch that starts at 1, k = 0: 0 1 0 1 0, 2 1, 0 2 0
abbrev pub starts_at_1 : Input
starts_at_1 = over (0 ∷ 1 ∷ 0 ∷ 1 ∷ 0 ∷ 2 ∷ 1 ∷ 0 ∷ 2 ∷ 0 ∷ []) 2

pub starts_at_1_meets : Meets starts_at_1 (Ok 2) (0 ∷ 1 ∷ [])
unfolding laid_down room_left
starts_at_1_meets = record { answered = refl; room_after = refl }

module _ (after : List ℕ) where
  -- Only lassos tried.
  pub only_lassos_tried_breaks : Breaks h_next (Err NoneExists) after
  only_lassos_tried_breaks = other_answer_breaks h_next_meets none_not_found

  -- Only loops from position 0 tried.
  pub only_loops_from_0_tried_breaks : Breaks loop_at_1 (Err NoneExists) after
  only_loops_from_0_tried_breaks = other_answer_breaks loop_at_1_meets none_not_found

  -- Free latches held at 0.
  pub free_latches_held_at_0_breaks : Breaks always_latch (Err NoneExists) after
  free_latches_held_at_0_breaks = other_answer_breaks always_latch_meets none_not_found

  -- A reset of 1 read as 0.
  pub all_latches_start_at_0_breaks : Breaks starts_at_1 (Err NoneExists) after
  all_latches_start_at_0_breaks = other_answer_breaks starts_at_1_meets none_not_found

-- The first byte is the start of the loop instead of one more.
pub start_without_1_breaks : (r : Result ℕ NotFound) → Breaks loop_at_1 r (1 ∷ 0 ∷ [])
start_without_1_breaks r = other_byte_breaks loop_at_1_meets 0 (λ e. omega arith)

-- ════════ Document 01's tempting mistakes ════════

-- G (F 2 and F 3) with one input, k = 1: 1 0 0 6 1, 0 2 0, 0 3 0, 4 0 0, 4 1 0, 1 2 3, 5 4 0. The inputs at 0 and 1 differ in each witness.
abbrev pub inputs_differ : Input
inputs_differ =
    over (1 ∷ 0 ∷ 0 ∷ 6 ∷ 1 ∷ 0 ∷ 2 ∷ 0 ∷ 0 ∷ 3 ∷ 0 ∷ 4 ∷ 0 ∷ 0 ∷ 4 ∷ 1 ∷ 0 ∷ 1 ∷ 2 ∷ 3 ∷ 5 ∷ 4 ∷ 0 ∷ []) 3

pub inputs_differ_meets : Meets inputs_differ (Ok 3) (1 ∷ 0 ∷ 1 ∷ [])
unfolding laid_down room_left
inputs_differ_meets = record { answered = refl; room_after = refl }

-- H with G F 6 at k = 3: 0 2 4 3 3, .., 0 6 0, 4 0 0, 5 1 0. Literal 6 is true at 1 only, so from 2 and 3 on it comes again before them.
abbrev pub h_again : Input
h_again = over (H 3 3 (0 ∷ 6 ∷ 0 ∷ 4 ∷ 0 ∷ 0 ∷ 5 ∷ 1 ∷ 0 ∷ [])) 3

pub h_again_meets : Meets h_again (Ok 3) (1 ∷ 0 ∷ 0 ∷ [])
unfolding laid_down room_left
h_again_meets = record { answered = refl; room_after = refl }

-- F 2 over a latch that starts at 0 and turns over, k = 1: 0 1 0 2 1, 3 0, 0 2 0, 4 0 0
abbrev pub turns_over : Input
turns_over = over (0 ∷ 1 ∷ 0 ∷ 2 ∷ 1 ∷ 3 ∷ 0 ∷ 0 ∷ 2 ∷ 0 ∷ 4 ∷ 0 ∷ 0 ∷ []) 2

pub turns_over_meets : Meets turns_over (Ok 2) (0 ∷ 0 ∷ [])
unfolding laid_down room_left
turns_over_meets = record { answered = refl; room_after = refl }

module _ (after : List ℕ) where
  -- Q of G ended with false, or only prefixes tried: no lasso shows G.
  pub g_ended_with_false_breaks : Breaks always_input (Err NoneExists) after
  g_ended_with_false_breaks = other_answer_breaks always_input_meets none_not_found

  -- Inputs at l asked to match those at k.
  pub matching_inputs_breaks : Breaks inputs_differ (Err NoneExists) after
  matching_inputs_breaks = other_answer_breaks inputs_differ_meets none_not_found

  -- The first pass of U ended at k.
  pub until_ended_at_k_breaks : Breaks h_again (Err NoneExists) after
  until_ended_at_k_breaks = other_answer_breaks h_again_meets none_not_found

  -- k counted as positions: there is only 0 then, where the latch is off.
  pub k_as_positions_breaks : Breaks turns_over (Err NoneExists) after
  k_as_positions_breaks = other_answer_breaks turns_over_meets none_not_found

  -- And of F 2 over one input the length is that of one.
  pub length_by_k_positions_breaks : Breaks input_at_last (Ok 2) after
  length_by_k_positions_breaks = other_answer_breaks input_at_last_meets (λ e. let z : ◌≡◌ {A = ℕ} 2 3 = cc in omega arith)

-- G taken for true of a prefix that has it up to k.
pub g_of_a_prefix_breaks : (r : Result ℕ NotFound) → Breaks always_input r (0 ∷ 1 ∷ [])
g_of_a_prefix_breaks r = other_byte_breaks always_input_meets 0 (λ e. omega arith)
