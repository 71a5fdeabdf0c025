-- Checks of a problem with other limits or in another order do not meet the promise: for each an input, and what it answers there.
-- Assumes nothing.
use mathlib.Core.Path.{◌≡◌, refl}
use mathlib.Core.List.{[], ◌∷◌}
use Prim.Native.Nat.{ℕ, ◌+◌, ◌*◌}
use native.Mathlib.Omega.{arith}
use lib.ListN.{replicate}
use Rattle.answers.specs.Limits.{inputs_limit, latches_limit, gates_limit, nodes_limit, bound_limit}
use Rattle.meaning.specs.Cases.{t_words}
use Rattle.problem.specs.declared.ProblemRecord.{ProblemRecord}
use Rattle.problem.specs.declared.Refusal.{Refusal}
use Rattle.problem.specs.declared.Refusal.TheVariants.{BadVersion, BadLength, OutsideLimits, BadReset, BadLiteral, BadNode}
use Rattle.std.specs.Prelude.{Result, Ok, Err}
use Rattle.problem.proofs.Lazy.{Input, laid_down, Breaks, other, other_number, other_place, bad, t_with}

-- ════════ Other limits ════════

-- One input too many, and zeros: in all but its inputs a good problem, as those below in all but one size
abbrev pub inputs_over : Input
inputs_over = bad ((inputs_limit + 1) ∷ 0 ∷ 0 ∷ 1 ∷ 0 ∷ replicate 3 0) (OutsideLimits 0)

abbrev pub latches_over : Input
latches_over = bad (0 ∷ (latches_limit + 1) ∷ 0 ∷ 1 ∷ 0 ∷ replicate (2 * (latches_limit + 1) + 3) 0) (OutsideLimits 1)

abbrev pub gates_over : Input
gates_over = bad (0 ∷ 0 ∷ (gates_limit + 1) ∷ 1 ∷ 0 ∷ replicate (2 * (gates_limit + 1) + 3) 0) (OutsideLimits 2)

abbrev pub nodes_over : Input
nodes_over = bad (0 ∷ 0 ∷ 0 ∷ (nodes_limit + 1) ∷ 0 ∷ replicate (3 * (nodes_limit + 1)) 0) (OutsideLimits 3)

abbrev pub bound_over : Input
bound_over = bad (0 ∷ 0 ∷ 0 ∷ 1 ∷ (bound_limit + 1) ∷ replicate 3 0) (OutsideLimits 4)

-- 0 1 0 0 0, 3 0: T without its node
abbrev pub no_nodes : Input
no_nodes = bad (0 ∷ 1 ∷ 0 ∷ 0 ∷ 0 ∷ 3 ∷ 0 ∷ []) (OutsideLimits 3)

-- 0 1 0 65537 0, 3 0, 0 2 0: T with 65536 nodes more, of which 16 bits see none
abbrev pub nodes_past_16_bits : Input
nodes_past_16_bits = bad (0 ∷ 1 ∷ 0 ∷ 65_537 ∷ 0 ∷ 3 ∷ 0 ∷ 0 ∷ 2 ∷ 0 ∷ []) (OutsideLimits 3)

module _ (g : ProblemRecord) where
  pub inputs_limit_too_large_breaks : Breaks inputs_over (Ok g)
  unfolding laid_down inputs_limit
  inputs_limit_too_large_breaks = other_number inputs_over (Ok g) refl (λ e. omega arith)

  pub latches_limit_too_large_breaks : Breaks latches_over (Ok g)
  unfolding laid_down latches_limit
  latches_limit_too_large_breaks = other_number latches_over (Ok g) refl (λ e. omega arith)

  pub gates_limit_too_large_breaks : Breaks gates_over (Ok g)
  unfolding laid_down gates_limit
  gates_limit_too_large_breaks = other_number gates_over (Ok g) refl (λ e. omega arith)

  pub nodes_limit_too_large_breaks : Breaks nodes_over (Ok g)
  unfolding laid_down nodes_limit
  nodes_limit_too_large_breaks = other_number nodes_over (Ok g) refl (λ e. omega arith)

  pub bound_limit_too_large_breaks : Breaks bound_over (Ok g)
  unfolding laid_down bound_limit
  bound_limit_too_large_breaks = other_number bound_over (Ok g) refl (λ e. omega arith)

  pub no_nodes_breaks : Breaks no_nodes (Ok g)
  unfolding laid_down
  no_nodes_breaks = other_number no_nodes (Ok g) refl (λ e. omega arith)

  pub count_in_16_bits_breaks : Breaks nodes_past_16_bits (Ok g)
  unfolding laid_down
  count_in_16_bits_breaks = other_number nodes_past_16_bits (Ok g) refl (λ e. omega arith)

pub made_up_limit_place_breaks : (i : ℕ) → ¬ (i ≡ 3) → Breaks no_nodes (Err (OutsideLimits i))
unfolding laid_down
made_up_limit_place_breaks i = other_place no_nodes (Err (OutsideLimits i)) refl

-- Each size is at its limit, and the words are cut short.
abbrev pub at_the_limits : Input
at_the_limits = bad (inputs_limit ∷ latches_limit ∷ gates_limit ∷ nodes_limit ∷ bound_limit ∷ []) (BadLength 5)

pub limit_too_small_breaks : (i : ℕ) → Breaks at_the_limits (Err (OutsideLimits i))
unfolding laid_down inputs_limit latches_limit gates_limit nodes_limit bound_limit
limit_too_small_breaks i = other_number at_the_limits (Err (OutsideLimits i)) refl (λ e. omega arith)

-- ════════ The version, the header, the limits, the length ════════

-- T, told as version 9
abbrev pub t_other_version : Input
t_other_version = record { version = 9; words = t_words; right = Err BadVersion }

pub any_version_breaks : (r : Result ProblemRecord Refusal) → ¬ (r ≡ Err BadVersion) → Breaks t_other_version r
unfolding laid_down
any_version_breaks r = other t_other_version r refl tt tt

-- No words, told as version 9
abbrev pub none_of_other_version : Input
none_of_other_version = record { version = 9; words = []; right = Err BadVersion }

pub version_after_words_breaks : (n : ℕ) → Breaks none_of_other_version (Err (BadLength n))
unfolding laid_down
version_after_words_breaks n = other_number none_of_other_version (Err (BadLength n)) refl (λ e. omega arith)

-- I and N are outside their limits, and k is not there.
abbrev pub four_words : Input
four_words = bad ((inputs_limit + 1) ∷ 0 ∷ 0 ∷ 0 ∷ []) (BadLength 4)

pub header_not_checked_first_breaks : (r : Result ProblemRecord Refusal) → ¬ (r ≡ Err (BadLength 4)) → Breaks four_words r
unfolding laid_down inputs_limit
header_not_checked_first_breaks r = other four_words r refl tt tt

-- I is outside its limit, and the node is not there.
abbrev pub limit_and_length : Input
limit_and_length = bad ((inputs_limit + 1) ∷ 0 ∷ 0 ∷ 1 ∷ 0 ∷ []) (OutsideLimits 0)

pub limits_after_length_breaks : (n : ℕ) → Breaks limit_and_length (Err (BadLength n))
unfolding laid_down inputs_limit
limits_after_length_breaks n = other_number limit_and_length (Err (BadLength n)) refl (λ e. omega arith)

-- 0 1 0 1 0, 3 3, 0 2: the reset at 6 is 3, and a word is not there
abbrev pub length_and_reset : Input
length_and_reset = bad (0 ∷ 1 ∷ 0 ∷ 1 ∷ 0 ∷ 3 ∷ 3 ∷ 0 ∷ 2 ∷ []) (BadLength 9)

pub length_after_parts_breaks : (i : ℕ) → Breaks length_and_reset (Err (BadReset i))
unfolding laid_down
length_after_parts_breaks i = other_number length_and_reset (Err (BadReset i)) refl (λ e. omega arith)

-- I and L are outside; below L and A, A and N, N and k. An order other than the header's turns one of these pairs round.
abbrev pub inputs_and_latches : Input
inputs_and_latches = bad ((inputs_limit + 1) ∷ (latches_limit + 1) ∷ 0 ∷ 1 ∷ 0 ∷ []) (OutsideLimits 0)

pub limits_out_of_order_breaks : Breaks inputs_and_latches (Err (OutsideLimits 1))
unfolding laid_down inputs_limit latches_limit
limits_out_of_order_breaks = other_place inputs_and_latches (Err (OutsideLimits 1)) refl (λ e. omega arith)

abbrev pub latches_and_gates : Input
latches_and_gates = bad (0 ∷ (latches_limit + 1) ∷ (gates_limit + 1) ∷ 1 ∷ 0 ∷ []) (OutsideLimits 1)

pub gates_limit_first_breaks : Breaks latches_and_gates (Err (OutsideLimits 2))
unfolding laid_down latches_limit gates_limit
gates_limit_first_breaks = other_place latches_and_gates (Err (OutsideLimits 2)) refl (λ e. omega arith)

abbrev pub gates_and_nodes : Input
gates_and_nodes = bad (0 ∷ 0 ∷ (gates_limit + 1) ∷ 0 ∷ 0 ∷ []) (OutsideLimits 2)

pub nodes_limit_first_breaks : Breaks gates_and_nodes (Err (OutsideLimits 3))
unfolding laid_down gates_limit
nodes_limit_first_breaks = other_place gates_and_nodes (Err (OutsideLimits 3)) refl (λ e. omega arith)

abbrev pub nodes_and_bound : Input
nodes_and_bound = bad (0 ∷ 0 ∷ 0 ∷ 0 ∷ (bound_limit + 1) ∷ []) (OutsideLimits 3)

pub bound_limit_first_breaks : Breaks nodes_and_bound (Err (OutsideLimits 4))
unfolding laid_down bound_limit
bound_limit_first_breaks = other_place nodes_and_bound (Err (OutsideLimits 4)) refl (λ e. omega arith)

-- ════════ The words in order ════════

-- 0 1 0 1 0, 4 3, 0 2 0: of one latch the next literal and the reset are wrong
abbrev pub next_and_reset : Input
next_and_reset = bad (t_with 4 3 0 2 0) (BadLiteral 5)

pub reset_before_next_breaks : (i : ℕ) → Breaks next_and_reset (Err (BadReset i))
unfolding laid_down
reset_before_next_breaks i = other_number next_and_reset (Err (BadReset i)) refl (λ e. omega arith)

-- 0 2 0 1 0, 0 3, 6 0, 0 0 0: latch 0 has a wrong reset at 6, latch 1 a wrong next literal at 7
abbrev pub reset_then_next : Input
reset_then_next = bad (0 ∷ 2 ∷ 0 ∷ 1 ∷ 0 ∷ 0 ∷ 3 ∷ 6 ∷ 0 ∷ 0 ∷ 0 ∷ 0 ∷ []) (BadReset 6)

pub next_before_reset_of_earlier_latch_breaks : (i : ℕ) → Breaks reset_then_next (Err (BadLiteral i))
unfolding laid_down
next_before_reset_of_earlier_latch_breaks i = other_number reset_then_next (Err (BadLiteral i)) refl (λ e. omega arith)

-- 0 1 1 1 0, 6 0, 4 0, 0 0 0: a wrong next literal at 5, and a gate that reads itself at 7
abbrev pub next_and_gate : Input
next_and_gate = bad (0 ∷ 1 ∷ 1 ∷ 1 ∷ 0 ∷ 6 ∷ 0 ∷ 4 ∷ 0 ∷ 0 ∷ 0 ∷ 0 ∷ []) (BadLiteral 5)

pub gates_before_latches_breaks : Breaks next_and_gate (Err (BadLiteral 7))
unfolding laid_down
gates_before_latches_breaks = other_place next_and_gate (Err (BadLiteral 7)) refl (λ e. omega arith)

-- 0 0 1 1 0, 2 2, 8 0 0: a gate that reads itself on both sides, at 5 and 6, and op 8
abbrev pub gate_and_node : Input
gate_and_node = bad (0 ∷ 0 ∷ 1 ∷ 1 ∷ 0 ∷ 2 ∷ 2 ∷ 8 ∷ 0 ∷ 0 ∷ []) (BadLiteral 5)

pub right_before_left_breaks : Breaks gate_and_node (Err (BadLiteral 6))
unfolding laid_down
right_before_left_breaks = other_place gate_and_node (Err (BadLiteral 6)) refl (λ e. omega arith)

pub nodes_before_gates_breaks : (i : ℕ) → Breaks gate_and_node (Err (BadNode i))
unfolding laid_down
nodes_before_gates_breaks i = other_number gate_and_node (Err (BadNode i)) refl (λ e. omega arith)

-- 0 1 0 1 0, 3 0, 4 0 1: F of itself at 8, with b at 9
abbrev pub a_and_b : Input
a_and_b = bad (t_with 3 0 4 0 1) (BadNode 8)

pub b_before_a_breaks : Breaks a_and_b (Err (BadNode 9))
unfolding laid_down
b_before_a_breaks = other_place a_and_b (Err (BadNode 9)) refl (λ e. omega arith)
