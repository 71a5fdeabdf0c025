-- Judges of a witness that ask the constraints wrongly do not meet the promise: for each an input, and what it answers there. Assumes nothing.
use mathlib.Core.Path.{◌≡◌, refl}
use mathlib.Core.List.{List, [], ◌∷◌, ◌++◌}
use Rattle.std.specs.Prelude.{Result, Err, ⊤}
use Prim.Native.Nat.{ℕ}
use native.Mathlib.Omega.{arith}
use lib.ListN.{length}
use Rattle.meaning.specs.Cases.{stuck}
use Rattle.witness.specs.declared.NotWitness.{NotWitness}
use Rattle.witness.specs.declared.NotWitness.TheVariants.{AgainstReset, OpenLoop, ConstraintBroken, FormulaFalse}
use Rattle.witness.proofs.Lazy.{yes, Input, laid_down, Wrong, other, other_number, other_place}

-- Words of version 2 and bytes, and the right answer.
abbrev pub constrained : List ℕ → List ℕ → Result ⊤ NotWitness → Input
constrained words bytes r = record { version = 2; words = words; bytes = bytes; right = r }

-- One input, k = 2, constraints and an atom: 1 0 0 1 2 D, the constraints, 0 x 0
abbrev pub held_input : List ℕ → ℕ → List ℕ
held_input constraints x = 1 ∷ 0 ∷ 0 ∷ 1 ∷ 2 ∷ length constraints ∷ (constraints ++ (0 ∷ x ∷ 0 ∷ []))

-- The input is to be on, and the formula is true: 1 0 0 1 2 1, 2, 0 1 0
abbrev pub input_on : List ℕ
input_on = held_input (2 ∷ []) 1

-- ════════ Some positions left out ════════

-- 1 1 0 1: round a loop from 0 the input is off at 1
abbrev pub off_at_1 : Input
off_at_1 = constrained input_on (1 ∷ 1 ∷ 0 ∷ 1 ∷ []) (Err (ConstraintBroken 1))

pub asked_at_0_only_breaks : Wrong off_at_1 yes
unfolding laid_down
asked_at_0_only_breaks = other_number off_at_1 yes refl (λ e. omega arith)

-- 1 1 1 0: it is off at k
abbrev pub off_at_k : Input
off_at_k = constrained input_on (1 ∷ 1 ∷ 1 ∷ 0 ∷ []) (Err (ConstraintBroken 2))

pub asked_below_k_only_breaks : Wrong off_at_k yes
unfolding laid_down
asked_below_k_only_breaks = other_number off_at_k yes refl (λ e. omega arith)

-- 3 0 1 1: it is off at 0, before the loop, which starts at 2
abbrev pub off_before_loop : Input
off_before_loop = constrained input_on (3 ∷ 0 ∷ 1 ∷ 1 ∷ []) (Err (ConstraintBroken 0))

pub asked_on_the_loop_only_breaks : Wrong off_before_loop yes
unfolding laid_down
asked_on_the_loop_only_breaks = other_number off_before_loop yes refl (λ e. omega arith)

-- 0 0 0 0: a prefix on which it is off
abbrev pub off_prefix : Input
off_prefix = constrained input_on (0 ∷ 0 ∷ 0 ∷ 0 ∷ []) (Err (ConstraintBroken 0))

pub not_asked_of_prefixes_breaks : Wrong off_prefix yes
unfolding laid_down
not_asked_of_prefixes_breaks = other_number off_prefix yes refl (λ e. omega arith)

-- ════════ Other constraints ════════

-- 0 1 1 1: it is on
abbrev pub on_prefix : Input
on_prefix = constrained input_on (0 ∷ 1 ∷ 1 ∷ 1 ∷ []) yes

pub negated_constraint_breaks : (r : Result ⊤ NotWitness) → ¬ (r ≡ yes) → Wrong on_prefix r
unfolding laid_down
negated_constraint_breaks r = other on_prefix r refl

-- Constraints 1 and 2, the first of which is true, and 2 and 1
abbrev pub second_broken : Input
second_broken = constrained (held_input (1 ∷ 2 ∷ []) 1) (0 ∷ 1 ∷ 0 ∷ 1 ∷ []) (Err (ConstraintBroken 1))

pub first_constraint_only_breaks : Wrong second_broken yes
unfolding laid_down
first_constraint_only_breaks = other_number second_broken yes refl (λ e. omega arith)

abbrev pub first_broken : Input
first_broken = constrained (held_input (2 ∷ 1 ∷ []) 1) (0 ∷ 1 ∷ 0 ∷ 1 ∷ []) (Err (ConstraintBroken 1))

pub last_constraint_only_breaks : Wrong first_broken yes
unfolding laid_down
last_constraint_only_breaks = other_number first_broken yes refl (λ e. omega arith)

-- ════════ Places that are made up ════════

-- 0 1 0 0: constraint 0 is false at 1 and at 2, so neither its number nor the last position is the place
abbrev pub off_from_1 : Input
off_from_1 = constrained input_on (0 ∷ 1 ∷ 0 ∷ 0 ∷ []) (Err (ConstraintBroken 1))

pub made_up_position_breaks : (t : ℕ) → ¬ (t ≡ 1) → Wrong off_from_1 (Err (ConstraintBroken t))
unfolding laid_down
made_up_position_breaks t = other_place off_from_1 (Err (ConstraintBroken t)) refl

-- Constraints 2 and 3: constraint 1 is false at 0, and constraint 0 at 1
abbrev pub both_broken : Input
both_broken = constrained (held_input (2 ∷ 3 ∷ []) 1) (0 ∷ 1 ∷ 0 ∷ 0 ∷ []) (Err (ConstraintBroken 0))

pub by_constraint_first_breaks : Wrong both_broken (Err (ConstraintBroken 1))
unfolding laid_down
by_constraint_first_breaks = other_place both_broken (Err (ConstraintBroken 1)) refl (λ e. omega arith)

-- ════════ The order of checks turned round ════════

-- The formula false: 1 0 0 1 2 1, 2, 0 0 0; bytes 0 1 1 0
abbrev pub off_and_false : Input
off_and_false = constrained (held_input (2 ∷ []) 0) (0 ∷ 1 ∷ 1 ∷ 0 ∷ []) (Err (ConstraintBroken 2))

pub formula_before_constraints_breaks : Wrong off_and_false (Err FormulaFalse)
unfolding laid_down
formula_before_constraints_breaks = other_number off_and_false (Err FormulaFalse) refl (λ e. omega arith)

-- A latch that is to be off, and is on from 1 on: 0 1 0 1 1 1, 1 0, 3, 0 1 0; bytes 1 0: the loop from 0 does not close
abbrev pub stuck_and_open : Input
stuck_and_open = constrained (stuck 1) (1 ∷ 0 ∷ []) (Err (OpenLoop 0))

pub constraints_before_loop_breaks : (t : ℕ) → Wrong stuck_and_open (Err (ConstraintBroken t))
unfolding laid_down
constraints_before_loop_breaks t = other_number stuck_and_open (Err (ConstraintBroken t)) refl (λ e. omega arith)

-- 0 1: it starts on, against its reset
abbrev pub stuck_against : Input
stuck_against = constrained (stuck 1) (0 ∷ 1 ∷ []) (Err (AgainstReset 1))

pub constraints_before_reset_breaks : (t : ℕ) → Wrong stuck_against (Err (ConstraintBroken t))
unfolding laid_down
constraints_before_reset_breaks t = other_number stuck_against (Err (ConstraintBroken t)) refl (λ e. omega arith)
