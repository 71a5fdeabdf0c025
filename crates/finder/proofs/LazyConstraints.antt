-- Finders that ask the constraints of too few positions or runs, of too many, or not all of them break the promise: for each an input, what meets
-- the promise there, and what they give. Assumes nothing.
use Rattle.std.proofs.Common.{Result, Ok, Err}
use mathlib.Core.Path.{◌≡◌, refl}
use mathlib.Core.List.{List, [], ◌∷◌}
use Prim.Native.Nat.{ℕ}
use native.Mathlib.Omega.{arith}
use lib.ListN.{replicate}
use Rattle.meaning.specs.Cases.{engine, stuck}
use Rattle.finder.specs.declared.NotFound.{NotFound}
use Rattle.finder.specs.declared.NotFound.TheVariants.{NoneExists}
use Rattle.finder.proofs.Lazy.{Input, Meets, Breaks, other_answer_breaks, other_byte_breaks}
use Rattle.finder.proofs.LazyAnswers.{laid_down, room_left, none_not_found, found_not_none}

-- Words of version 2, and a room of so many bytes, each 7.
abbrev under : List ℕ → ℕ → Input
under ws n = record { version = 2; words = ws; room = replicate n 7 }

-- ════════ The constraints are not asked ════════

-- The engine with its constraint: no run shows the fault.
abbrev pub engine_constrained : Input
engine_constrained = under (engine (1 ∷ []) (13 ∷ [])) 6

pub engine_constrained_meets : Meets engine_constrained (Err NoneExists) (7 ∷ 7 ∷ 7 ∷ 7 ∷ 7 ∷ 7 ∷ [])
unfolding laid_down room_left
engine_constrained_meets = record { answered = refl; room_after = refl }

-- The engine with D = 0.
abbrev pub engine_free : Input
engine_free = under (engine (0 ∷ []) []) 6

pub engine_free_meets : Meets engine_free (Ok 6) (0 ∷ 0 ∷ 1 ∷ 1 ∷ 0 ∷ 0 ∷ [])
unfolding laid_down room_left
engine_free_meets = record { answered = refl; room_after = refl }

-- The constraints are read and not asked: the run with both on.
pub constraints_not_asked_breaks : (n : ℕ) (after : List ℕ) → Breaks engine_constrained (Ok n) after
constraints_not_asked_breaks n after = other_answer_breaks engine_constrained_meets found_not_none

pub broken_run_written_breaks : (r : Result ℕ NotFound) → Breaks engine_constrained r (0 ∷ 0 ∷ 1 ∷ 1 ∷ 0 ∷ 0 ∷ [])
broken_run_written_breaks r = other_byte_breaks engine_constrained_meets 0 (λ e. omega arith)

-- Version 2 with D = 0 is refused, or has none.
pub no_constraints_refused_breaks : (r : Result ℕ NotFound) → ¬ (r ≡ Ok 6) → (after : List ℕ) → Breaks engine_free r after
no_constraints_refused_breaks r h after = other_answer_breaks engine_free_meets h

-- ════════ They are asked of too few positions ════════

-- The formula true with one input that has to be on, k = 2: 1 0 0 1 2 1, 2, 0 1 0
abbrev pub input_kept_on : Input
input_kept_on = under (1 ∷ 0 ∷ 0 ∷ 1 ∷ 2 ∷ 1 ∷ 2 ∷ 0 ∷ 1 ∷ 0 ∷ []) 4

pub input_kept_on_meets : Meets input_kept_on (Ok 4) (0 ∷ 1 ∷ 1 ∷ 1 ∷ [])
unfolding laid_down room_left
input_kept_on_meets = record { answered = refl; room_after = refl }

module _ (r : Result ℕ NotFound) where
  -- At position 0 only.
  pub constraints_at_0_only_breaks : Breaks input_kept_on r (0 ∷ 1 ∷ 0 ∷ 0 ∷ [])
  constraints_at_0_only_breaks = other_byte_breaks input_kept_on_meets 2 (λ e. omega arith)

  -- At positions below k only.
  pub constraints_below_k_only_breaks : Breaks input_kept_on r (0 ∷ 1 ∷ 1 ∷ 0 ∷ [])
  constraints_below_k_only_breaks = other_byte_breaks input_kept_on_meets 3 (λ e. omega arith)

  -- After position 0 only.
  pub constraints_after_0_only_breaks : Breaks input_kept_on r (0 ∷ 0 ∷ 1 ∷ 1 ∷ [])
  constraints_after_0_only_breaks = other_byte_breaks input_kept_on_meets 1 (λ e. omega arith)

  -- At no position.
  pub constraints_at_none_breaks : Breaks input_kept_on r (0 ∷ 0 ∷ 0 ∷ 0 ∷ [])
  constraints_at_none_breaks = other_byte_breaks input_kept_on_meets 1 (λ e. omega arith)

-- ════════ Prefixes ════════

-- "Prefixes can now get stuck": at k = 1 no run goes on.
abbrev pub stuck_short : Input
stuck_short = under (stuck 1) 2

pub stuck_short_meets : Meets stuck_short (Err NoneExists) (7 ∷ 7 ∷ [])
unfolding laid_down room_left
stuck_short_meets = record { answered = refl; room_after = refl }

-- At k = 0 the prefix is a witness, although nothing comes after it.
abbrev pub stuck_at_once : Input
stuck_at_once = under (stuck 0) 2

pub stuck_at_once_meets : Meets stuck_at_once (Ok 2) (0 ∷ 0 ∷ [])
unfolding laid_down room_left
stuck_at_once_meets = record { answered = refl; room_after = refl }

module _ (after : List ℕ) where
  -- They are asked of lassos only.
  pub prefixes_not_asked_breaks : (n : ℕ) → Breaks stuck_short (Ok n) after
  prefixes_not_asked_breaks n = other_answer_breaks stuck_short_meets found_not_none

  -- They are asked at k + 1 too.
  pub constraints_past_k_breaks : Breaks stuck_at_once (Err NoneExists) after
  constraints_past_k_breaks = other_answer_breaks stuck_at_once_meets none_not_found

-- ════════ Not all of them are asked ════════

-- The formula true with one input, and the constraints true and that it is on, k = 0: 1 0 0 1 0 2, 1 2, 0 1 0
abbrev pub second_constraint : Input
second_constraint = under (1 ∷ 0 ∷ 0 ∷ 1 ∷ 0 ∷ 2 ∷ 1 ∷ 2 ∷ 0 ∷ 1 ∷ 0 ∷ []) 2

pub second_constraint_meets : Meets second_constraint (Ok 2) (0 ∷ 1 ∷ [])
unfolding laid_down room_left
second_constraint_meets = record { answered = refl; room_after = refl }

-- The first of them, or one of them, is enough.
pub one_constraint_asked_breaks : (r : Result ℕ NotFound) → Breaks second_constraint r (0 ∷ 0 ∷ [])
one_constraint_asked_breaks r = other_byte_breaks second_constraint_meets 1 (λ e. omega arith)
