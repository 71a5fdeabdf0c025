-- The first latches of a run, put into a row from the last one down: a fixed one by its reset, a free one by the next digit. Assumes nothing.
use mathlib.Core.Bool.{Bool}
use mathlib.Core.List.{List}
use mathlib.Core.Path.{◌≡◌, refl, sym, ◌∙◌}
use Prim.Native.Nat.{ℕ, ◌+◌, ◌-◌, ◌/◌, ◌%◌, ◌^◌, ◌≤◌, ◌<◌}
use native.Mathlib.Omega.{arith}
use lib.Dec.{eqb}
use lib.ListN.{length, get_or, drop, set}
use Rattle.meaning.specs.Witnesses.{byte}
use Rattle.finder.specs.Runs.{free_in, bytes_by}
use Rattle.finder.proofs.Digits.{next_digit, one_taken, free_left, fixed_left, free_byte, fixed_byte}
use Rattle.finder.proofs.FromTheLast.{GivenFrom, one_given}

-- The latches from i on are right, and the digits that are left are the ones above theirs.
pub record LatchesFrom (rs : List ℕ) (inputs digits i rest : ℕ) (before row : List Bool) : Type 0 where
  pub within : i ≤ length rs
  pub left : rest ≡ digits / 2 ^ free_in (drop i rs)
  pub given : GivenFrom (λ (k : ℕ). eqb (byte (bytes_by rs digits) (k - inputs)) 1) (inputs + i) (inputs + length rs) before row

module _ {rs : List ℕ} {inputs digits : ℕ} where
  -- The latch before them.
  module _ {i rest : ℕ} {before row : List Bool} (from : LatchesFrom rs inputs digits i rest before row) (room : inputs + length rs ≤ length before)
      (at : ℕ) (last : at + 1 ≡ i)
    where
      here : at < length rs
      here = omega (arith, from.within)

      -- By its byte.
      one_latch : (b : ℕ) {next : ℕ} → next ≡ digits / 2 ^ free_in (drop at rs) → b ≡ byte (bytes_by rs digits) at
          → LatchesFrom rs inputs digits at next before (set row (inputs + at) (eqb b 1))
      one_latch b left right =
          let e : inputs + at - inputs ≡ at = omega arith in
          record {
            within = omega (arith, here);
            left = left;
            given = one_given from.given (inputs + at) (omega arith) (omega (arith, here)) (omega (arith, here)) (rw (e, right));
          }

      left_here : rest ≡ digits / 2 ^ free_in (drop (at + 1) rs)
      left_here = rw last from.left

      pub free_latch : get_or rs at 2 ≡ 2 → LatchesFrom rs inputs digits at (rest / 2) before (set row (inputs + at) (eqb (rest % 2) 1))
      free_latch e =
          let above = free_in (drop (at + 1) rs) in
          one_latch (rest % 2) (one_taken digits above left_here (free_left rs at here e))
          (next_digit digits above left_here refl ∙ sym (free_byte rs digits at here e))

      pub fixed_latch : {reset : ℕ} → reset ≡ get_or rs at 2 → reset < 2 → LatchesFrom rs inputs digits at rest before (set row (inputs + at) (eqb reset 1))
      fixed_latch {reset} e l =
          let h : get_or rs at 2 < 2 = omega arith in
          one_latch reset (rw (fixed_left rs at here h) left_here) (e ∙ sym (fixed_byte rs digits at here h))
