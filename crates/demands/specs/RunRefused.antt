-- What the witness judge has passed before it answers 9, 20 or 10, and the latch that 9 names. Assumes nothing.
use Rattle.std.specs.Prelude.{false, List, ◌≢◌, ◌≡◌, ℕ, ◌+◌, ◌≤◌, ◌<◌, length, get_or}
use Rattle.meaning.specs.Problem.{Problem}
use Rattle.meaning.specs.Runs.{next_values, StartsRight}
use Rattle.meaning.specs.Bounded.{Shape, prefix, lasso}
use Rattle.meaning.specs.Witnesses.{witness_length, byte, first_latches, position, Closes}

-- 7 and 8 pass: the bytes have their length and their ranges, and the latches start by their resets.
pub record Begins (p : Problem) (bs : List ℕ) : Type 0 where
  pub length_right : length bs ≡ witness_length p
  pub start_in_range : byte bs 0 ≤ p.bound + 1
  pub bits_in_range : (i : ℕ) → 1 ≤ i → i < length bs → byte bs i ≤ 1
  pub starts_right : StartsRight p (first_latches p bs)

-- 9 passes: a lasso closes.
abbrev pub ClosesIfLasso : Problem → List ℕ → Shape → Type 0
ClosesIfLasso p bs prefix = Unit
ClosesIfLasso p bs (lasso l) = Closes p bs l

-- Latch i is the first whose next value at k is not its value at the loop's start.
pub record FirstOpen (p : Problem) (bs : List ℕ) (l i : ℕ) : Type 0 where
  pub within : i < length p.latches
  pub differs : get_or (next_values p (position p bs p.bound)) i false ≢ get_or (position p bs l).latches i false
  pub agree_before : (m : ℕ) → m < i → get_or (next_values p (position p bs p.bound)) m false ≡ get_or (position p bs l).latches m false
