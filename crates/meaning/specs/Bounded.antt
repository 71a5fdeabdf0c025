-- Document 01, "Runs and meaning": a lasso's endless path, and the bounded meaning on a prefix. Assumes nothing.
use Rattle.std.specs.Prelude.{Bool, false, ◌&&◌, ◌||◌, cond, List, ℕ, zero, suc, ◌-◌, eqb, leb}
use Rattle.meaning.specs.Runs.{literal_value}
use Rattle.meaning.specs.Formulas.{Formula, atom, both, either, next, until, release}

-- "A lasso with start l", or "a prefix has no loop".
pub data Shape : Type 0 where
  prefix : Shape
  lasso : ℕ → Shape

-- ════════ The endless path of a lasso ════════

-- The position after i of a lasso with start l: i + 1, and l after k.
abbrev pub after : ℕ → ℕ → ℕ → ℕ
after l k i = cond (eqb i k) l (suc i)

-- "Its endless path is 0..k, then l..k for ever": the position of the run that stands at t on the path.
abbrev pub looped : ℕ → ℕ → ℕ → ℕ
looped l k zero = 0
looped l k (suc t) = after l k (looped l k t)

-- ════════ A prefix ════════

-- "values past k are false"
abbrev pub up_to : ℕ → ℕ → Bool → Bool
up_to k i b = leb i k && b

-- "F, G, U, R unfold as now-and-next": U is g now, or f now and the same next, over the n positions from i on; past them it is false.
abbrev pub until_for : (ℕ → Bool) → (ℕ → Bool) → ℕ → ℕ → Bool
until_for f g zero i = false
until_for f g (suc n) i = g i || (f i && until_for f g n (suc i))

-- R is g now, and f now or the same next.
abbrev pub release_for : (ℕ → Bool) → (ℕ → Bool) → ℕ → ℕ → Bool
release_for f g zero i = false
release_for f g (suc n) i = g i && (f i || release_for f g n (suc i))

-- The formula's value at position i of a prefix, given the values of the variables at each position; i..k are k + 1 - i positions.
abbrev pub prefix_value : ℕ → (ℕ → List Bool) → Formula → ℕ → Bool
prefix_value k rows (atom x) i = up_to k i (literal_value (rows i) x)
prefix_value k rows (both f g) i = up_to k i (prefix_value k rows f i && prefix_value k rows g i)
prefix_value k rows (either f g) i = up_to k i (prefix_value k rows f i || prefix_value k rows g i)
prefix_value k rows (next f) i = up_to k i (prefix_value k rows f (suc i))
prefix_value k rows (until f g) i = until_for (prefix_value k rows f) (prefix_value k rows g) (suc k - i) i
prefix_value k rows (release f g) i = release_for (prefix_value k rows f) (prefix_value k rows g) (suc k - i) i
