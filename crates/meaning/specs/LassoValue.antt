-- What the judge computes of a lasso. That it is the meaning on the endless path is proved (`lasso_value`), so it need not be believed.
-- Assumes nothing.
use Rattle.std.specs.Prelude.{Bool, true, false, ◌&&◌, ◌||◌, List, [], ◌∷◌, ℕ, zero, suc}
use Rattle.meaning.specs.Runs.{literal_value}
use Rattle.meaning.specs.Formulas.{Formula, atom, both, either, next, until, release}
use Rattle.meaning.specs.Bounded.{Shape, prefix, lasso, after, prefix_value}

-- The next so many positions from i on, i among them.
abbrev pub onward : ℕ → ℕ → ℕ → ℕ → List ℕ
onward l k zero i = []
onward l k (suc n) i = i ∷ onward l k n (after l k i)

-- U and R unfolded over positions as now-and-next; past them stands the end.
abbrev pub until_over : (ℕ → Bool) → (ℕ → Bool) → Bool → List ℕ → Bool
until_over f g end [] = end
until_over f g end (i ∷ is) = g i || (f i && until_over f g end is)

abbrev pub release_over : (ℕ → Bool) → (ℕ → Bool) → Bool → List ℕ → Bool
release_over f g end [] = end
release_over f g end (i ∷ is) = g i && (f i || release_over f g end is)

-- The formula's value at position i of a lasso. k + 1 positions meet each that comes at all; past them U is false and R true.
abbrev pub loop_value : ℕ → ℕ → (ℕ → List Bool) → Formula → ℕ → Bool
loop_value l k rows (atom x) i = literal_value (rows i) x
loop_value l k rows (both f g) i = loop_value l k rows f i && loop_value l k rows g i
loop_value l k rows (either f g) i = loop_value l k rows f i || loop_value l k rows g i
loop_value l k rows (next f) i = loop_value l k rows f (after l k i)
loop_value l k rows (until f g) i = until_over (loop_value l k rows f) (loop_value l k rows g) false (onward l k (suc k) i)
loop_value l k rows (release f g) i = release_over (loop_value l k rows f) (loop_value l k rows g) true (onward l k (suc k) i)

-- What the judge computes: of a prefix the bounded meaning itself.
abbrev pub bounded_value : Shape → ℕ → (ℕ → List Bool) → Formula → ℕ → Bool
bounded_value prefix = prefix_value
bounded_value (lasso l) = loop_value l
