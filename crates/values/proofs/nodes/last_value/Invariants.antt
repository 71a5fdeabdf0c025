-- The nodes before n have their rows.
use Rattle.std.proofs.Common.{◌<◌, ℕ, [], slice_index_or}
use Rattle.values.specs.Nodes.{RowOf}
use Rattle.values.proofs.nodes.last_value.Given as goal

abbrev pub invariant-loop-n : goal.invariant-loop-n
invariant-loop-n l = (m : ℕ) → m < l.n → RowOf l.p l.run m (slice_index_or l.t m [])
