-- Every latch passed is closed.
use Rattle.std.proofs.Common.{ℕ, ◌≡◌, ◌<◌, true}
use Rattle.values.specs.Values.{closed_at}
use Rattle.values.proofs.latches.first_open.Given as goal

abbrev pub invariant-loop-i : goal.invariant-loop-i
invariant-loop-i l = (j : ℕ) → j < l.i → closed_at l.p l.row l.there l.at j ≡ true
