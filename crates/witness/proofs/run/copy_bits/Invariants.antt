-- Before each turn the bytes passed are copied.
use Rattle.std.proofs.Common.{◌≡◌, ℕ, ◌<◌, false, get_or}
use lib.Dec.{eqb}
use Rattle.witness.proofs.run.copy_bits.Given as goal

abbrev pub invariant-loop-i : goal.invariant-loop-i
invariant-loop-i l = (k : ℕ) → k < l.i → get_or l.values k false ≡ eqb (get_or l.bytes k 0) 1
