-- `place_cnf` meets its contract. Assumes nothing.
use Rattle.std.proofs.Common.{arith}
use Rattle.refutation.proofs.PlaceCnf.{placed_more}
use Rattle.refutation.proofs.places.place_cnf.Goals as goal

pub loop-place-preserved : goal.loop-place-preserved
loop-place-preserved c = placed_more c.loop-place.invariant c.requires.0 (omega arith) c.clause_at.ensures (omega arith)
