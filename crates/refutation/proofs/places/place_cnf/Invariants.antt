-- The clauses before `place` are placed, and the next begins at `at`. Assumes nothing.
use Rattle.refutation.proofs.PlaceCnf.{ClausesPlaced}
use Rattle.refutation.proofs.places.place_cnf.Given as goal

abbrev pub invariant-loop-place : goal.invariant-loop-place
invariant-loop-place l = ClausesPlaced l.cnf l.at l.place-index l.place-items
