-- A run that breaks a constraint is no witness, whatever its first byte. Assumes nothing.
use Rattle.finder.proofs.Accepted.{broken_refused}
use Rattle.finder.proofs.search.tried.Goals as goal

pub returns-then-not-run_values : goal.returns-then-not-run_values
returns-then-not-run_values c =
    let valued = c.run_values.ensures in
    (λ b l. broken_refused c.args.p.now c.args.m (valued.2 c.if-not-run_values.true) b, valued.0)

pub returns : goal.returns
returns c =
    let valued = c.run_values.ensures in
    (c.lowest.ensures c.args.m (valued.1 c.if-not-run_values.false), valued.0)
