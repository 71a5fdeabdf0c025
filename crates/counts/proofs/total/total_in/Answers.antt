use Rattle.std.proofs.Common.{◌≡◌, ◌*◌, ◌-◌, suc, arith}
use Rattle.counts.proofs.total.total_in.Goals as goal

pub returns : goal.returns
returns c = λ weight h.
    let k = c.args.t.positions in
    let pairs : c.at_each-pairs.result ≡ k * (k - 1) = omega arith in
    let selectors = rw pairs at c.at_each-selectors_item.ensures.is in
    rw (h 1, h 2, h 3, h (suc k)) (omega (arith, selectors))
