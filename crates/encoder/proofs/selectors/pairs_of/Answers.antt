-- What is written for each of the selectors after `l` is the whole. Assumes nothing.
use Rattle.std.proofs.Common.{rules}
use Rattle.encoder.specs.ItemParts.{pair_after}
use Rattle.encoder.proofs.ForEachNumber.{from_0}
use Rattle.encoder.proofs.selectors.pairs_of.Goals as goal

pub each-requires : goal.each-requires
each-requires c =
    let l = c.requires.0 in
    (pair_after c.args.p.now c.args.l, search rules, rw c.bound.ensures.is (rw from_0 at c.requires.1))

pub returns : goal.returns
returns c =
    let l = c.requires.0 in
    rw from_0 (rw c.bound.ensures.is at (c.each.ensures (pair_after c.args.p.now c.args.l) (search rules) (rw c.bound.ensures.is (rw from_0 at c.requires.1))))
