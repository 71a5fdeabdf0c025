-- Each turn writes one literal more, and the 0 comes after them. Assumes nothing.
use Rattle.std.proofs.Common.{rules, pos, get_or, w32}
use mir.Val.{SFits}
use mir.Facts.{to_z-of_z}
use Rattle.std.proofs.lemmas.List.{take_more, take_all}
use Rattle.encoder.proofs.OneAfterAnother.{wrote_then}
use Rattle.encoder.proofs.write.clause.Goals as goal

pub loop-x-preserved : goal.loop-x-preserved
loop-x-preserved c =
    let fits : SFits w32 (get_or c.args.literals.now c.loop-x.x-index (pos 0)) = search rules in
    rw (take_more c.args.literals.now c.loop-x.x-index (pos 0) c.loop-x-test.true)
    (wrote_then c.loop-x.invariant (rw (to_z-of_z fits) at c.word-next.ensures))

pub returns : goal.returns
returns c =
    wrote_then (rw (take_all _ _ c.loop-x-test.false) at c.loop-x.invariant) c.word.ensures
