-- Each turn writes one more. Assumes nothing.
use Rattle.std.proofs.Common.{arith}
use Rattle.encoder.proofs.MachineLiterals.{literal_passed}
use Rattle.encoder.proofs.ForEachNumber.{singles, upto_none, upto_room, upto_more, upto_all}
use Rattle.encoder.proofs.nodes.selector_words.Goals as goal

pub loop-l-init : goal.loop-l-init
loop-l-init c = upto_none (rw singles at c.requires)

pub word-next-requires : goal.word-next-requires
word-next-requires c = omega (arith, upto_room c.loop-l.invariant (omega arith))

pub loop-l-preserved : goal.loop-l-preserved
loop-l-preserved c =
    upto_more c.loop-l.invariant (rw (literal_passed c.selector.ensures) at c.word-next.ensures)

pub returns-2 : goal.returns-2
returns-2 c =
    rw singles
    (upto_all (upto_more c.loop-l.invariant (rw (literal_passed c.selector.ensures) at c.word-next.ensures)) (omega arith))
