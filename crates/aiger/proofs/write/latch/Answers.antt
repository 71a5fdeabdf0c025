-- Its own literal, then the rest of the line. Assumes nothing.
use native.Mathlib.Omega.{arith}
use Rattle.text.specs.Readings.{space_byte}
use Rattle.aiger.proofs.LaidTexts.{nothing_laid, laid_put, laid_then, put_as}
use Rattle.aiger.proofs.write.latch.Goals as goal

pub returns : goal.returns
returns c =
    let none = nothing_laid {at = c.args.at} {o = c.args.out.now} (omega arith) (omega arith) in
    let owned = laid_put none c.put_ended-parted.auto.out (put_as space_byte c.latch_literal-own.ensures c.put_ended-parted.ensures) in
    let rest =
    rw (c.word_at.ensures, c.word_at-2.ensures, c.latch_literal-own.ensures, c.latch_place-from.ensures) at c.next_and_reset.ensures in
    (laid_then owned c.next_and_reset.auto.out rest).lays
