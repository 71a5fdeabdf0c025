-- Three numbers, one after another. Assumes nothing.
use native.Mathlib.Omega.{arith}
use Rattle.text.specs.Readings.{space_byte, newline_byte}
use Rattle.aiger.proofs.LaidTexts.{nothing_laid, laid_put, put_as}
use Rattle.aiger.proofs.write.gate.Goals as goal

pub returns : goal.returns
returns c =
    let none = nothing_laid {at = c.args.at} {o = c.args.out.now} (omega arith) (omega arith) in
    let owned = laid_put none c.put_ended-owned.auto.out (put_as space_byte c.gate_literal.ensures c.put_ended-owned.ensures) in
    let left = put_as space_byte (rw c.gate_place-from.ensures at c.word_at.ensures) c.put_ended-parted.ensures in
    let right = put_as newline_byte (rw c.gate_place-from.ensures at c.word_at-2.ensures) c.put_ended.ensures in
    (laid_put (laid_put owned c.put_ended-parted.auto.out left) c.put_ended.auto.out right).lays
