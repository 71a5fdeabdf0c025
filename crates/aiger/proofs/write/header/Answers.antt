-- Six parts, one after another. Assumes nothing.
use native.Mathlib.Omega.{arith}
use Rattle.text.specs.Readings.{space_byte}
use Rattle.aiger.proofs.LaidTexts.{nothing_laid, laid_put, put_as}
use Rattle.aiger.proofs.write.header.Goals as goal

pub returns : goal.returns
returns c =
    let none = nothing_laid {at = 0} {o = c.args.out.now} (omega arith) (omega arith) in
    let named = laid_put none c.put_bytes-named.auto.out c.put_bytes-named.ensures in
    let m = laid_put named c.put_ended-m.auto.out (put_as space_byte (rw (← c.s.view_is) at c.width.ensures) c.put_ended-m.ensures) in
    let inputs = laid_put m c.put_ended-inputs.auto.out c.put_ended-inputs.ensures in
    let latches = laid_put inputs c.put_ended-latches.auto.out c.put_ended-latches.ensures in
    let outputs = laid_put latches c.put_ended-outputs.auto.out c.put_ended-outputs.ensures in
    rw (← c.s.view_is) (laid_put outputs c.put_ended.auto.out c.put_ended.ensures).lays
