-- All bytes are copied. Assumes nothing.
use Rattle.std.proofs.Common.{arith}
use Rattle.witness.proofs.RowParts.{bits_if}
use Rattle.witness.proofs.run.copy_bits.Goals as goal

pub returns : goal.returns
returns c = bits_if c.args.bytes.now c.loop-i.values (omega (arith, c.loop-i.auto.values)) (λ k h. c.loop-i.invariant k (omega arith))
