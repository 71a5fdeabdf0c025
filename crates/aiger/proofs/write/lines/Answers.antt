-- The lines laid and one more. Assumes nothing.
use native.Mathlib.Omega.{arith}
use Rattle.aiger.specs.Writes.{line_of}
use Rattle.aiger.proofs.LaidTexts.{nothing_laid, laid_one_more}
use Rattle.aiger.proofs.write.lines.Goals as goal

pub loop-i-init : goal.loop-i-init
loop-i-init c = nothing_laid (omega arith) (omega arith)

pub loop-i-preserved : goal.loop-i-preserved
loop-i-preserved c =
    laid_one_more (line_of c.args.kind c.args.s c.args.words.now) c.loop-i.i c.loop-i.invariant c.line-next.auto.out c.line-next.ensures
