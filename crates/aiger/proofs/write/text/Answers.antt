-- The header's line, then the lines of each kind. Assumes nothing.
use native.Mathlib.Omega.{arith}
use Rattle.aiger.proofs.LaidTexts.{text_laid}
use Rattle.aiger.proofs.write.text.Goals as goal

pub returns : goal.returns
returns c =
    text_laid c.args.s c.args.words.now c.args.out.now (omega arith)
    c.header-opened.auto.out c.header-opened.ensures
    c.lines-inputs.auto.out c.lines-inputs.ensures
    c.lines-latches.auto.out c.lines-latches.ensures
    c.lines-outputs.auto.out c.lines-outputs.ensures
    c.lines.auto.out c.lines.ensures
