-- The lines passed and one more; a fault in it is the whole's. Assumes nothing.
use mathlib.Core.Path.{◌∙◌}
use native.Mathlib.Omega.{arith}
use Rattle.aiger.specs.Reads.{due_of}
use Rattle.aiger.proofs.LinesLaws.{stops, one_line_more, line_ends}
use Rattle.aiger.proofs.lines.lines.Goals as goal

pub returns-in_err-now : goal.returns-in_err-now
returns-in_err-now c =
    stops c.from_residual.ensures.1
    (line_ends (due_of c.args.kind c.args.s) c.loop-i.i c.loop-i.invariant.0 _ (omega arith) c.in_err-now.ensures)

pub loop-i-preserved : goal.loop-i-preserved
loop-i-preserved c =
    (one_line_more (due_of c.args.kind c.args.s) c.loop-i.i c.loop-i.invariant.0 c.in_ok-now.ensures, c.line.auto.table ∙ c.loop-i.invariant.1)
