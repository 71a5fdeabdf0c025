-- Its own literal, the next one and the reset. Assumes nothing.
use mathlib.Core.List.{[], ◌∷◌}
use Rattle.text.specs.Readings.{space, at_most}
use Rattle.aiger.proofs.LinesLaws.{stops, passed, followed, all_followed, ends, all_end, lasts}
use Rattle.aiger.proofs.lines.latch.Goals as goal

pub returns-in_err-exactly : goal.returns-in_err-exactly
returns-in_err-exactly c = stops c.from_residual.ensures.1 (ends _ (passed c.in_err-exactly.ensures))

pub returns-in_err-next : goal.returns-in_err-next
returns-in_err-next c =
    stops c.from_residual-in_err-next.ensures.1
    (followed (passed c.in_ok-exactly.ensures) (all_end _ (space ∷ at_most c.args.most ∷ []) c.in_err-next.ensures))

pub returns : goal.returns
returns c =
    followed (passed c.in_ok-exactly.ensures) (all_followed (space ∷ at_most c.args.most ∷ []) c.in_ok-next.ensures (lasts c.reset.ensures))
