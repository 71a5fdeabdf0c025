-- Its own literal, two numbers below it, the end of the line. Assumes nothing.
use mathlib.Core.List.{[], ◌∷◌}
use Rattle.text.specs.Readings.{space}
use Rattle.aiger.specs.Texts.{below}
use Rattle.aiger.proofs.LinesLaws.{stops, passed, followed, all_followed, ends, all_end, lasts, kept_below}
use Rattle.aiger.proofs.lines.gate.Goals as goal

pub returns-in_err-exactly : goal.returns-in_err-exactly
returns-in_err-exactly c = stops c.from_residual.ensures.1 (ends _ (passed c.in_err-exactly.ensures))

pub returns-in_err-left : goal.returns-in_err-left
returns-in_err-left c =
    let own = c.args.own in
    stops c.from_residual-in_err-left.ensures.1
    (followed (passed c.in_ok-exactly.ensures) (all_end _ (space ∷ below own ∷ []) (kept_below own c.requires.0 c.in_err-left.ensures)))

pub returns-in_err-right : goal.returns-in_err-right
returns-in_err-right c =
    let own = c.args.own in
    stops c.from_residual-in_err-right.ensures.1
    (followed (passed c.in_ok-exactly.ensures)
    (all_followed (space ∷ below own ∷ []) (kept_below own c.requires.0 c.in_ok-left.ensures)
    (all_end _ (space ∷ below own ∷ []) (kept_below own c.requires.0 c.in_err-right.ensures))))

pub returns : goal.returns
returns c =
    let own = c.args.own in
    followed (passed c.in_ok-exactly.ensures)
    (all_followed (space ∷ below own ∷ []) (kept_below own c.requires.0 c.in_ok-left.ensures)
    (all_followed (space ∷ below own ∷ []) (kept_below own c.requires.0 c.in_ok-right.ensures) (lasts (passed c.mark.ensures))))
