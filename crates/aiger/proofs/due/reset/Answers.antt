-- A newline, which tells 0; or a space, the reset and a newline. Assumes nothing.
use mathlib.Core.Path.{sym, ◌∙◌}
use Rattle.aiger.proofs.DueLaws.{newline_kept, reset_told}
use Rattle.aiger.proofs.LinesLaws.{stops, passed, followed, ends, lasts}
use Rattle.aiger.proofs.due.reset.Goals as goal

pub returns-then-stands : goal.returns-then-stands
returns-then-stands c = newline_kept _ c.requires (sym c.stands.ensures ∙ c.if-stands.true) c.keep.ensures

pub returns-in_err-spaced : goal.returns-in_err-spaced
returns-in_err-spaced c =
    stops c.from_residual.ensures.1
    (reset_told _ (sym c.stands.ensures ∙ c.if-stands.false) (ends _ (passed c.in_err-spaced.ensures)))

pub returns-in_err-read : goal.returns-in_err-read
returns-in_err-read c =
    stops c.from_residual-in_err-read.ensures.1
    (reset_told _ (sym c.stands.ensures ∙ c.if-stands.false) (followed (passed c.in_ok-spaced.ensures) (ends _ c.in_err-read.ensures)))

pub returns : goal.returns
returns c =
    reset_told _ (sym c.stands.ensures ∙ c.if-stands.false)
    (followed (passed c.in_ok-spaced.ensures) (followed c.in_ok-read.ensures (lasts (passed c.mark-2.ensures))))
