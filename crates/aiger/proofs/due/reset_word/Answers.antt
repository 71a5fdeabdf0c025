-- The number that stands there is kept as a reset, or it is none. Assumes nothing.
use mathlib.Core.Logic.{⊎_elim, inl, inr}
use Rattle.aiger.proofs.DueLaws.{exit, reset_none, reset_wrong, reset_found}
use Rattle.aiger.proofs.due.reset_word.Goals as goal

pub returns-in_err-n : goal.returns-in_err-n
returns-in_err-n c = rw (exit c.from_residual.ensures.1) (reset_none _ c.in_err-n.ensures)

pub returns-then-n-gt1 : goal.returns-then-n-gt1
returns-then-n-gt1 c = reset_wrong _ c.in_ok-n.ensures c.if-n-own.true c.if-n-gt1.true

pub returns : goal.returns
returns c =
    reset_found _ c.in_ok-n.ensures c.requires (⊎_elim (λ a. inr a.1) inl c.else-n-own.either) (rw c.as_reset.ensures at c.keep.ensures)
