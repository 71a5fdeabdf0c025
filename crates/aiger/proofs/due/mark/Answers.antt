-- What stands at the place tells what `mark` finds. Assumes nothing.
use mathlib.Core.Path.{sym, ◌∙◌}
use Rattle.aiger.proofs.DueLaws.{passes_on, mark_found}
use Rattle.aiger.proofs.due.mark.Goals as goal

pub returns : goal.returns
returns c = passes_on (mark_found _ _ _ (sym c.stands.ensures ∙ c.if-not-stands.false))
