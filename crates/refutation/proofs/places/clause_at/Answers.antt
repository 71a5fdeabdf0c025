-- `clause_at` meets its contract. Assumes nothing.
use Rattle.std.proofs.Common.{sym, ◌∙◌}
use Rattle.refutation.proofs.ClausePlaces.{clause_to_0, clause_to_end}
use Rattle.refutation.proofs.places.clause_at.Goals as goal

pub returns-in-Some : goal.returns-in-Some
returns-in-Some c = clause_to_0 _ _ c.requires (sym c.first_0.ensures ∙ c.in-Some.is)

pub returns-in-None : goal.returns-in-None
returns-in-None c = clause_to_end _ _ c.requires (sym c.first_0.ensures ∙ c.in-None.is)
