-- `clause` meets its contract. Assumes nothing.
use Rattle.std.proofs.Common.{◌∙◌}
use Rattle.refutation.proofs.KnownClauses.{hint_in_refutation}
use Rattle.refutation.proofs.places.Known.clause.Goals as goal

pub clause_at-requires-else-number-self : goal.clause_at-requires-else-number-self
clause_at-requires-else-number-self c =
    (hint_in_refutation c.args.self.now.standing c.args.number c.requires.0 c.requires.1 c.if-number-self.false).0

pub returns-else-number-self : goal.returns-else-number-self
returns-else-number-self c =
    c.clause_at-else-number-self.ensures
    ∙ (hint_in_refutation c.args.self.now.standing c.args.number c.requires.0 c.requires.1 c.if-number-self.false).1
