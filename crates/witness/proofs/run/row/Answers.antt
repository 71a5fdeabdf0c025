-- The inputs, the latches, then the gates over both. Assumes nothing.
use Rattle.std.proofs.Common.{◌++◌, ap, ◌∙◌}
use Rattle.meaning.specs.Witnesses.{position}
use Rattle.witness.proofs.RowParts.{row_there}
use Rattle.witness.proofs.run.row.Goals as goal

pub returns : goal.returns
returns c =
    let given = c.latches.ensures ∙ ap (λ vs. vs ++ (position c.args.p.now c.args.witness.now c.args.t).latches) c.inputs.ensures in
    rw (rw (c.shown.ensures.is) at c.gates.ensures)
    (row_there c.shown.ensures.proper c.requires.ready c.latches.new.row (c.latches.auto.row ∙ c.inputs.auto.row) given)
