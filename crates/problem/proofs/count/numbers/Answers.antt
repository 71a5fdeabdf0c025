-- What is counted is the tally of the problem, and its closed forms are the numbers of the CNF. Assumes nothing.
use Rattle.std.proofs.Common.{◌∙◌}
use Rattle.counts.proofs.Counted.{closed_forms_are}
use Rattle.problem.proofs.count.numbers.Goals as goal

pub returns : goal.returns
returns c =
    let forms = c.by_form-forms.ensures in
    c.counts.ensures
    ∙ rw (c.bound.ensures, c.requires.1, c.latches.ensures, c.fixed.ensures, c.gates.ensures, c.constraints.ensures, forms.equals_are, forms.ors_are, forms.untils_are)
    (closed_forms_are c.args.p.now c.requires.0)
