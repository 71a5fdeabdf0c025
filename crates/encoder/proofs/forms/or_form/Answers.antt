-- One clause after the other. Assumes nothing.
use Rattle.encoder.proofs.OneAfterAnother.{wrote_then}
use Rattle.encoder.proofs.MachineLiterals.{word_is, negation_is}
use Rattle.encoder.proofs.forms.or_form.Goals as goal

pub returns : goal.returns
returns c =
    let x = c.requires.1 in
    let a = c.requires.2 in
    let b = c.requires.3 in
    simp (word_is, negation_is) at (wrote_then c.clause-second.ensures (wrote_then c.clause-third.ensures c.clause.ensures))
