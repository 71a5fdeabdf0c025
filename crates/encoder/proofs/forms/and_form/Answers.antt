-- The form is the dual of the one that is written. Assumes nothing.
use Rattle.meaning.proofs.Duals.{and_is_dual}
use Rattle.encoder.proofs.OneAfterAnother.{wrote_by}
use Rattle.encoder.proofs.MachineLiterals.{word_is, negation_is}
use Rattle.encoder.proofs.forms.and_form.Goals as goal

pub returns : goal.returns
returns c =
    let x = c.requires.1 in
    let a = c.requires.2 in
    let b = c.requires.3 in
    wrote_by (and_is_dual c.args.x c.args.a c.args.b) (simp (word_is, negation_is) at c.or_form.ensures)
