-- The form is the dual of the one that is written. Assumes nothing.
use Rattle.meaning.proofs.Duals.{release_is_dual}
use Rattle.encoder.proofs.OneAfterAnother.{wrote_by}
use Rattle.encoder.proofs.MachineLiterals.{word_is, negation_is}
use Rattle.encoder.proofs.forms.release_form.Goals as goal

pub returns : goal.returns
returns c =
    let x = c.requires.1 in
    let a = c.requires.2 in
    let b = c.requires.3 in
    let y = c.requires.4 in
    wrote_by (release_is_dual c.args.x c.args.a c.args.b c.args.y) (simp (word_is, negation_is) at c.until_form.ensures)
