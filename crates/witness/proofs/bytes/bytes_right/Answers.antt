-- The length, then the bytes. Assumes nothing.
use Rattle.std.proofs.Common.{refl, ◌∙◌, sym, eq-eqb}
use borrow.Author.Tests.{ne_eqb}
use Rattle.values.proofs.FirstOpen.{length_is}
use Rattle.witness.proofs.Checks.{none_yet, fail_one, after_one}
use Rattle.witness.proofs.bytes.bytes_right.Goals as goal

pub returns-then-witness-witness_length : goal.returns-then-witness-witness_length
returns-then-witness-witness_length c =
    let long = (rw (c.shown.ensures.is) at c.witness_length.ensures) ∙ length_is _ c.shown.ensures.proper.inputs_within c.shown.ensures.proper.latches_within c.shown.ensures.proper.bound_within in
    fail_one none_yet refl (ne_eqb _ _ (λ e. c.if-witness-witness_length.true (e ∙ sym long))) refl

pub returns : goal.returns
returns c =
    let long = (rw (c.shown.ensures.is) at c.witness_length.ensures) ∙ length_is _ c.shown.ensures.proper.inputs_within c.shown.ensures.proper.latches_within c.shown.ensures.proper.bound_within in
    after_one (eq-eqb _ _ (c.if-witness-witness_length.false ∙ long)) c.each_byte.ensures
