-- One node more, by its op. Assumes nothing.
use Rattle.std.proofs.Common.{◌∙◌, ap}
use Rattle.meaning.specs.Problem.{atom}
use Rattle.meaning.proofs.ClosedForms.{has_equal_form, has_or_form, has_until_form}
use Rattle.problem.proofs.CountingOneMore.{taken_by}
use Rattle.problem.proofs.count.by_form.Goals as goal

pub loop-n-preserved : goal.loop-n-preserved
loop-n-preserved c =
    let xs = c.args.p.now.nodes in
    let n = c.loop-n.n in
    let read = c.op-op.ensures in
    let l = rw c.nodes-n-end.ensures at c.loop-n-test.true in
    let so-far = c.loop-n.invariant in
    record {
      equals_are = taken_by has_equal_form xs n (atom 0) l so-far.equals_are c.from.ensures (c.is_equal.ensures read.0 read.1 ∙ ap has_equal_form read.2);
      ors_are = taken_by has_or_form xs n (atom 0) l so-far.ors_are c.from-in-loop-n.ensures (c.is_or.ensures read.0 read.1 ∙ ap has_or_form read.2);
      untils_are = taken_by has_until_form xs n (atom 0) l so-far.untils_are c.from-in-loop-n-2.ensures (c.is_until.ensures read.0 read.1 ∙ ap has_until_form read.2);
    }
