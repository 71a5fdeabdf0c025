-- Each answer is that of the first part that refuses. Assumes nothing.
use Rattle.std.proofs.Common.{refl}
use Rattle.answers.specs.Limits.{inputs_limit, latches_limit, gates_limit, bound_limit}
use Rattle.values.specs.Tables.{row_width}
use Rattle.witness.proofs.Checks.{part_refuses, part_passes, at_refusal}
use Rattle.witness.proofs.Judging.{length_right, start_right, judged}
use Rattle.witness.proofs.judge.judge_good.Goals as goal

pub returns-in_err-bytes_right : goal.returns-in_err-bytes_right
returns-in_err-bytes_right c = judged _ _ (at_refusal c.from_residual.ensures.1 (part_refuses _ _ c.in_err-bytes_right.ensures))

pub resets-requires : goal.resets-requires
resets-requires c = length_right c.args.p.now c.args.witness.now c.in_ok-bytes_right.ensures

pub returns-in_err-resets : goal.returns-in_err-resets
returns-in_err-resets c =
    judged _ _
    (at_refusal c.from_residual-in_err-resets.ensures.1 (part_passes _ _ c.in_ok-bytes_right.ensures (part_refuses _ _ c.in_err-resets.ensures)))

pub run-requires : goal.run-requires
unfolding inputs_limit latches_limit gates_limit bound_limit row_width
run-requires c = (length_right c.args.p.now c.args.witness.now c.in_ok-bytes_right.ensures, refl)

pub shown-requires : goal.shown-requires
shown-requires c = record {
  long = length_right c.args.p.now c.args.witness.now c.in_ok-bytes_right.ensures;
  start_within = start_right c.args.p.now c.args.witness.now c.in_ok-bytes_right.ensures;
  right = c.run.ensures;
}

pub returns : goal.returns
returns c = judged _ _ (part_passes _ _ c.in_ok-bytes_right.ensures (part_passes _ _ c.in_ok-resets.ensures c.shown.ensures))
