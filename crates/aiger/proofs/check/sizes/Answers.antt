-- Each size passed its limit. Assumes nothing.
use Rattle.answers.specs.Limits.{inputs_limit, latches_limit, gates_limit, outputs_limit}
use Rattle.aiger.proofs.CheckedCircuit.{within_if_passed}
use Rattle.aiger.proofs.check.sizes.Goals as goal

pub invariant_of-result : goal.invariant_of-result
unfolding inputs_limit latches_limit gates_limit outputs_limit
invariant_of-result c =
    let ws = c.args.words.now in
    record {
      inputs_within = rw c.word_at.ensures (within_if_passed ws 0 inputs_limit c.in_ok-limit.ensures);
      latches_within = rw c.word_at-2.ensures (within_if_passed ws 1 latches_limit c.in_ok-limit-2.ensures);
      gates_within = rw c.word_at-3.ensures (within_if_passed ws 2 gates_limit c.in_ok-limit-3.ensures);
      outputs_within = rw c.word_at-4.ensures (within_if_passed ws 3 outputs_limit c.in_ok-limit-4.ensures);
    }
