-- There are few latches and few inputs. Assumes nothing.
use Rattle.std.proofs.Common.{◌+◌, ◌≤◌, take, arith, length-take, mul-le-mul}
use Rattle.answers.specs.Limits.{inputs_limit, latches_limit, bound_limit}
use Rattle.answers.proofs.Tests.{those_few}
use Rattle.finder.specs.Calls.{is_free}
use Rattle.finder.proofs.bits.open_bytes.Goals as goal

pub overflow_add-bits-then-latch_reset-eq-FREE : goal.overflow_add-bits-then-latch_reset-eq-FREE
unfolding inputs_limit latches_limit bound_limit
overflow_add-bits-then-latch_reset-eq-FREE c =
    let p = c.args.p.now in
    let proper = c.inputs.ensures.proper in
    let positions : p.bound + 1 ≤ bound_limit + 1 = omega (arith, proper.bound_within) in
    omega (arith, c.loop-i.invariant, those_few is_free (take c.loop-i.i p.latches), length-take c.loop-i.i p.latches, mul-le-mul proper.inputs_within positions, proper.latches_within)
