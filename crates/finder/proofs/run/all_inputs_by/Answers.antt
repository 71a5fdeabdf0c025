-- The inputs of a position take the lowest digits that are left. Assumes nothing.
use Rattle.std.proofs.Common.{◌≡◌, ◌+◌, ◌-◌, refl, arith}
use Rattle.answers.specs.Limits.{inputs_limit, latches_limit, bound_limit}
use Rattle.finder.proofs.Filling.{one_position, all_above}
use Rattle.finder.proofs.run.all_inputs_by.Goals as goal

pub inputs_by-rest-requires : goal.inputs_by-rest-requires
unfolding inputs_limit latches_limit bound_limit
inputs_by-rest-requires c = omega (arith, c.loop-t.invariant.held.bits_there c.loop-t.t (omega arith), c.inputs.ensures.proper.inputs_within)

pub loop-t-preserved : goal.loop-t-preserved
loop-t-preserved c =
    let t : c.loop-t.t - 1 + 1 ≡ c.loop-t.t = omega arith in
    let bits = rw c.inputs.ensures.is at c.inputs_by-rest.ensures in
    rw t (one_position c.loop-t.invariant c.inputs.ensures.proper.bound_within c.loop-t.t refl _ c.inputs_by-rest.auto.row bits.0 bits.1)

pub returns-2 : goal.returns-2
returns-2 c =
    let bits = rw c.inputs.ensures.is at c.inputs_by-rest.ensures in
    let all = one_position c.loop-t.invariant c.inputs.ensures.proper.bound_within c.loop-t.t refl _ c.inputs_by-rest.auto.row bits.0 bits.1 in
    (all_above all (omega arith), all.held, λ t i h l. all.there t i (omega arith) h l)
