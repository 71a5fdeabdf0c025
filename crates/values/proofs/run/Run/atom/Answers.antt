-- The part of the table is the position's row. Assumes nothing.
use Rattle.std.proofs.Common.{◌≡◌, ◌+◌, ◌-◌, ◌*◌, arith}
use Rattle.answers.specs.Limits.{inputs_limit, latches_limit, gates_limit}
use Rattle.values.specs.Tables.{row_width}
use Rattle.values.proofs.run.Run.atom.Goals as goal

pub returns : goal.returns
unfolding row_width inputs_limit latches_limit gates_limit
returns c =
    let wide : c.args.i * 1153 + 1153 - c.args.i * 1153 ≡ 1153 = omega arith in
    rw wide at c.literal.ensures
