-- The part of the table is the position's row. Assumes nothing.
use Rattle.std.proofs.Common.{◌*◌}
use Rattle.answers.specs.Limits.{inputs_limit, latches_limit, gates_limit}
use Rattle.values.specs.Tables.{row_width}
use Rattle.values.proofs.RowLaws.{lent}
use Rattle.finder.proofs.rows.row_of.Goals as goal

pub returns : goal.returns
unfolding inputs_limit latches_limit gates_limit row_width
returns c = rw (lent (c.args.t * row_width))
