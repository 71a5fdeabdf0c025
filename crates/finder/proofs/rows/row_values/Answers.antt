-- Variable 0 and the bits of the position, then the gates over them. Assumes nothing.
use Rattle.std.proofs.Common.{◌≡◌, ℕ, ◌+◌, ◌*◌, ◌≤◌, ◌∙◌, ◌++◌, false, ap, length, take, set, length-set, arith}
use lib.Seq.{length-take-le}
use Rattle.answers.specs.Limits.{inputs_limit, latches_limit, gates_limit}
use Rattle.values.proofs.Copies.{sets_there}
use Rattle.values.proofs.RowLaws.{lent}
use Rattle.values.specs.Tables.{row_width}
use Rattle.finder.proofs.RunValues.{row_there}
use Rattle.finder.proofs.rows.row_values.Goals as goal

pub returns : goal.returns
unfolding inputs_limit latches_limit gates_limit row_width
returns c =
    let p = c.args.p.now in
    let proper = c.shown.ensures.proper in
    let from : ℕ = c.args.t * row_width in
    let given : ℕ = p.inputs + length p.latches in
    let table = c.args.table.now in
    let room : from + row_width ≤ length table = omega arith in
    let there : given ≤ length c.args.row.now = omega (arith, proper.inputs_within, proper.latches_within) in
    let same : length c.copy.new.table ≡ length table = c.copy.auto.table ∙ simp length-set in
    let copied : take (from + 1 + given) c.copy.new.table ≡ take (from + 1) (set table from false) ++ take given c.args.row.now =
    ap (take (from + 1 + given)) (rw (c.inputs.ensures.is, c.latches.ensures.is) at c.copy.ensures)
    ∙ sets_there (set table from false) (from + 1) _ (length-take-le given c.args.row.now there)
    (simp length-set (omega (arith, proper.inputs_within, proper.latches_within))) in
    row_there proper from _ table c.copy.new.table room same copied c.gates.new.row _
    (rw (lent from) at (rw c.shown.ensures.is at c.gates.ensures))
