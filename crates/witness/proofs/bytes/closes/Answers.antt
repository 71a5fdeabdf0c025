-- The first open latch is the first that document 01's checks refuse. Assumes nothing.
use Rattle.std.proofs.Common.{◌≡◌, suc, ◌*◌, refl, arith}
use Rattle.answers.specs.Limits.{inputs_limit, latches_limit, gates_limit, bound_limit}
use Rattle.meaning.specs.Witnesses.{byte}
use Rattle.values.specs.Tables.{row_width}
use Rattle.values.proofs.RowLaws.{lent}
use Rattle.witness.proofs.Parts.{open_refused, none_open}
use Rattle.witness.proofs.bytes.closes.Goals as goal
use Rattle.witness.proofs.bytes.closes.Goals.{After-first_open}

starts : (c : After-first_open) → byte c.args.witness.now 0 ≡ suc c.in-Some.start
starts c = omega (arith, c.in-Some.ensures, c.from.ensures)

pub slice_bounds-first_open-end : goal.slice_bounds-first_open-end
unfolding inputs_limit latches_limit gates_limit row_width bound_limit
slice_bounds-first_open-end c = omega (arith, c.shown.ensures.proper.bound_within)

pub returns-in-Some-first_open : goal.returns-in-Some-first_open
unfolding inputs_limit latches_limit gates_limit row_width
returns-in-Some-first_open c =
    let f = rw (c.shown.ensures.is, lent (c.bound.result * row_width), c.bound.ensures.is, c.inputs.ensures.is) at c.in-Some-first_open.ensures in
    open_refused c.shown.ensures.proper c.requires (starts (goal.at.returns-in-Some-first_open c).After-first_open) f.0 f.1

pub returns-in-None : goal.returns-in-None
unfolding inputs_limit latches_limit gates_limit row_width
returns-in-None c =
    let f = rw (c.shown.ensures.is, lent (c.bound.result * row_width), c.bound.ensures.is, c.inputs.ensures.is) at c.in-None.ensures in
    none_open c.shown.ensures.proper c.requires (starts (goal.at.returns-in-None c).After-first_open) refl f
