-- No node is valued where a latch is open. Assumes nothing.
use Rattle.std.proofs.Common.{◌≡◌, ◌-◌, [], get_or, arith}
use Rattle.values.specs.Tables.{row_in}
use Rattle.finder.proofs.ShownRuns.{not_closed, all_closed, closed_later}
use Rattle.finder.proofs.first.is_witness.Goals as goal
use Rattle.finder.proofs.first.is_witness.Goals.{then-first-gt0+else-is_some, else-first-gt0}

pub returns-then-is_some : goal.returns-then-is_some
returns-then-is_some c =
    let p = c.args.p.now in
    let run = c.args.run.now in
    let first = c.args.first in
    let found = rw (c.shown.ensures.is, c.inputs.ensures.is, c.row_of-last.ensures, c.bound.ensures.is) at c.first_open.ensures in
    let none = not_closed p (row_in c.args.table.now p.bound) (get_or run (first - 1) []) p.inputs c.first_open.result found c.if-is_some.ensures in
    rw (closed_later p run c.args.table.now first c.if-first-gt0.true, ← none)

pub returns : goal.returns
returns c =
    let p = c.args.p.now in
    let run = c.args.run.now in
    let first = c.args.first in
    let value = rw c.shown-2.ensures.is at c.formula_value.ensures in
    elim c.if-first-gt0.branch [
      | then-first-gt0+else-is_some w ↦
          let found = rw (w.shown.ensures.is, w.inputs.ensures.is, w.row_of-last.ensures, w.bound.ensures.is) at w.first_open.ensures in
          let all = all_closed p (row_in c.args.table.now p.bound) (get_or run (first - 1) []) p.inputs w.first_open.result found w.if-is_some.ensures in
          rw (closed_later p run c.args.table.now first w.if-first-gt0.true, ← all) value
      | else-first-gt0 w ↦ let none : first ≡ 0 = omega arith in rw none (rw none at value)
    ]
