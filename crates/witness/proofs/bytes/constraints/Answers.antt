-- What the code tests of a position is what is checked of it, of any witness that shows the table. Assumes nothing.
use Rattle.std.proofs.Common.{◌≡◌, List, ℕ, ◌+◌, ◌<◌, ◌*◌, refl, sym, ◌∙◌, arith}
use Rattle.answers.specs.Limits.{inputs_limit, latches_limit, gates_limit, bound_limit}
use Rattle.values.specs.Tables.{row_width}
use Rattle.values.proofs.RowLaws.{lent, constraints_in_row}
use Rattle.witness.specs.ShownRun.{RunShown}
use Rattle.witness.proofs.Checks.{pass_one, fail_one, pass_all, number_first, numbers_end}
use Rattle.witness.proofs.Parts.{position_check}
use Rattle.witness.proofs.bytes.constraints.Goals as goal
use Rattle.witness.proofs.bytes.constraints.Goals.{After-meets_constraints}

met : (c : After-meets_constraints) (bs : List ℕ) → RunShown c.args.p.now bs c.args.table.now → c.loop-t.t < c.args.p.now.bound + 1
    → (position_check c.args.p.now bs c.loop-t.t).passes ≡ c.meets_constraints.result
unfolding inputs_limit latches_limit gates_limit row_width
met c bs run h =
    let same = rw (c.shown.ensures.is) at c.meets_constraints.ensures in
    sym ((rw (lent (c.loop-t.t * row_width)) at same) ∙ constraints_in_row run.right c.shown.ensures.proper {t = c.loop-t.t} h)

pub slice_bounds-meets_constraints-end : goal.slice_bounds-meets_constraints-end
unfolding inputs_limit latches_limit gates_limit row_width bound_limit
slice_bounds-meets_constraints-end c = omega (arith, c.shown.ensures.proper.bound_within)

pub returns-then-not-meets_constraints : goal.returns-then-not-meets_constraints
returns-then-not-meets_constraints c bs run =
    fail_one (c.loop-t.invariant bs run) (number_first _ _ c.loop-t.t (omega arith))
    (met (goal.at.returns-then-not-meets_constraints c).After-meets_constraints bs run (omega arith) ∙ c.if-not-meets_constraints.true) refl

pub loop-t-preserved : goal.loop-t-preserved
loop-t-preserved c bs run =
    pass_one (c.loop-t.invariant bs run) (number_first _ _ c.loop-t.t (omega arith))
    (met (goal.at.loop-t-preserved c).After-meets_constraints bs run (omega arith) ∙ c.if-not-meets_constraints.false)

pub returns-else-not-meets_constraints : goal.returns-else-not-meets_constraints
returns-else-not-meets_constraints c bs run =
    pass_all
    (pass_one (c.loop-t.invariant bs run) (number_first _ _ c.loop-t.t (omega arith))
    (met (goal.at.returns-else-not-meets_constraints c).After-meets_constraints bs run (omega arith) ∙ c.if-not-meets_constraints.false))
    (numbers_end _ _ (c.loop-t.t + 1) (omega arith))
