-- `find` meets its contract. Assumes nothing.
use Rattle.std.proofs.Common.{rules, sym, ◌∙◌}
use Rattle.refutation.proofs.Find.{find_true, find_other, find_kept}
use Rattle.refutation.proofs.values.Stamp.find.Goals as goal
use Rattle.refutation.proofs.values.Stamp.find.Goals.{then-says-2-via-then-says-2, then-says-2-via-else-says-2+then-unwrap_or-w}

pub returns-then-says-2 : goal.returns-then-says-2
returns-then-says-2 c =
    let kept = sym c.says.ensures ∙ c.if-says.false in
    elim c.then-says-2.branch [
      | then-says-2-via-then-says-2 w ↦
          find_true (record { inside = c.requires.0; below = c.loop-w-test.true }) c.loop-w.invariant (search rules) kept (sym c.says-in-loop-w.ensures ∙ w.if-says-2.true)
      | then-says-2-via-else-says-2+then-unwrap_or-w w ↦
          find_other (record { inside = c.requires.0; below = c.loop-w-test.true }) c.loop-w.invariant (search rules) kept w.unwrap_or.ensures w.if-unwrap_or-w.true
    ]

pub loop-w-preserved : goal.loop-w-preserved
loop-w-preserved c =
    find_kept (record { inside = c.requires.0; below = c.loop-w-test.true }) c.loop-w.invariant (search rules)
    (sym c.says.ensures ∙ c.if-says.false) c.unwrap_or.ensures (sym c.says-in-loop-w.ensures ∙ c.if-says-2.false) (search rules) c.if-unwrap_or-w.false
