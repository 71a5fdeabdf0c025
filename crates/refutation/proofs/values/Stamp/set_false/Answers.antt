-- `set_false` meets its contract. Assumes nothing.
use Rattle.std.proofs.Common.{rules, sym, ◌∙◌}
use Rattle.refutation.proofs.SetFalse.{set_false_turn, set_false_stop}
use Rattle.refutation.proofs.values.Stamp.set_false.Goals as goal

pub returns-then-says-clause-answer : goal.returns-then-says-clause-answer
returns-then-says-clause-answer c =
    set_false_stop (record { inside = c.requires.0; below = c.loop-w-test.true }) c.loop-w.invariant (search rules) (sym c.says.ensures ∙ c.if-says.true)

pub loop-w-preserved : goal.loop-w-preserved
loop-w-preserved c =
    set_false_turn (record { inside = c.requires.0; below = c.loop-w-test.true }) c.loop-w.invariant (search rules) (sym c.says.ensures ∙ c.if-says.false)
    c.variable.ensures c.mark.ensures
