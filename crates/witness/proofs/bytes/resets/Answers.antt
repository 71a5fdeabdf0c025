-- What the code tests of a latch is what document 01 checks. Assumes nothing.
use Rattle.std.proofs.Common.{◌≡◌, length, refl, sym, ◌∙◌, ap₂, arith}
use Rattle.meaning.specs.Runs.{meets_reset}
use Rattle.values.proofs.Copies.{bit_at}
use Rattle.witness.proofs.Checks.{pass_one, fail_one, number_first}
use Rattle.witness.proofs.Parts.{reset_check}
use Rattle.witness.proofs.bytes.resets.Goals as goal
use Rattle.witness.proofs.bytes.resets.Goals.{After-meets_reset}

met : (c : After-meets_reset) → (reset_check c.args.p.now c.args.witness.now c.loop-i.i).passes ≡ c.meets_reset.result
met c =
    let bit = bit_at c.args.witness.now 1 (length c.args.p.now.latches) (omega arith) c.loop-i.i (omega arith) in
    sym (c.meets_reset.ensures ∙ ap₂ meets_reset (rw c.shown.ensures.is at c.latch_reset.ensures) bit)

pub returns-then-not-meets_reset : goal.returns-then-not-meets_reset
returns-then-not-meets_reset c =
    fail_one c.loop-i.invariant (number_first _ _ c.loop-i.i (omega arith)) (met (goal.at.returns-then-not-meets_reset c).After-meets_reset ∙ c.if-not-meets_reset.true) refl

pub loop-i-preserved : goal.loop-i-preserved
loop-i-preserved c =
    pass_one c.loop-i.invariant (number_first _ _ c.loop-i.i (omega arith)) (met (goal.at.loop-i-preserved c).After-meets_reset ∙ c.if-not-meets_reset.false)
