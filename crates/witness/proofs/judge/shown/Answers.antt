-- The loop, then the constraints, then the formula. Assumes nothing.
use Rattle.std.proofs.Common.{◌≡◌, refl, sym, ◌∙◌}
use Rattle.meaning.specs.Formulas.{formula}
use Rattle.meaning.specs.LassoValue.{bounded_value}
use Rattle.meaning.specs.Witnesses.{byte, rows, shape}
use Rattle.values.proofs.ValueShown.{value_shown}
use Rattle.witness.proofs.Checks.{none_yet, fail_one, after_one, pass_all, part_refuses, part_passes, at_refusal}
use Rattle.witness.proofs.judge.shown.Goals as goal
use Rattle.witness.proofs.judge.shown.Goals.{After-formula_value}

valued : (c : After-formula_value)
    → bounded_value (shape c.args.witness.now) c.args.p.now.bound (rows c.args.p.now c.args.witness.now) (formula c.args.p.now) 0 ≡ c.formula_value.result
valued c =
    sym ((rw (c.shown.ensures.is, c.from.ensures) at c.formula_value.ensures)
    ∙ value_shown c.shown.ensures.proper c.requires.right (byte c.args.witness.now 0) c.requires.start_within)

pub returns-in_err-closes : goal.returns-in_err-closes
returns-in_err-closes c = at_refusal c.from_residual.ensures.1 (part_refuses _ _ c.in_err-closes.ensures)

pub returns-in_err-constraints : goal.returns-in_err-constraints
returns-in_err-constraints c =
    at_refusal c.from_residual-in_err-constraints.ensures.1
    (part_passes _ _ c.in_ok-closes.ensures (part_refuses _ _ (c.in_err-constraints.ensures c.args.witness.now c.requires)))

pub returns-then-not-formula_value : goal.returns-then-not-formula_value
returns-then-not-formula_value c =
    part_passes _ _ c.in_ok-closes.ensures
    (part_passes _ _ (c.in_ok-constraints.ensures c.args.witness.now c.requires)
    (fail_one none_yet refl (valued (goal.at.returns-then-not-formula_value c).After-formula_value ∙ c.if-not-formula_value.true) refl))

pub returns : goal.returns
returns c =
    part_passes _ _ c.in_ok-closes.ensures
    (part_passes _ _ (c.in_ok-constraints.ensures c.args.witness.now c.requires)
    (after_one (valued (goal.at.returns c).After-formula_value ∙ c.if-not-formula_value.false) (pass_all none_yet refl)))
