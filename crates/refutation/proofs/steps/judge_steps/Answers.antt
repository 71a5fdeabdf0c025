-- `judge_steps` meets its contract. Assumes nothing.
use Rattle.std.proofs.Common.{◌<◌, ◌≤◌, ◌+◌, length, arith, sym, ◌∙◌}
use Rattle.clauses.specs.Refutations.{steps_of}
use Rattle.refutation.proofs.JudgeSteps.{none_judged, hints_begin, parts_right, step_refusal, step_judged}
use Rattle.refutation.proofs.steps.judge_steps.Goals as goal

pub loop-done-init : goal.loop-done-init
loop-done-init c = none_judged c.args.words.now.steps_right.0 c.requires.standing c.requires.older

pub clause_at-hints-requires : goal.clause_at-hints-requires
clause_at-hints-requires c =
    let l : c.loop-done.done < length (steps_of c.args.words.now.refutation.now) = omega (arith, c.args.words.now.steps_right.1) in
    hints_begin c.loop-done.invariant l c.clause_at-clause.ensures

pub accepted-requires-clause-right : goal.accepted-requires-clause-right
accepted-requires-clause-right c =
    let l : c.loop-done.done < length (steps_of c.args.words.now.refutation.now) = omega (arith, c.args.words.now.steps_right.1) in
    parts_right c.loop-done.invariant l c.clause_at-clause.ensures c.clause_at-hints.ensures

pub returns-then-not-accepted : goal.returns-then-not-accepted
returns-then-not-accepted c =
    let l : c.loop-done.done < length (steps_of c.args.words.now.refutation.now) = omega (arith, c.args.words.now.steps_right.1) in
    step_refusal c.loop-done.invariant l c.clause_at-clause.ensures c.clause_at-hints.ensures (sym c.if-not-accepted.true ∙ c.accepted.ensures.answer)

pub loop-done-preserved : goal.loop-done-preserved
loop-done-preserved c =
    let n = c.args.words.now.steps_right.1 in
    let l : c.loop-done.done < length (steps_of c.args.words.now.refutation.now) = omega (arith, n) in
    let room : c.args.words.now.clauses + length (steps_of c.args.words.now.refutation.now) ≤ length c.loop-done.places = omega (arith, n) in
    step_judged c.loop-done.invariant l c.clause_at-clause.ensures c.clause_at-hints.ensures room (sym c.if-not-accepted.false ∙ c.accepted.ensures.answer)
    c.accepted.ensures.marked c.is_empty-closed.ensures
