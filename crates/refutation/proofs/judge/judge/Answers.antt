-- `judge` meets its contract. Assumes nothing.
use Rattle.std.proofs.Common.{◌≡◌, rules, arith}
use Rattle.std.specs.Prelude.{Ok, Err}
use Rattle.refutation.specs.declared.NotRefuted.TheVariants.{BadCnf, BadRefutation}
use Rattle.clauses.proofs.ReadBack.{clauses_fewer, steps_fewer}
use Rattle.refutation.proofs.JudgeAnswers.{Passed, refusal_passed, clauses_right, steps_right, front_cleared, refused_16, refused_11, few_numbers, few_clauses, all_judged}
use Rattle.refutation.proofs.judge.judge.Goals as goal

pub returns-in_err-clauses : goal.returns-in_err-clauses
returns-in_err-clauses c =
    let p : Passed BadCnf c.count_clauses.result c.map_err.result = search rules in
    let k : c.from_residual.result ≡ Err c.in_err-clauses.field-0.0 = search rules in
    let r = refusal_passed BadCnf c.count_clauses.result p c.in_err-clauses.was in
    rw (k, r.2) (refused_16 _ _ _ _ _ {i = r.0} (rw r.1 at c.count_clauses.ensures))

pub returns-in_err-steps : goal.returns-in_err-steps
returns-in_err-steps c =
    let e : c.count_clauses.result ≡ Ok c.in_ok-clauses.clauses = search rules in
    let p : Passed BadRefutation c.count_steps.result c.map_err-2.result = search rules in
    let k : c.from_residual-in_err-steps.result ≡ Err c.in_err-steps.field-0.0 = search rules in
    let r = refusal_passed BadRefutation c.count_steps.result p c.in_err-steps.was in
    let n = clauses_right _ _ c.count_clauses.ensures e in
    rw (k, r.2) (refused_11 _ _ _ _ _ n.0 n.1 {i = r.0} (rw r.1 at c.count_steps.ensures))

pub returns-then-by_numbers-numbers : goal.returns-then-by_numbers-numbers
returns-then-by_numbers-numbers c =
    let e : c.count_clauses.result ≡ Ok c.in_ok-clauses.clauses = search rules in
    let f : c.count_steps.result ≡ Ok c.in_ok-steps.steps = search rules in
    let n = clauses_right _ _ c.count_clauses.ensures e in
    let s = steps_right _ _ _ c.count_steps.ensures f in
    few_numbers _ _ _ _ _ n.0 n.1 s.0 s.1 (omega arith)

-- Each clause and each step has a word of its own.
pub overflow_add-needed : goal.overflow_add-needed
overflow_add-needed c =
    let e : c.count_clauses.result ≡ Ok c.in_ok-clauses.clauses = search rules in
    let f : c.count_steps.result ≡ Ok c.in_ok-steps.steps = search rules in
    omega (arith, c.well_formed, (clauses_right _ _ c.count_clauses.ensures e).1, (steps_right _ _ _ c.count_steps.ensures f).1, clauses_fewer c.args.cnf.now, steps_fewer c.args.refutation.now)

pub returns-then-by_clauses-needed : goal.returns-then-by_clauses-needed
returns-then-by_clauses-needed c =
    let e : c.count_clauses.result ≡ Ok c.in_ok-clauses.clauses = search rules in
    let f : c.count_steps.result ≡ Ok c.in_ok-steps.steps = search rules in
    let n = clauses_right _ _ c.count_clauses.ensures e in
    let s = steps_right _ _ _ c.count_steps.ensures f in
    few_clauses _ _ _ _ _ n.0 n.1 s.0 s.1 (omega arith) (omega arith)

pub invariant_of-words : goal.invariant_of-words
invariant_of-words c =
    let e : c.count_clauses.result ≡ Ok c.in_ok-clauses.clauses = search rules in
    let f : c.count_steps.result ≡ Ok c.in_ok-steps.steps = search rules in
    record { cnf_right = clauses_right _ _ c.count_clauses.ensures e; steps_right = steps_right _ _ _ c.count_steps.ensures f }

pub returns : goal.returns
returns c =
    let e : c.count_clauses.result ≡ Ok c.in_ok-clauses.clauses = search rules in
    let f : c.count_steps.result ≡ Ok c.in_ok-steps.steps = search rules in
    let n = clauses_right _ _ c.count_clauses.ensures e in
    let s = steps_right _ _ _ c.count_steps.ensures f in
    all_judged _ _ _ _ _ n.0 n.1 s.0 s.1 (omega arith) (omega arith) c.judge_counted.result c.judge_counted.ensures.answer
    (front_cleared c.args.by_numbers.now c.judge_counted.ensures.values (omega arith))
    (front_cleared c.args.by_clauses.now c.judge_counted.ensures.places (omega arith))
