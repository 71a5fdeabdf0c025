-- `prepare_good` meets its contract: the room, the refutation's words, both areas, and then the CNF. Assumes nothing.
use Rattle.std.proofs.Common.{◌∙◌, ap, arith}
use Rattle.answers.specs.Limits.{variables_limit}
use Rattle.clauses.proofs.Judges.{steps_counted}
use Rattle.clauses.proofs.ReadBack.{steps_fewer}
use Rattle.encoder.proofs.WrittenCnf.{problem_written}
use Rattle.std.specs.Prelude.{Err}
use Rattle.std.proofs.lemmas.Result.{err_from_is_err_and}
use Rattle.checker.proofs.Preparing.{cnf_fits, few_variables, fewer_clauses, room_refused, numbers_refused, places_refused, cnf_prepared, prepared_ok, steps_told, bad_words_refused}
use Rattle.checker.proofs.prepare.prepare_good.Goals as goal

pub returns-then-room-n : goal.returns-then-room-n
returns-then-room-n c = room_refused c.counts-n.ensures.proper c.counts-n.ensures.is _ _ _ _ c.if-room-n.true

pub overflow_cast-n : goal.overflow_cast-n
unfolding variables_limit
overflow_cast-n c = omega (arith, few_variables c.counts-n.ensures.proper c.counts-n.ensures.is)

pub returns-in_err-steps : goal.returns-in_err-steps
returns-in_err-steps c =
    let p = err_from_is_err_and c.from_residual.result c.from_residual.ensures.1 in
    bad_words_refused c.counts-n.ensures.proper c.counts-n.ensures.is _ _ _ _ c.if-room-n.false _ c.count_steps.ensures c.map_err.ensures.cases c.in_err-steps.was
    (p.1 ∙ ap Err p.2)

pub overflow_add-numbers_needed : goal.overflow_add-numbers_needed
unfolding variables_limit
overflow_add-numbers_needed c = omega (arith, few_variables c.counts-n.ensures.proper c.counts-n.ensures.is)

pub returns-then-numbers-numbers_needed : goal.returns-then-numbers-numbers_needed
returns-then-numbers-numbers_needed c =
    numbers_refused c.counts-n.ensures.proper c.counts-n.ensures.is _ _ _ _ c.if-room-n.false
    (steps_counted _ _ _ (steps_told _ _ _ _ c.count_steps.ensures c.map_err.ensures.cases c.in_ok-steps.was)) c.if-numbers-numbers_needed.true

pub overflow_add-places_needed : goal.overflow_add-places_needed
overflow_add-places_needed c =
    omega (arith, (steps_counted _ _ _ (steps_told _ _ _ _ c.count_steps.ensures c.map_err.ensures.cases c.in_ok-steps.was)).1, fewer_clauses c.counts-n.ensures.proper c.counts-n.ensures.is, steps_fewer c.args.refutation.now, c.if-room-n.false)

pub returns-then-places-places_needed : goal.returns-then-places-places_needed
returns-then-places-places_needed c =
    places_refused c.counts-n.ensures.proper c.counts-n.ensures.is _ _ _ _ c.if-room-n.false
    (steps_counted _ _ _ (steps_told _ _ _ _ c.count_steps.ensures c.map_err.ensures.cases c.in_ok-steps.was)) c.if-numbers-numbers_needed.false c.if-places-places_needed.true

pub returns : goal.returns
returns c =
    let fits = cnf_fits c.counts-n.ensures.proper c.counts-n.ensures.is c.if-room-n.false in
    let done = problem_written _ c.write_problem.ensures fits in
    prepared_ok _ c.in_ok-write_problem.was done.0 done.1
    (cnf_prepared c.counts-n.ensures.proper c.counts-n.ensures.is _ _ _ _ c.if-room-n.false
    (steps_counted _ _ _ (steps_told _ _ _ _ c.count_steps.ensures c.map_err.ensures.cases c.in_ok-steps.was)) c.if-numbers-numbers_needed.false c.if-places-places_needed.false done.1)
