-- `accepted` meets its contract. Assumes nothing.
use Rattle.std.proofs.Common.{◌≡◌, rules, sym, ◌∙◌}
use Rattle.clauses.proofs.Signs.{word}
use Rattle.refutation.proofs.KnownClauses.{hint_names, hint_within, hint_gives, hint_unset}
use Rattle.refutation.proofs.Accepted.{both_signs_judged, none_taken, at_conflict, at_neither, at_unit}
use Rattle.refutation.proofs.steps.accepted.Goals as goal

pub returns-then-not-set_false-clause-answer : goal.returns-then-not-set_false-clause-answer
returns-then-not-set_false-clause-answer c = c.is_empty.ensures ∙ both_signs_judged _ _ _ (sym c.if-not-set_false.true ∙ c.set_false.ensures.answer)

pub loop-i-init : goal.loop-i-init
loop-i-init c =
    none_taken _ _ _ (sym c.if-not-set_false.false ∙ c.set_false.ensures.answer) c.set_false.ensures.marked (c.set_false.ensures.values c.if-not-set_false.false)

pub clause-requires : goal.clause-requires
clause-requires c = hint_names c.args.so_far.now.standing (record { inside = c.requires.right.1; below = c.loop-i-test.true }) (search rules) c.variable.ensures

pub find-requires : goal.find-requires
find-requires c = (
  rw c.after-stamp.ensures.0
      (hint_within c.args.so_far.now.standing (record { inside = c.requires.right.1; below = c.loop-i-test.true }) (search rules) c.variable.ensures c.clause.ensures),
  c.loop-i.invariant.marked.not_later.room,
)

pub returns-in-Conflict-clause-answer : goal.returns-in-Conflict-clause-answer
returns-in-Conflict-clause-answer c =
    let t = c.loop-i.invariant in
    at_conflict t c.loop-i-test.true
    (c.in-Conflict.ensures t.trues t.values
    ∙ hint_gives c.args.so_far.now.standing (record { inside = c.requires.right.1; below = c.loop-i-test.true }) (search rules) c.variable.ensures c.clause.ensures t.trues)

pub set_true-requires : goal.set_true-requires
set_true-requires c =
    let t = c.loop-i.invariant in
    let n = hint_unset c.args.so_far.now.standing (record { inside = c.requires.right.1; below = c.loop-i-test.true }) (search rules) c.variable.ensures c.clause.ensures
    t.trues (c.in-Unit.ensures t.trues t.values) in
    let w : word c.in-Unit.w ≡ c.in-Unit.w = search rules in
    (rw (c.after-stamp.ensures.0, w) n.inside, t.marked.not_later)

pub returns-in-Neither-clause-answer : goal.returns-in-Neither-clause-answer
returns-in-Neither-clause-answer c =
    let t = c.loop-i.invariant in
    at_neither t c.loop-i-test.true
    (c.in-Neither.ensures t.trues t.values
    ∙ hint_gives c.args.so_far.now.standing (record { inside = c.requires.right.1; below = c.loop-i-test.true }) (search rules) c.variable.ensures c.clause.ensures t.trues)

pub loop-i-preserved : goal.loop-i-preserved
loop-i-preserved c =
    let t = c.loop-i.invariant in
    let e = c.in-Unit.ensures t.trues t.values in
    let w : word c.in-Unit.w ≡ c.in-Unit.w = search rules in
    at_unit t c.loop-i-test.true w
    (e ∙ hint_gives c.args.so_far.now.standing (record { inside = c.requires.right.1; below = c.loop-i-test.true }) (search rules) c.variable.ensures c.clause.ensures t.trues)
    (rw c.after-stamp.ensures.0 (hint_unset c.args.so_far.now.standing (record { inside = c.requires.right.1; below = c.loop-i-test.true }) (search rules) c.variable.ensures c.clause.ensures t.trues e))
    c.set_true.ensures.marked c.set_true.ensures.values
