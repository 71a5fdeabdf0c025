-- 19 by the judgement, 19 of a text that is too long, 27, or the words. Assumes nothing.
use mathlib.Core.Path.{◌∙◌}
use native.Mathlib.Omega.{arith}
use Rattle.answers.specs.Limits.{longest_text, inputs_limit, latches_limit, outputs_limit, gates_limit}
use Rattle.aiger.proofs.DueLaws.{exit}
use Rattle.aiger.proofs.ReadLaws.{judged_good, judged_wrong, words_counted, answer_fault, answer_long, answer_room, answer_done}
use Rattle.aiger.proofs.read.read.Goals as goal

pub judge-requires : goal.judge-requires
unfolding inputs_limit latches_limit outputs_limit gates_limit
judge-requires c = omega arith

pub returns-in_err-s : goal.returns-in_err-s
returns-in_err-s c =
    let w = judged_wrong c.args.text.now c.judge.new.table c.judge.result c.judge.ensures c.in_err-s.ensures.cases in
    rw (exit c.from_residual.ensures.1, w.2) (answer_fault c.args.text.now c.args.room.now w.1)

pub returns-then-text-gt-LONGEST_TEXT : goal.returns-then-text-gt-LONGEST_TEXT
unfolding longest_text
returns-then-text-gt-LONGEST_TEXT c =
    let w = judged_good c.args.text.now c.judge.new.table c.judge.result c.judge.ensures c.in_ok-s.ensures.cases in
    answer_long c.args.text.now c.args.room.now w.1 c.if-text-gt-LONGEST_TEXT.true

pub returns-then-room-needed : goal.returns-then-room-needed
unfolding longest_text
returns-then-room-needed c =
    let w = judged_good c.args.text.now c.judge.new.table c.judge.result c.judge.ensures c.in_ok-s.ensures.cases in
    answer_room c.args.text.now c.args.room.now w.1 c.if-text-gt-LONGEST_TEXT.false
    (c.words_in_all-needed.ensures ∙ words_counted c.in_ok-s.s _ w.0) c.if-room-needed.true

pub deliver-requires : goal.deliver-requires
deliver-requires c =
    let w = judged_good c.args.text.now c.judge.new.table c.judge.result c.judge.ensures c.in_ok-s.ensures.cases in
    (w.0, omega arith)

pub returns : goal.returns
unfolding longest_text
returns c =
    let w = judged_good c.args.text.now c.judge.new.table c.judge.result c.judge.ensures c.in_ok-s.ensures.cases in
    answer_done c.args.text.now c.args.room.now w.1 c.if-text-gt-LONGEST_TEXT.false
    (c.words_in_all-needed.ensures ∙ words_counted c.in_ok-s.s _ w.0)
    c.if-room-needed.false c.deliver.ensures
