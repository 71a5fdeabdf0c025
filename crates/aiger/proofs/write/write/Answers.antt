-- The check, the text's length, the text. Assumes nothing.
use Rattle.aiger.proofs.DueLaws.{exit}
use Rattle.aiger.proofs.CheckedCircuit.{good_if_passed}
use Rattle.aiger.proofs.WrittenAnswers.{refused, short, done}
use Rattle.aiger.proofs.write.write.Goals as goal

pub returns-in_err-s : goal.returns-in_err-s
returns-in_err-s c = rw (exit c.from_residual.ensures.1) (refused c.args.words.now c.args.out.now c.in_err-s.ensures.answers)

pub returns-then-out-needed : goal.returns-then-out-needed
returns-then-out-needed c =
    short (good_if_passed c.args.words.now c.in_ok-s.ensures.answers) c.in_ok-s.ensures.sizes c.args.out.now c.text-needed.ensures c.if-out-needed.true

pub returns : goal.returns
returns c =
    done (good_if_passed c.args.words.now c.in_ok-s.ensures.answers) c.in_ok-s.ensures.sizes c.args.out.now c.text-needed.ensures
    c.if-out-needed.false c.text.ensures
