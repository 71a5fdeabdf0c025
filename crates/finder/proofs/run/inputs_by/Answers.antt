-- An input takes the next digit. Assumes nothing.
use Rattle.std.proofs.Common.{◌-◌, ap, arith, eqb}
use Rattle.finder.proofs.Digits.{one_taken, next_digit}
use Rattle.finder.proofs.FromTheLast.{one_given}
use Rattle.finder.proofs.run.inputs_by.Goals as goal

pub loop-i-preserved : goal.loop-i-preserved
loop-i-preserved c =
    let l = c.loop-i in
    let a = c.args in (
      one_taken a.digits (a.inputs - l.i) l.invariant.0 (omega arith),
      one_given l.invariant.1 (l.i - 1) (omega arith) (omega arith) (omega arith)
          (ap (λ b. eqb b 1) (next_digit a.digits (a.inputs - l.i) l.invariant.0 (omega arith))),
    )
