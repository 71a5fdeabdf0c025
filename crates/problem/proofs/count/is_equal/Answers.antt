-- Neither of the other two forms. Assumes nothing.
use Rattle.std.proofs.Common.{sym}
use Rattle.problem.proofs.FormsByOp.{by_op}
use Rattle.problem.proofs.count.is_equal.Goals as goal

pub returns : goal.returns
returns c = λ a b.
    let forms = by_op c.args.op a b in
    rw (c.is_or.ensures a b, c.is_until.ensures a b, forms.or_is, forms.until_is) (sym forms.equal_is)
