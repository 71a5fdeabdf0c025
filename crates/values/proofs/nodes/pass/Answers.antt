-- A position's value goes by the next one's, which the row keeps. Assumes nothing.
use Rattle.std.proofs.Common.{◌≡◌, ◌+◌, ◌-◌, ◌<◌, false, length, arith, le-leb, get_or-set_same, sym}
use Rattle.values.proofs.NodeValues.{one_more}
use Rattle.values.proofs.nodes.pass.Goals as goal

pub loop-i-preserved : goal.loop-i-preserved
loop-i-preserved c =
    let i = c.loop-i.i in
    let next : i - 1 + 1 ≡ i = omega arith in
    let room : i < length c.loop-i.own = omega arith in record {
      after = λ j l h. one_more c.loop-i.invariant room c.op_value-y.ensures j (omega arith) h;
      next_is = rw (next, le-leb _ _ c.loop-i.auto.i) (sym (get_or-set_same _ i _ false room));
    }

pub returns-2 : goal.returns-2
returns-2 c = record { values = λ j h. one_more c.loop-i.invariant (omega arith) c.op_value-y.ensures j (omega arith) h }
