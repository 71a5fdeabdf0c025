-- Where there is room the first bits stand in the middle; past the end nothing is put. Assumes nothing.
use Rattle.std.proofs.Common.{◌≤◌, arith, sym, ◌∙◌, take-take, length-take, take}
use Rattle.values.proofs.Copies.{put_in_middle, sets_out}
use Rattle.values.proofs.rows.copy.Goals as goal

pub returns-in-Some : goal.returns-in-Some
returns-in-Some c =
    let bits = c.args.bits.now in
    let n = c.min-n.result in
    let fewer : n ≤ c.args.count = omega arith in
    put_in_middle c.args.table.now c.args.at (take c.args.count bits) n _ (omega arith) (omega (arith, length-take c.args.count bits)) (omega arith)
    (c.copy_from_slice.ensures.after ∙ sym (take-take n c.args.count bits fewer))

pub returns-in_default : goal.returns-in_default
returns-in_default c = sym (sets_out c.args.table.now c.args.at (take c.args.count c.args.bits.now) (omega arith))
