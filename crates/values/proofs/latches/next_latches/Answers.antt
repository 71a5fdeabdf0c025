-- Where there is room the first next values stand in the middle; past the end nothing is put. Assumes nothing.
use Rattle.std.proofs.Common.{◌≡◌, length, sym, arith}
use Rattle.problem.proofs.Outlines.{shows}
use Rattle.values.specs.Tables.{next_in}
use Rattle.values.proofs.Copies.{put_in_middle, sets_out}
use Rattle.values.proofs.RowLaws.{length_next_in}
use Rattle.values.proofs.latches.next_latches.Goals as goal

pub returns-in-Some : goal.returns-in-Some
returns-in-Some c =
    let xs = next_in c.args.p.now c.args.row.now in
    let many = length_next_in c.args.p.now c.args.row.now in
    let latches : length c.args.p.now.latches ≡ c.parts.result.1.latches =
    rw (sym c.parts.ensures) (shows c.parts.result.1 c.parts.result.0.now).latches_are in
    put_in_middle c.args.next.now c.args.at xs _ _ (omega arith) (omega (arith, many, latches)) (omega arith) (rw c.parts.ensures at c.put_next.ensures)

pub returns-in_default : goal.returns-in_default
returns-in_default c = sym (sets_out c.args.next.now c.args.at (next_in c.args.p.now c.args.row.now) (omega arith))
