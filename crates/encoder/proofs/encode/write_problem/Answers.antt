-- The room's length decides. Assumes nothing.
use Rattle.std.proofs.Common.{ap}
use Rattle.encoder.proofs.RoomAnswers.{room_suffices, too_small, all_written}
use Rattle.encoder.proofs.encode.write_problem.Goals as goal

pub returns-then-room-numbers : goal.returns-then-room-numbers
returns-then-room-numbers c =
    too_small c.args.p.now (ap (λ n. n.words) c.counts-numbers.ensures.is) c.if-room-numbers.true

pub all_items-requires : goal.all_items-requires
all_items-requires c =
    rw c.held.ensures.is (room_suffices c.args.p.now (ap (λ n. n.words) c.counts-numbers.ensures.is) c.if-room-numbers.false)

pub returns : goal.returns
returns c = all_written c.args.p.now c.counts-numbers.ensures.is (rw c.held.ensures.is at c.all_items.ensures)
