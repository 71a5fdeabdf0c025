-- After one more read that gave bytes, they stand behind the earlier ones, and the bytes past them are as they were.
use Rattle.std.proofs.Common.{rules}
use Rattle.reading.proofs.Readings.{past_more, given_more}
use Rattle.reading.proofs.read_all.Goals as goal

pub loop-done-preserved : goal.loop-done-preserved
loop-done-preserved g c =
    let past = past_more _ _ _ _ _ _ c.loop-done.invariant.1 c.in_ok-more.ensures.put in
    (past.0, past.1, search rules, given_more _ _ _ _ _ _ _ _ c.loop-done.invariant.3 c.in_ok-more.ensures.given.0 c.in_ok-more.ensures.put)
