-- Each turn writes the clauses of one number more, for which there is room. Assumes nothing.
use Rattle.std.proofs.Common.{arith}
use Rattle.encoder.proofs.ForEachNumber.{clauses_none, clauses_room, clauses_more, clauses_all}
use Rattle.encoder.proofs.each.each.Goals as goal

pub loop-i-init : goal.loop-i-init
loop-i-init g c = λ h w r. clauses_none r

pub f-next-requires : goal.f-next-requires
f-next-requires g c =
    let r = c.requires in
    (r.1 _ c.loop-i.next c.loop-i.i (omega arith) (clauses_room (c.loop-i.invariant r.0 r.1 r.2) (omega arith))).0

pub loop-i-preserved : goal.loop-i-preserved
loop-i-preserved g c = λ h w r.
    let done = c.loop-i.invariant h w r in
    clauses_more done ((w _ c.loop-i.next c.loop-i.i (omega arith) (clauses_room done (omega arith))).1 _ _ c.f-next.ensures)

pub returns : goal.returns
returns g c = λ h w r. clauses_all (c.loop-i.invariant h w r) (omega arith)
