-- The three parts, of the node that was read. Assumes nothing.
use Rattle.std.proofs.Common.{◌∙◌, ap, arith}
use Rattle.meaning.specs.Problem.{node}
use Rattle.encoder.proofs.OneAfterAnother.{room_first, room_second, clauses_then}
use Rattle.encoder.proofs.nodes.node_item.Goals as goal

pub values-second-requires : goal.values-second-requires
values-second-requires c =
    let good = c.shown.ensures.proper in
    let read = c.node-x.ensures ∙ ap (λ p. node p c.args.n) c.shown.ensures.is in
    (rw read (good.nodes_proper c.args.n c.requires.0), omega arith, room_first _ _ (room_first _ _ (rw (← read) at c.requires.1)))

pub ends-third-requires : goal.ends-third-requires
ends-third-requires c =
    let good = c.shown.ensures.proper in
    let read = c.node-x.ensures ∙ ap (λ p. node p c.args.n) c.shown.ensures.is in
    (omega arith, room_second _ _ c.values-second.ensures (room_first _ _ (rw (← read) at c.requires.1)))

pub closed-requires : goal.closed-requires
closed-requires c =
    let good = c.shown.ensures.proper in
    let read = c.node-x.ensures ∙ ap (λ p. node p c.args.n) c.shown.ensures.is in
    (omega arith, room_second _ _ (clauses_then _ _ c.values-second.ensures c.ends-third.ensures) (rw (← read) at c.requires.1))

pub returns : goal.returns
returns c =
    let read = c.node-x.ensures ∙ ap (λ p. node p c.args.n) c.shown.ensures.is in
    rw (← read)
    (clauses_then _ _ (clauses_then _ _ c.values-second.ensures c.ends-third.ensures) c.closed.ensures)
