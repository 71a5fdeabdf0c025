-- Each item stands where the one before it ends. Assumes nothing.
use Rattle.encoder.proofs.OneAfterAnother.{wrote_then}
use Rattle.encoder.proofs.ItemsWritten.{cnf_parted}
use Rattle.encoder.proofs.encode.all_items.Goals as goal

pub returns : goal.returns
returns c =
    rw cnf_parted
    (wrote_then c.clause-next.ensures (
    wrote_then c.gates-next.ensures (
    wrote_then c.constraints-next.ensures (
    wrote_then c.resets-next.ensures (
    wrote_then c.steps-next.ensures (
    wrote_then c.closing-next.ensures (
    wrote_then c.selectors-next.ensures (
    wrote_then c.nodes-next.ensures c.formula.ensures))))))))
