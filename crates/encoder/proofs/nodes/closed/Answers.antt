-- -E, then the selectors, then 0. Assumes nothing.
use Rattle.std.proofs.Common.{append-nil}
use Rattle.encoder.proofs.MachineLiterals.{literal_turned}
use Rattle.encoder.proofs.OneAfterAnother.{wrote_then}
use Rattle.encoder.proofs.nodes.closed.Goals as goal

pub returns : goal.returns
returns c =
    rw append-nil
    (wrote_then (wrote_then (rw (literal_turned c.e_literal-e.ensures) at c.word-first.ensures) c.selector_words-next.ensures) c.word.ensures)
