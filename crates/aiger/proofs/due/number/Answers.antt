-- The word's state tells whether it is a number. Assumes nothing.
use mathlib.Core.Logic.{inl, inr}
use native.Mathlib.Omega.{arith}
use Rattle.answers.specs.Limits.{largest_number}
use Rattle.aiger.proofs.DueLaws.{no_number_there, number_there}
use Rattle.aiger.proofs.due.number.Goals as goal
use Rattle.aiger.proofs.due.number.Goals.{then-word-eq-NO_BYTE-via-then-word-eq-NO_BYTE, then-word-eq-NO_BYTE-via-else-word-eq-NO_BYTE+then-word-ge-NO_NUMBER}

pub returns-then-word-eq-NO_BYTE : goal.returns-then-word-eq-NO_BYTE
unfolding largest_number
returns-then-word-eq-NO_BYTE c =
    no_number_there c.args.text.now c.args.at c.word_at-word.result c.word_at-word.ensures
    (elim c.then-word-eq-NO_BYTE.branch [
      | then-word-eq-NO_BYTE-via-then-word-eq-NO_BYTE w ↦ inl w.if-word-eq-NO_BYTE.true
      | then-word-eq-NO_BYTE-via-else-word-eq-NO_BYTE+then-word-ge-NO_NUMBER w ↦ inr w.if-word-ge-NO_NUMBER.true
    ])

pub returns : goal.returns
unfolding largest_number
returns c = number_there c.args.text.now c.args.at c.word_at-word.result c.word_at-word.ensures (omega arith) (omega arith)
