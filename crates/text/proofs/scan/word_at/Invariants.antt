-- Reading on from the state to the word's end gives the whole word's state and end.
use Rattle.std.proofs.Common.{◌≡◌, ◌+◌, ℕ, List, drop, length}
use Rattle.text.specs.Readings.{word_of}
use Rattle.text.specs.Promise.{scanned}
use Rattle.text.proofs.ByteByByte.{states_after}
use Rattle.text.proofs.scan.word_at.Given as goal

abbrev pub left_at : List ℕ → ℕ → List ℕ
left_at text i = word_of (drop i text)

abbrev pub invariant-loop-end : goal.invariant-loop-end
invariant-loop-end l = record {
  state_is : states_after l.state (left_at l.text l.end) ≡ scanned (left_at l.text l.at);
  end_is : l.end + length (left_at l.text l.end) ≡ l.at + length (left_at l.text l.at);
}
