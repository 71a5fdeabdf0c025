-- Document 02, Q-5: "a missing latch reset is 0 (the writer leaves 0 out)": the texts in which a reset of 0 is told of some latches. Assumes nothing.
use Rattle.std.specs.Prelude.{Bool, cond, ◌&&◌, List, ◌++◌, ℕ, ◌+◌, eqb}
use Rattle.answers.specs.Lists.{numbers, each}
use Rattle.text.specs.Readings.{space_byte, newline_byte}
use Rattle.meaning.specs.Problem.{word, latch_place}
use Rattle.aiger.specs.Circuits.{Sizes, sizes, circuit}
use Rattle.aiger.specs.Texts.{latch_literal, ended, header_line, input_line, next_text, output_line, gate_line}

-- The next literal and the reset, where a reset of 0 is told if it is chosen; a reset of 1 and a free one are told always.
abbrev pub next_text_telling : Bool → ℕ → ℕ → ℕ → List ℕ
next_text_telling chosen own next r =
    cond (chosen && eqb r 0) (ended next space_byte ++ ended 0 newline_byte) (next_text own next r)

-- A latch's line in which a reset of 0 is told, if the latch is one of those chosen.
abbrev pub latch_line_telling : (ℕ → Bool) → Sizes → List ℕ → ℕ → List ℕ
latch_line_telling told s ws i =
    ended (latch_literal s i) space_byte
    ++ next_text_telling (told i) (latch_literal s i) (word ws (latch_place (circuit s) i)) (word ws (latch_place (circuit s) i + 1))

-- The text of a circuit's words in which the latches that are chosen have their reset of 0 told.
abbrev pub sized_text_telling : (ℕ → Bool) → Sizes → List ℕ → List ℕ
sized_text_telling told s ws =
    header_line s
    ++ each (numbers 0 s.inputs) input_line
    ++ each (numbers 0 s.latches) (latch_line_telling told s ws)
    ++ each (numbers 0 s.outputs) (output_line s ws)
    ++ each (numbers 0 s.gates) (gate_line s ws)

unfoldable pub text_telling : (ℕ → Bool) → List ℕ → List ℕ
text_telling told ws = sized_text_telling told (sizes ws) ws
