-- Document 02, Q-5, and the AIGER format's ASCII form: the text of a circuit's words, and what a reader finds in a text. Assumes nothing.
use Rattle.std.specs.Prelude.{Bool, false, cond, ◌||◌, List, [], ◌∷◌, ◌++◌, map, ℕ, ◌+◌, ◌*◌, eqb, ltb, take, drop}
use Rattle.answers.specs.Lists.{numbers, each}
use Rattle.text.specs.Numbers.{bytes_of, decimal}
use Rattle.answers.specs.Limits.{largest_number, inputs_limit, latches_limit, gates_limit, outputs_limit}
use Rattle.text.specs.Readings.{space_byte, newline_byte, Reading, found, fault, Reader, ahead, in_turn, space, newline, told, number, at_most, exactly}
use Rattle.meaning.specs.Problem.{word, latch_place, gate_place}
use Rattle.meaning.specs.Check.{largest_literal, gate_limit}
use Rattle.aiger.specs.Circuits.{Sizes, sizes, circuit, output_place}

-- ════════ The literals ════════

-- "Inputs, latches and gates must be numbered in document 01's order."
abbrev pub input_literal : ℕ → ℕ
input_literal i = 2 * (i + 1)

abbrev pub latch_literal : Sizes → ℕ → ℕ
latch_literal s i = 2 * (s.inputs + i + 1)

abbrev pub gate_literal : Sizes → ℕ → ℕ
gate_literal s j = gate_limit (circuit s) j

-- "M is I+L+A"
abbrev pub largest_variable : Sizes → ℕ
largest_variable s = (circuit s).width

-- ════════ The text of words ════════

-- A number and the byte that ends it.
abbrev pub ended : ℕ → ℕ → List ℕ
ended n b = decimal n ++ (b ∷ [])

-- `aag M I L O A`
abbrev pub header_line : Sizes → List ℕ
header_line s =
    bytes_of "aag "
    ++ ended (largest_variable s) space_byte
    ++ ended s.inputs space_byte
    ++ ended s.latches space_byte
    ++ ended s.outputs space_byte
    ++ ended s.gates newline_byte

abbrev pub input_line : ℕ → List ℕ
input_line i = ended (input_literal i) newline_byte

-- "a missing latch reset is 0 (the writer leaves 0 out), and a latch's own literal means free", which in words is 2.
abbrev pub reset_text : ℕ → ℕ → ℕ
reset_text own r = cond (eqb r 1) 1 own

abbrev pub next_text : ℕ → ℕ → ℕ → List ℕ
next_text own next r = cond (eqb r 0) (ended next newline_byte) (ended next space_byte ++ ended (reset_text own r) newline_byte)

abbrev pub latch_line : Sizes → List ℕ → ℕ → List ℕ
latch_line s ws i =
    ended (latch_literal s i) space_byte
    ++ next_text (latch_literal s i) (word ws (latch_place (circuit s) i)) (word ws (latch_place (circuit s) i + 1))

abbrev pub output_line : Sizes → List ℕ → ℕ → List ℕ
output_line s ws o = ended (word ws (output_place s o)) newline_byte

abbrev pub gate_line : Sizes → List ℕ → ℕ → List ℕ
gate_line s ws j =
    ended (gate_literal s j) space_byte
    ++ ended (word ws (gate_place (circuit s) j)) space_byte
    ++ ended (word ws (gate_place (circuit s) j + 1)) newline_byte

-- The lines of inputs, latches, outputs and gates, in this order.
abbrev pub sized_text : Sizes → List ℕ → List ℕ
sized_text s ws =
    header_line s
    ++ each (numbers 0 s.inputs) input_line
    ++ each (numbers 0 s.latches) (latch_line s ws)
    ++ each (numbers 0 s.outputs) (output_line s ws)
    ++ each (numbers 0 s.gates) (gate_line s ws)

unfoldable pub circuit_text : List ℕ → List ℕ
circuit_text ws = sized_text (sizes ws) ws

-- ════════ What is due in a text ════════

-- `aag M I L O A`: sizes are judged as they are read, M's value after A's.
abbrev pub opening : List Reader
opening =
    told (bytes_of "aag")
    ∷ space
    ∷ at_most largest_number
    ∷ space
    ∷ at_most inputs_limit
    ∷ space
    ∷ at_most latches_limit
    ∷ space
    ∷ at_most outputs_limit
    ∷ space
    ∷ at_most gates_limit
    ∷ []

abbrev pub input_due : ℕ → Reader
input_due i = in_turn (exactly (input_literal i) ∷ newline ∷ [])

-- Where a newline stands after the next literal, the reset is 0; else a space, and 0, 1 or the latch's own literal, which is kept as 2.
abbrev pub begins_with : ℕ → List ℕ → Bool
begins_with b [] = false
begins_with b (c ∷ t) = eqb c b

abbrev pub is_reset : ℕ → ℕ → Bool
is_reset own n = eqb n 0 || eqb n 1 || eqb n own

abbrev pub as_reset : ℕ → ℕ → ℕ
as_reset own n = cond (eqb n own) 2 n

abbrev pub kept_as : (ℕ → ℕ) → Reading → Reading
kept_as f (found ns p t) = found (map f ns) p t
kept_as f (fault p) = fault p

abbrev pub reset_word : ℕ → Reader
reset_word own p t = kept_as (as_reset own) (number (is_reset own) p t)

abbrev pub reset_due : ℕ → Reader
reset_due own p t =
    cond (begins_with newline_byte t) (ahead (0 ∷ []) (newline p t)) (in_turn (space ∷ reset_word own ∷ newline ∷ []) p t)

abbrev pub latch_due : Sizes → ℕ → Reader
latch_due s i = in_turn (exactly (latch_literal s i) ∷ space ∷ at_most (largest_literal (circuit s)) ∷ reset_due (latch_literal s i) ∷ [])

abbrev pub output_due : Sizes → ℕ → Reader
output_due s o = in_turn (at_most (largest_literal (circuit s)) ∷ newline ∷ [])

-- "A gate's literals are below its own."
abbrev pub below : ℕ → Reader
below m = number (λ n. ltb n m)

abbrev pub gate_due : Sizes → ℕ → Reader
gate_due s j =
    in_turn
    (exactly (gate_literal s j) ∷ space ∷ below (gate_literal s j) ∷ space ∷ below (gate_literal s j) ∷ newline ∷ [])

-- All that is due after A: the end of the header's line, then the lines.
abbrev pub lines_due : Sizes → List Reader
lines_due s =
    (newline ∷ [])
    ++ map input_due (numbers 0 s.inputs)
    ++ map (latch_due s) (numbers 0 s.latches)
    ++ map (output_due s) (numbers 0 s.outputs)
    ++ map (gate_due s) (numbers 0 s.gates)

-- ════════ The words of a text ════════

-- M, I, L, O, A as they stand in the header.
abbrev pub sizes_read : List ℕ → Sizes
sizes_read ns = record { inputs = word ns 1; latches = word ns 2; gates = word ns 4; outputs = word ns 3 }

-- The numbers kept of the lines are those of the latches, the outputs, the gates; the words are I, L, A, O, latches, gates, outputs.
abbrev pub in_order : Sizes → List ℕ → List ℕ
in_order s ns =
    (s.inputs ∷ s.latches ∷ s.gates ∷ s.outputs ∷ [])
    ++ take (2 * s.latches) ns
    ++ drop (2 * s.latches + s.outputs) ns
    ++ take s.outputs (drop (2 * s.latches) ns)

abbrev pub ordered : Sizes → Reading → Reading
ordered s (found ns p t) = found (in_order s ns) p t
ordered s (fault p) = fault p

-- The place of M's word, after `aag` and a space.
abbrev pub variable_place : ℕ
variable_place = 4

-- M's value is judged after A's, before what follows A.
abbrev pub after_opening : Reading → Reading
after_opening (found ns p t) =
    cond (eqb (word ns 0) (largest_variable (sizes_read ns)))
    (ordered (sizes_read ns) (in_turn (lines_due (sizes_read ns)) p t))
    (fault variable_place)
after_opening (fault p) = fault p

-- The words of a text, how much of it was read, and what is left unread; or the place of the fault.
unfoldable pub circuit_read : List ℕ → Reading
circuit_read text = after_opening (in_turn opening 0 text)
