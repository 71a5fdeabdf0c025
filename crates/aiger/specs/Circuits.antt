-- Document 02, Q-5: "The words read are I, L, A, O, the pairs, then the outputs", and the refusals 1 to 4 of such words. Assumes nothing.
use Rattle.std.specs.Prelude.{List, [], ◌∷◌, ℕ, ◌+◌, ◌*◌, leb, eqb, length}
use Rattle.answers.specs.Answers.{Answer, Check, check, first_failing_part, granted, bad_length}
use Rattle.answers.specs.Limits.{inputs_limit, latches_limit, gates_limit, outputs_limit}
use Rattle.meaning.specs.Problem.{Outline, word}
use Rattle.meaning.specs.Check.{largest_literal, limit_check, literal_check, latch_checks, gate_checks, each_below}

pub record Sizes : Type 0 where
  pub inputs : ℕ
  pub latches : ℕ
  pub gates : ℕ
  pub outputs : ℕ

abbrev pub sizes : List ℕ → Sizes
sizes ws = record { inputs = word ws 0; latches = word ws 1; gates = word ws 2; outputs = word ws 3 }

-- "least length 4"
abbrev pub header_size : ℕ
header_size = 4

-- The latches and gates stand as in a problem's words, after this header; document 01's checks of them go by such an outline. Where a problem has its
-- nodes, a circuit has its outputs; it has no constraints.
abbrev pub circuit : Sizes → Outline
circuit s = record {
  inputs = s.inputs;
  latches = s.latches;
  gates = s.gates;
  constraints = 0;
  written_nodes = 0;
  formula_nodes = 0;
  bound = 0;
  width = s.inputs + s.latches + s.gates;
  latches_from = header_size;
  gates_from = header_size + 2 * s.latches;
  constraints_from = header_size + 2 * s.latches + 2 * s.gates;
  nodes_from = header_size + 2 * s.latches + 2 * s.gates;
}

abbrev pub output_place : Sizes → ℕ → ℕ
output_place s o = (circuit s).nodes_from + o

-- "total 4+2L+2A+O"
abbrev pub words_in_all : Sizes → ℕ
words_in_all s = output_place s s.outputs

-- ════════ The checks ════════

abbrev pub header_checks : List ℕ → List Check
header_checks ws = check (leb header_size (length ws)) (bad_length (length ws)) ∷ []

-- "O is 0 to 64, and I, L and A keep document 01's limits."
abbrev pub limit_checks : List ℕ → List Check
limit_checks ws =
    limit_check ws 0 0 inputs_limit
    ∷ limit_check ws 1 0 latches_limit
    ∷ limit_check ws 2 0 gates_limit
    ∷ limit_check ws 3 0 outputs_limit
    ∷ []

abbrev pub length_checks : Sizes → List ℕ → List Check
length_checks s ws = check (eqb (length ws) (words_in_all s)) (bad_length (length ws)) ∷ []

-- "outputs at most 2W + 1"
abbrev pub output_checks : Sizes → List ℕ → ℕ → List Check
output_checks s ws o = literal_check ws (output_place s o) (largest_literal (circuit s)) ∷ []

-- The length, then the words in order.
abbrev pub sized_parts : Sizes → List ℕ → List (List Check)
sized_parts s ws =
    length_checks s ws
    ∷ each_below s.latches (latch_checks (circuit s) ws)
    ∷ each_below s.gates (gate_checks (circuit s) ws)
    ∷ each_below s.outputs (output_checks s ws)
    ∷ []

-- "The writer refuses bad words by 1 to 4."
abbrev pub circuit_parts : List ℕ → List (List Check)
circuit_parts ws = header_checks ws ∷ limit_checks ws ∷ sized_parts (sizes ws) ws

unfoldable pub check_circuit : List ℕ → Answer
check_circuit ws = first_failing_part (circuit_parts ws) (granted 0)
