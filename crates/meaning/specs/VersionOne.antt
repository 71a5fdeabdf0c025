-- Document 01's check, CNF and judge of a witness, without the constraints of Q-6 of document 02: what version 1 keeps. Assumes nothing.
use Rattle.std.specs.Prelude.{List, [], ◌∷◌, ℕ}
use Rattle.answers.specs.Answers.{Check}
use Rattle.clauses.specs.Clauses.{Clause}
use Rattle.answers.specs.Limits.{inputs_limit, latches_limit, gates_limit, nodes_limit, bound_limit}
use Rattle.meaning.specs.Problem.{Problem, outline, children}
use Rattle.meaning.specs.Check.{header_checks, limit_check, length_checks, latch_checks, gate_checks, node_checks, each_below}
use Rattle.meaning.specs.Witnesses.{shape, byte_checks, reset_checks, loop_checks, formula_checks}
use Rattle.meaning.specs.Cnf.{truth_item, gates_item, resets_item, steps_item, closing_item, selectors_item, nodes_item, formula_item}

-- "5 words, limits, length, then words in order"
abbrev pub check_before : List ℕ → List (List Check)
check_before ws =
    header_checks 1 ws
    ∷ (limit_check ws 0 0 inputs_limit
    ∷ limit_check ws 1 0 latches_limit
    ∷ limit_check ws 2 0 gates_limit
    ∷ limit_check ws 3 1 nodes_limit
    ∷ limit_check ws 4 0 bound_limit
    ∷ [])
    ∷ length_checks (outline 1 ws) ws
    ∷ each_below (outline 1 ws).latches (latch_checks (outline 1 ws) ws)
    ∷ each_below (outline 1 ws).gates (gate_checks (outline 1 ws) ws)
    ∷ each_below (outline 1 ws).written_nodes (node_checks children (outline 1 ws) ws)
    ∷ []

-- Items 1 to 8 as document 01 has them.
abbrev pub items_before : Problem → List (List Clause)
items_before p =
    truth_item
    ∷ gates_item p
    ∷ resets_item p
    ∷ steps_item p
    ∷ closing_item p
    ∷ selectors_item p
    ∷ nodes_item p
    ∷ formula_item p
    ∷ []

-- "then 7 to 10"
abbrev pub witness_parts_before : Problem → List ℕ → List (List Check)
witness_parts_before p bs = byte_checks p bs ∷ reset_checks p bs ∷ loop_checks p bs (shape bs) ∷ formula_checks p bs ∷ []
