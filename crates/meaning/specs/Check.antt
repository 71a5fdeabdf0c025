-- Document 01, and Q-6 of document 02: the checks of a problem's words, 15 and 1 to 5, each with its number and place; their order stands in Calls.
-- This is what is signed for "well formed". Assumes nothing.
use Rattle.std.specs.Prelude.{Bool, ◌&&◌, List, [], ◌∷◌, ℕ, zero, suc, ◌+◌, ◌*◌, leb, ltb, eqb, length, get_or}
use Rattle.answers.specs.Lists.{numbers, each}
use Rattle.answers.specs.Answers.{Check, check, bad_length, outside_limits, bad_reset, bad_literal, bad_node, bad_job}
use Rattle.answers.specs.Limits.{inputs_limit, latches_limit, gates_limit, nodes_limit, bound_limit, constraints_limit}
use Rattle.meaning.specs.Problem.{Outline, header_words, word, header_word, latch_place, gate_place, constraint_place, node_place, words_in_all}

-- ════════ The rules ════════

-- "Literal 2v is variable v, 2v + 1 its negation": the literals of W variables are at most 2W + 1.
abbrev pub largest_literal : Outline → ℕ
largest_literal o = 2 * o.width + 1

-- "each below twice its own variable"
abbrev pub gate_limit : Outline → ℕ → ℕ
gate_limit o j = 2 * (o.inputs + o.latches + j + 1)

abbrev pub largest_reset : ℕ
largest_reset = 2

-- The word a of a node with so many children: an atom's literal, or an earlier node.
abbrev pub first_right : Outline → ℕ → ℕ → ℕ → Bool
first_right o n zero a = leb a (largest_literal o)
first_right o n (suc c) a = ltb a n

-- The word b: an earlier node where there is a second child; "an unused b is 0".
abbrev pub second_right : ℕ → ℕ → ℕ → Bool
second_right n zero b = eqb b 0
second_right n (suc zero) b = eqb b 0
second_right n (suc (suc c)) b = ltb b n

-- How many children an op has, by a table of the ops that there are.
abbrev pub children_of : List ℕ → ℕ → ℕ
children_of table op = get_or table op 0

-- ════════ The checks ════════

-- "The library's problem calls are told the version too; one not known is 15, place 0"; then a header's words have to be there.
abbrev pub header_checks : ℕ → List ℕ → List Check
header_checks version ws =
    check (ltb 0 (header_words version)) (bad_job 0)
    ∷ check (leb (header_words version) (length ws)) (bad_length (length ws))
    ∷ []

-- The header's word at a place is within its limits.
abbrev pub limit_check : List ℕ → ℕ → ℕ → ℕ → Check
limit_check ws i least most = check (leb least (word ws i) && leb (word ws i) most) (outside_limits i)

-- D is within its limit; a header without it passes.
abbrev pub constraints_check : ℕ → List ℕ → Check
constraints_check version ws = check (leb (header_word version ws 5) constraints_limit) (outside_limits 5)

abbrev pub limit_checks : ℕ → List ℕ → List Check
limit_checks version ws =
    limit_check ws 0 0 inputs_limit
    ∷ limit_check ws 1 0 latches_limit
    ∷ limit_check ws 2 0 gates_limit
    ∷ limit_check ws 3 1 nodes_limit
    ∷ limit_check ws 4 0 bound_limit
    ∷ constraints_check version ws
    ∷ []

abbrev pub length_checks : Outline → List ℕ → List Check
length_checks o ws = check (eqb (length ws) (words_in_all o)) (bad_length (length ws)) ∷ []

-- A literal's word is at most so large; a reset's is at most 2.
abbrev pub literal_check : List ℕ → ℕ → ℕ → Check
literal_check ws at most = check (leb (word ws at) most) (bad_literal at)

abbrev pub reset_check : List ℕ → ℕ → Check
reset_check ws at = check (leb (word ws at) largest_reset) (bad_reset at)

abbrev pub latch_checks : Outline → List ℕ → ℕ → List Check
latch_checks o ws i = literal_check ws (latch_place o i) (largest_literal o) ∷ reset_check ws (latch_place o i + 1) ∷ []

abbrev pub gate_checks : Outline → List ℕ → ℕ → List Check
gate_checks o ws j =
    check (ltb (word ws (gate_place o j)) (gate_limit o j)) (bad_literal (gate_place o j))
    ∷ check (ltb (word ws (gate_place o j + 1)) (gate_limit o j)) (bad_literal (gate_place o j + 1))
    ∷ []

-- "D literals, each at most 2W + 1"
abbrev pub constraint_checks : Outline → List ℕ → ℕ → List Check
constraint_checks o ws c = literal_check ws (constraint_place o c) (largest_literal o) ∷ []

-- By the table of how many children each op has; an op past its end is not known.
abbrev pub node_checks : List ℕ → Outline → List ℕ → ℕ → List Check
node_checks table o ws n =
    check (ltb (word ws (node_place o n)) (length table)) (bad_node (node_place o n))
    ∷ check (first_right o n (children_of table (word ws (node_place o n))) (word ws (node_place o n + 1))) (bad_node (node_place o n + 1))
    ∷ check (second_right n (children_of table (word ws (node_place o n))) (word ws (node_place o n + 2))) (bad_node (node_place o n + 2))
    ∷ []

-- The checks of so many numbers from 0 on.
abbrev pub each_below : ℕ → (ℕ → List Check) → List Check
each_below n f = each (numbers 0 n) f
