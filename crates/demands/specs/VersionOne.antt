-- Document 01, and Q-2 to Q-4 of document 02, of words that are told as version 1, as they were before Q-6: every word at a place written out, and no
-- constraint. 15, for a version that is not known, never comes of them. This is what version 1 keeps. Assumes nothing.
use Rattle.std.specs.Prelude.{Bool, true, false, ◌&&◌, cond, List, [], ◌∷◌, ◌++◌, map, ℕ, zero, suc, ◌+◌, ◌*◌, ◌-◌, ◌%◌, leb, ltb, eqb, length, ℤ}
use Rattle.answers.specs.Lists.{numbers, joined, those, written}
use Rattle.answers.specs.Answers.{Answer, Check, check, first_failing_part, granted, bad_length, bad_literal, bad_node, room_too_small, bad_job}
use Rattle.answers.specs.Limits.{inputs_limit, latches_limit, gates_limit, nodes_limit, bound_limit, job_limit, program_room}
use Rattle.clauses.specs.Clauses.{Clause}
use Rattle.clauses.specs.CnfWords.{words_of}
use Rattle.clauses.specs.Refutations.{refutation_checks, area_checks, step_checks, closing_checks, judged, steps_of, numbers_area, clauses_area, area_after}
use Rattle.meaning.specs.Problem.{Problem, Latch, Gate, Node, word, children, node_of}
use Rattle.meaning.specs.Check.{limit_check, literal_check, reset_check, children_of, second_right, each_below}
use Rattle.meaning.specs.Cnf.{variables, truth_item, gates_item, resets_item, steps_item, closing_item, selectors_item, nodes_item, formula_item}
use Rattle.meaning.specs.Witnesses.{shape, byte_checks, reset_checks, loop_checks, formula_checks, candidates}
use Rattle.counts.specs.declared.Counts.{Counts}
use Rattle.finder.specs.Calls.{finding_checks, first_found, with_first}
use Rattle.job_file.specs.JobFile.{job_header, job_version, job_length, job_words, cnf_text, refusal_line}

-- ════════ The words ════════

-- "A lent slice of 32-bit words: I, L, A, N, k; then .."
abbrev pub I : List ℕ → ℕ
I ws = word ws 0

abbrev pub L : List ℕ → ℕ
L ws = word ws 1

abbrev pub A : List ℕ → ℕ
A ws = word ws 2

abbrev pub N : List ℕ → ℕ
N ws = word ws 3

abbrev pub k : List ℕ → ℕ
k ws = word ws 4

-- "Let W = I + L + A."
abbrev pub W : List ℕ → ℕ
W ws = I ws + L ws + A ws

-- ".. then L pairs (next literal, reset); A pairs (left, right literal); N triples (op, a, b)": where each begins.
abbrev pub latch_from : ℕ → ℕ
latch_from i = 5 + 2 * i

abbrev pub gate_from : List ℕ → ℕ → ℕ
gate_from ws j = 5 + 2 * L ws + 2 * j

abbrev pub node_from : List ℕ → ℕ → ℕ
node_from ws n = 5 + 2 * L ws + 2 * A ws + 3 * n

abbrev pub latch_in_01 : List ℕ → ℕ → Latch
latch_in_01 ws i = record { next = word ws (latch_from i); reset = word ws (latch_from i + 1) }

abbrev pub gate_in_01 : List ℕ → ℕ → Gate
gate_in_01 ws j = record { left = word ws (gate_from ws j); right = word ws (gate_from ws j + 1) }

abbrev pub node_in_01 : List ℕ → ℕ → Node
node_in_01 ws n = node_of (word ws (node_from ws n)) (word ws (node_from ws n + 1)) (word ws (node_from ws n + 2))

-- The problem of the words. The record has constraints now, and here it has none.
unfoldable pub problem_in_01 : List ℕ → Problem
problem_in_01 ws = record {
  inputs = I ws;
  latches = map (latch_in_01 ws) (numbers 0 (L ws));
  gates = map (gate_in_01 ws) (numbers 0 (A ws));
  constraints = [];
  nodes = map (node_in_01 ws) (numbers 0 (N ws));
  bound = k ws;
}

-- ════════ The check ════════

-- 1: "under 5 words"
abbrev pub five_words : List ℕ → List Check
five_words ws = check (leb 5 (length ws)) (bad_length (length ws)) ∷ []

-- 2: "I and L 0 to 64, A 0 to 1,024, N 1 to 64, k 0 to 31"
abbrev pub within_limits : List ℕ → List Check
within_limits ws =
    limit_check ws 0 0 inputs_limit
    ∷ limit_check ws 1 0 latches_limit
    ∷ limit_check ws 2 0 gates_limit
    ∷ limit_check ws 3 1 nodes_limit
    ∷ limit_check ws 4 0 bound_limit
    ∷ []

-- 1: "or length not 5+2L+2A+3N"
abbrev pub right_length : List ℕ → List Check
right_length ws = check (eqb (length ws) (5 + 2 * L ws + 2 * A ws + 3 * N ws)) (bad_length (length ws)) ∷ []

-- 4 and 3: "A next literal is at most 2W + 1. Reset is 0, 1, or 2 for free."
abbrev pub latch_right : List ℕ → ℕ → List Check
latch_right ws i = literal_check ws (latch_from i) (2 * W ws + 1) ∷ reset_check ws (latch_from i + 1) ∷ []

-- 4: "A gate is the AND of two literals, each below twice its own variable."
abbrev pub below_own : List ℕ → ℕ → ℕ → Check
below_own ws j at = check (ltb (word ws at) (2 * (I ws + L ws + j + 1))) (bad_literal at)

abbrev pub gate_right : List ℕ → ℕ → List Check
gate_right ws j = below_own ws j (gate_from ws j) ∷ below_own ws j (gate_from ws j + 1) ∷ []

-- "0 atom (a is a circuit literal at most 2W + 1)"; "Children are earlier node numbers".
abbrev pub a_right : List ℕ → ℕ → ℕ → ℕ → Bool
a_right ws n zero a = leb a (2 * W ws + 1)
a_right ws n (suc c) a = ltb a n

-- 5: the op is one of the eight, then its a and its b.
abbrev pub node_right : List ℕ → ℕ → List Check
node_right ws n =
    check (ltb (word ws (node_from ws n)) 8) (bad_node (node_from ws n))
    ∷ check (a_right ws n (children_of children (word ws (node_from ws n))) (word ws (node_from ws n + 1))) (bad_node (node_from ws n + 1))
    ∷ check (second_right n (children_of children (word ws (node_from ws n))) (word ws (node_from ws n + 2))) (bad_node (node_from ws n + 2))
    ∷ []

-- "5 words, limits, length, then words in order"
abbrev pub check_in_01 : List ℕ → List (List Check)
check_in_01 ws =
    five_words ws
    ∷ within_limits ws
    ∷ right_length ws
    ∷ each_below (L ws) (latch_right ws)
    ∷ each_below (A ws) (gate_right ws)
    ∷ each_below (N ws) (node_right ws)
    ∷ []

unfoldable pub check_problem_in_01 : List ℕ → Answer
check_problem_in_01 ws = first_failing_part (check_in_01 ws) (granted 0)

-- ════════ Write the CNF ════════

-- Items 1 to 8, in order.
abbrev pub items_in_01 : Problem → List (List Clause)
items_in_01 p =
    truth_item
    ∷ gates_item p
    ∷ resets_item p
    ∷ steps_item p
    ∷ closing_item p
    ∷ selectors_item p
    ∷ nodes_item p
    ∷ formula_item p
    ∷ []

unfoldable pub cnf_in_01 : Problem → List Clause
cnf_in_01 p = joined (items_in_01 p)

unfoldable pub cnf_words_in_01 : Problem → List ℤ
cnf_words_in_01 p = words_of (cnf_in_01 p)

-- Its numbers, which the answers of the check and of the writer carry.
abbrev pub counts_in_01 : Problem → Counts
counts_in_01 p = record { variables = variables p; clauses = length (cnf_in_01 p); words = length (cnf_words_in_01 p) }

-- 6: the room has fewer words than the CNF.
abbrev pub room_checks_in_01 : Problem → ℕ → List Check
room_checks_in_01 p room = check (leb (length (cnf_words_in_01 p)) room) (room_too_small (length (cnf_words_in_01 p))) ∷ []

-- "then 6"
abbrev pub writing_parts_in_01 : List ℕ → ℕ → List (List Check)
writing_parts_in_01 ws room = check_in_01 ws ++ (room_checks_in_01 (problem_in_01 ws) room ∷ [])

unfoldable pub write_cnf_in_01 : List ℕ → ℕ → Answer
write_cnf_in_01 ws room = first_failing_part (writing_parts_in_01 ws room) (granted (length (cnf_words_in_01 (problem_in_01 ws))))

-- At yes the room holds the CNF and then what it held; at a refusal it is unchanged.
unfoldable pub room_after_writing_in_01 : Answer → List ℕ → List ℤ → List ℤ
room_after_writing_in_01 a ws room = cond (eqb a.number 0) (written (cnf_words_in_01 (problem_in_01 ws)) room) room

-- ════════ Judge a witness ════════

-- "then 7 to 10"
abbrev pub witness_parts_in_01 : Problem → List ℕ → List (List Check)
witness_parts_in_01 p bs = byte_checks p bs ∷ reset_checks p bs ∷ loop_checks p bs (shape bs) ∷ formula_checks p bs ∷ []

-- Of a problem that is given.
unfoldable pub judge_bytes_in_01 : Problem → List ℕ → Answer
judge_bytes_in_01 p bs = first_failing_part (witness_parts_in_01 p bs) (granted 0)

unfoldable pub judge_witness_in_01 : List ℕ → List ℕ → Answer
judge_witness_in_01 ws bs = first_failing_part (check_in_01 ws ++ witness_parts_in_01 (problem_in_01 ws) bs) (granted 0)

-- ════════ Q-3: find a witness ════════

-- All witnesses, in byte order: those that the judge accepts.
unfoldable pub witnesses_in_01 : Problem → List (List ℕ)
witnesses_in_01 p = those (λ bs. eqb (judge_bytes_in_01 p bs).number 0) (candidates p)

-- "after 1 to 5, refusal 17", then 18, then the first witness or 29.
unfoldable pub find_witness_in_01 : List ℕ → ℕ → Answer
find_witness_in_01 ws room =
    first_failing_part (check_in_01 ws ++ (finding_checks (problem_in_01 ws) room ∷ [])) (first_found (witnesses_in_01 (problem_in_01 ws)))

-- At yes the room holds the first witness and then what it held; else it is unchanged.
unfoldable pub room_after_finding_in_01 : Answer → List ℕ → List ℕ → List ℕ
room_after_finding_in_01 a ws room = cond (eqb a.number 0) (with_first (witnesses_in_01 (problem_in_01 ws)) room) room

-- ════════ Judge a refutation of a problem's CNF ════════

-- "then 6; then .. 11, 12, 13, 14": the numbers are the lengths of the CNF room and of the work areas.
abbrev pub refutation_parts_in_01 : Problem → List ℤ → ℕ → ℕ → ℕ → List (List Check)
refutation_parts_in_01 p refutation room by_numbers by_clauses =
    room_checks_in_01 p room
    ∷ refutation_checks (variables p) (length (cnf_in_01 p)) refutation
    ∷ area_checks (variables p) (cnf_in_01 p) (steps_of refutation) by_numbers by_clauses
    ∷ step_checks (cnf_in_01 p) 0 (steps_of refutation)
    ∷ closing_checks (steps_of refutation)
    ∷ []

unfoldable pub judge_refutation_in_01 : List ℕ → List ℤ → ℕ → ℕ → ℕ → Answer
judge_refutation_in_01 ws refutation room by_numbers by_clauses =
    first_failing_part (check_in_01 ws ++ refutation_parts_in_01 (problem_in_01 ws) refutation room by_numbers by_clauses) (granted 0)

-- "In a problem's refutation the CNF room holds the CNF at 0, 13 and 14."
unfoldable pub room_after_judging_in_01 : Answer → List ℕ → List ℤ → List ℤ
room_after_judging_in_01 a ws room = cond (judged a) (written (cnf_words_in_01 (problem_in_01 ws)) room) room

-- The work areas after it.
unfoldable pub numbers_area_after_in_01 : Answer → List ℕ → List ℕ → List ℕ
numbers_area_after_in_01 a ws area = area_after a (numbers_area (variables (problem_in_01 ws))) area

unfoldable pub clauses_area_after_in_01 : Answer → List ℕ → List ℤ → List ℕ → List ℕ
clauses_area_after_in_01 a ws refutation area = area_after a (clauses_area (cnf_in_01 (problem_in_01 ws)) (steps_of refutation)) area

-- ════════ The program ════════

-- 15: "more bytes (place 16,384), under 5 (place the length), version (0), length wrong or not a multiple of 4 (1), in this order"; the version byte is 1.
unfoldable pub job_checks_in_01 : List ℕ → List Check
job_checks_in_01 bs =
    check (leb (length bs) job_limit) (bad_job job_limit)
    ∷ check (leb job_header (length bs)) (bad_job (length bs))
    ∷ check (eqb (job_version bs) 1) (bad_job 0)
    ∷ check (eqb (job_length bs) (length bs - job_header) && eqb (job_length bs % 4) 0) (bad_job 1)
    ∷ []

-- 15 of its bytes, then as of writing the CNF, 1 to 6, or yes.
unfoldable pub job_answer_in_01 : List ℕ → Answer
job_answer_in_01 bs =
    first_failing_part
    (job_checks_in_01 bs ∷ writing_parts_in_01 (job_words bs) program_room)
    (granted (length (cnf_words_in_01 (problem_in_01 (job_words bs)))))

-- What the program printed for its standard input.
unfoldable pub printed_in_01 : List ℕ → List ℕ
printed_in_01 bs =
    elim (eqb (job_answer_in_01 bs).number 0) [
      | true ↦ cnf_text (variables (problem_in_01 (job_words bs))) (cnf_in_01 (problem_in_01 (job_words bs)))
      | false ↦ refusal_line (job_answer_in_01 bs)
    ]
