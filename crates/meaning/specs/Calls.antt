-- Document 01, and Q-6 of document 02: the whole answer of each problem call, and every lent buffer after it. "Order: 5 words, limits, length,
-- then words in order; then 6; then 7 to 10, or 11, 12, 13, 14": each call's order is one list of parts, and the first check in it that fails answers.
-- Assumes nothing.
use Rattle.std.specs.Prelude.{Bool, cond, List, [], ◌∷◌, ◌++◌, ◌≡◌, ℕ, leb, eqb, length, ℤ}
use Rattle.answers.specs.Lists.{those, written}
use Rattle.answers.specs.Answers.{Answer, Check, check, first_failing_part, granted, room_too_small}
use Rattle.clauses.specs.Refutations.{refutation_checks, area_checks, step_checks, closing_checks, judged, steps_of, numbers_area, clauses_area, area_after}
use Rattle.meaning.specs.Problem.{Problem, Outline, outline, children, problem}
use Rattle.meaning.specs.Check.{header_checks, limit_checks, length_checks, latch_checks, gate_checks, constraint_checks, node_checks, each_below}
use Rattle.meaning.specs.Witnesses.{shape, byte_checks, reset_checks, loop_checks, position_checks, formula_checks, candidates}
use Rattle.meaning.specs.Cnf.{cnf, cnf_words, variables}

-- ════════ The order of answers ════════

-- ".. length, then words in order": 1, then 4 and 3 of each latch, 4 of each gate and each constraint, 5 of each node.
-- The ops that there are, each with its children, are those of a table.
abbrev pub outline_parts_with : List ℕ → Outline → List ℕ → List (List Check)
outline_parts_with table o ws =
    length_checks o ws
    ∷ each_below o.latches (latch_checks o ws)
    ∷ each_below o.gates (gate_checks o ws)
    ∷ each_below o.constraints (constraint_checks o ws)
    ∷ each_below o.written_nodes (node_checks table o ws)
    ∷ []

-- "5 words, limits, ..": 15 and 1, then 2, then those.
abbrev pub check_parts_with : List ℕ → ℕ → List ℕ → List (List Check)
check_parts_with table version ws = header_checks version ws ∷ limit_checks version ws ∷ outline_parts_with table (outline version ws) ws

-- A problem's ops are document 01's eight.
abbrev pub check_parts : ℕ → List ℕ → List (List Check)
check_parts = check_parts_with children

-- 6: the room has fewer words than the CNF.
abbrev pub room_checks : Problem → ℕ → List Check
room_checks p room = check (leb (length (cnf_words p)) room) (room_too_small (length (cnf_words p))) ∷ []

-- "then 6"
abbrev pub writing_parts : ℕ → List ℕ → ℕ → List (List Check)
writing_parts version ws room = check_parts version ws ++ (room_checks (problem version ws) room ∷ [])

-- "then 7 to 10"; 20 "after 9 and before 10".
abbrev pub witness_parts : Problem → List ℕ → List (List Check)
witness_parts p bs =
    byte_checks p bs ∷ reset_checks p bs ∷ loop_checks p bs (shape bs) ∷ position_checks p bs ∷ formula_checks p bs ∷ []

-- ".. or 11, 12", after 6: what is checked before the steps are judged. The last three numbers are the lengths of the CNF room and of the
-- work areas.
abbrev pub preparing_parts : Problem → List ℤ → ℕ → ℕ → ℕ → List (List Check)
preparing_parts p refutation room by_numbers by_clauses =
    room_checks p room
    ∷ refutation_checks (variables p) (length (cnf p)) refutation
    ∷ area_checks (variables p) (cnf p) (steps_of refutation) by_numbers by_clauses
    ∷ []

-- "13, 14"
abbrev pub step_parts : Problem → List ℤ → List (List Check)
step_parts p refutation = step_checks (cnf p) 0 (steps_of refutation) ∷ closing_checks (steps_of refutation) ∷ []

-- ════════ Check a problem ════════

unfoldable pub check_problem : ℕ → List ℕ → Answer
check_problem version ws = first_failing_part (check_parts version ws) (granted 0)

-- Words are well formed where the check says yes.
abbrev pub WellFormed : ℕ → List ℕ → Type 0
WellFormed version ws = check_problem version ws ≡ granted 0

-- ════════ Write the CNF ════════

-- At yes the place is the number of words written.
unfoldable pub write_cnf : ℕ → List ℕ → ℕ → Answer
write_cnf version ws room = first_failing_part (writing_parts version ws room) (granted (length (cnf_words (problem version ws))))

-- At yes the room holds the CNF and then what it held; at a refusal it is unchanged.
unfoldable pub room_after_writing : Answer → ℕ → List ℕ → List ℤ → List ℤ
room_after_writing a version ws room = cond (eqb a.number 0) (written (cnf_words (problem version ws)) room) room

-- ════════ Judge a witness ════════

-- Of a problem that is given.
unfoldable pub judge_bytes : Problem → List ℕ → Answer
judge_bytes p bs = first_failing_part (witness_parts p bs) (granted 0)

-- Of words that nobody has checked yet. "Witness judging changes nothing."
unfoldable pub judge_witness : ℕ → List ℕ → List ℕ → Answer
judge_witness version ws bs = first_failing_part (check_parts version ws ++ witness_parts (problem version ws) bs) (granted 0)

-- All witnesses, in byte order: those that the judge accepts.
abbrev pub accepted : Problem → List ℕ → Bool
accepted p bs = eqb (judge_bytes p bs).number 0

unfoldable pub witnesses : Problem → List (List ℕ)
witnesses p = those (accepted p) (candidates p)

-- ════════ Judge a refutation of a problem's CNF ════════

unfoldable pub judge_refutation : ℕ → List ℕ → List ℤ → ℕ → ℕ → ℕ → Answer
judge_refutation version ws refutation room by_numbers by_clauses =
    first_failing_part
    (check_parts version ws
    ++ preparing_parts (problem version ws) refutation room by_numbers by_clauses
    ++ step_parts (problem version ws) refutation)
    (granted 0)

-- "In a problem's refutation the CNF room holds the CNF at 0, 13 and 14."
unfoldable pub room_after_judging : Answer → ℕ → List ℕ → List ℤ → List ℤ
room_after_judging a version ws room = cond (judged a) (written (cnf_words (problem version ws)) room) room

-- The work areas after it.
unfoldable pub numbers_area_after : Answer → ℕ → List ℕ → List ℕ → List ℕ
numbers_area_after a version ws area = area_after a (numbers_area (variables (problem version ws))) area

unfoldable pub clauses_area_after : Answer → ℕ → List ℕ → List ℤ → List ℕ → List ℕ
clauses_area_after a version ws refutation area = area_after a (clauses_area (cnf (problem version ws)) (steps_of refutation)) area
