-- Cases under the finder, each by computing: the counter H of document 01, whose first witness is listed at k = 3 and which has none at k = 2, and
-- the engine, whose fault vanishes under the constraint of Q-6 of document 02. Assumes nothing.
use mathlib.Core.Path.{◌≡◌, refl}
use mathlib.Core.List.{List, [], ◌∷◌}
use Prim.Native.Nat.{ℕ, ◌≤◌}
use native.Mathlib.Omega.{arith}
use borrow.Author.Tests.{le-leb}
use lib.ListN.{length}
use Rattle.answers.specs.Answers.{answer}
use Rattle.answers.specs.Limits.{inputs_limit, latches_limit, gates_limit, nodes_limit, bound_limit, constraints_limit, search_limit}
use Rattle.meaning.specs.Problem.{header_words, problem_by, problem}
use Rattle.meaning.specs.Runs.{values, next_values, meets_constraints}
use Rattle.meaning.specs.Formulas.{formula}
use Rattle.meaning.specs.Witnesses.{run}
use Rattle.meaning.specs.Calls.{judge_bytes, witnesses}
use Rattle.finder.specs.Calls.{find_witness, room_after_finding}
use Rattle.meaning.specs.Cases.{H, engine}

-- H with F 12 at k: 0 2 4 2 k, 3 0, 11 0, 2 5, 3 4, 7 9, 2 4, 0 12 0, 4 0 0
abbrev pub h_finally : ℕ → List ℕ
h_finally k = H 2 k (0 ∷ 12 ∷ 0 ∷ 4 ∷ 0 ∷ 0 ∷ [])

-- "F 12 has none at k=2, 2 at k=3"
pub h_has_two : witnesses (problem 1 (h_finally 3)) ≡ (0 ∷ 0 ∷ 0 ∷ []) ∷ (1 ∷ 0 ∷ 0 ∷ []) ∷ []
unfolding header_words problem_by problem values next_values meets_constraints formula run judge_bytes witnesses
h_has_two = refl

-- ════════ The first witness ════════

pub h_is_found : find_witness 1 (h_finally 3) 3 ≡ answer 0 3
unfolding header_words inputs_limit latches_limit gates_limit nodes_limit bound_limit constraints_limit search_limit problem_by problem values next_values meets_constraints formula run judge_bytes witnesses find_witness
h_is_found = refl

pub h_is_listed : room_after_finding (find_witness 1 (h_finally 3) 3) 1 (h_finally 3) (7 ∷ 7 ∷ 7 ∷ []) ≡ 0 ∷ 0 ∷ 0 ∷ []
unfolding header_words inputs_limit latches_limit gates_limit nodes_limit bound_limit constraints_limit search_limit problem_by problem values next_values meets_constraints formula run judge_bytes witnesses find_witness room_after_finding
h_is_listed = refl

-- In any room that has three bytes; what stands past them stays.
pub h_is_found_in : (n : ℕ) → 3 ≤ n → find_witness 1 (h_finally 3) n ≡ answer 0 3
unfolding header_words inputs_limit latches_limit gates_limit nodes_limit bound_limit constraints_limit search_limit problem_by problem values next_values meets_constraints formula run judge_bytes witnesses find_witness
h_is_found_in n h = rw (le-leb 3 n h)

pub h_is_listed_in : (a b c : ℕ) (rest : List ℕ)
    → room_after_finding (find_witness 1 (h_finally 3) (length (a ∷ b ∷ c ∷ rest))) 1 (h_finally 3) (a ∷ b ∷ c ∷ rest) ≡ 0 ∷ 0 ∷ 0 ∷ rest
unfolding header_words problem_by problem values next_values meets_constraints formula run judge_bytes witnesses room_after_finding
h_is_listed_in a b c rest = rw (h_is_found_in (length (a ∷ b ∷ c ∷ rest)) (omega arith))

-- ════════ None ════════

pub counter_has_none : find_witness 1 (h_finally 2) 3 ≡ answer 29 0
unfolding header_words inputs_limit latches_limit gates_limit nodes_limit bound_limit constraints_limit search_limit problem_by problem values next_values meets_constraints formula run judge_bytes witnesses find_witness
counter_has_none = refl

pub counter_has_none_in : (n : ℕ) → 3 ≤ n → find_witness 1 (h_finally 2) n ≡ answer 29 0
unfolding header_words inputs_limit latches_limit gates_limit nodes_limit bound_limit constraints_limit search_limit problem_by problem values next_values meets_constraints formula run judge_bytes witnesses find_witness
counter_has_none_in n h = rw (le-leb 3 n h)

pub counter_leaves_the_room : (room : List ℕ) → 3 ≤ length room
    → room_after_finding (find_witness 1 (h_finally 2) (length room)) 1 (h_finally 2) room ≡ room
unfolding room_after_finding
counter_leaves_the_room room h = rw (counter_has_none_in (length room) h)

-- ════════ Constraints ════════

-- The engine of version 1, which has no constraints, and that of version 2 with D = 0: both on at position 0 show the fault.
pub fault_is_found_in : (n : ℕ) → 6 ≤ n → find_witness 1 (engine [] []) n ≡ answer 0 6
unfolding header_words inputs_limit latches_limit gates_limit nodes_limit bound_limit constraints_limit search_limit problem_by problem values next_values meets_constraints formula run judge_bytes witnesses find_witness
fault_is_found_in n h = rw (le-leb 6 n h)

pub fault_is_listed : room_after_finding (find_witness 1 (engine [] []) 6) 1 (engine [] []) (7 ∷ 7 ∷ 7 ∷ 7 ∷ 7 ∷ 7 ∷ []) ≡ 0 ∷ 0 ∷ 1 ∷ 1 ∷ 0 ∷ 0 ∷ []
unfolding header_words inputs_limit latches_limit gates_limit nodes_limit bound_limit constraints_limit search_limit problem_by problem values next_values meets_constraints formula run judge_bytes witnesses find_witness room_after_finding
fault_is_listed = refl

pub fault_is_found_without : (n : ℕ) → 6 ≤ n → find_witness 2 (engine (0 ∷ []) []) n ≡ answer 0 6
unfolding header_words inputs_limit latches_limit gates_limit nodes_limit bound_limit constraints_limit search_limit problem_by problem values next_values meets_constraints formula run judge_bytes witnesses find_witness
fault_is_found_without n h = rw (le-leb 6 n h)

-- With the constraint that not both are on there is none.
pub fault_has_none_in : (n : ℕ) → 6 ≤ n → find_witness 2 (engine (1 ∷ []) (13 ∷ [])) n ≡ answer 29 0
unfolding header_words inputs_limit latches_limit gates_limit nodes_limit bound_limit constraints_limit search_limit problem_by problem values next_values meets_constraints formula run judge_bytes witnesses find_witness
fault_has_none_in n h = rw (le-leb 6 n h)

pub fault_leaves_the_room : (room : List ℕ) → 6 ≤ length room
    → room_after_finding (find_witness 2 (engine (1 ∷ []) (13 ∷ [])) (length room)) 2 (engine (1 ∷ []) (13 ∷ [])) room ≡ room
unfolding room_after_finding
fault_leaves_the_room room h = rw (fault_has_none_in (length room) h)
