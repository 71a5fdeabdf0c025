-- Document 01, "Answers": a number and a place, the order of checks, and the rows of the table. A later request's row stands with its call, but for 27,
-- which several calls give. Assumes nothing.
use Rattle.std.specs.Prelude.{Bool, cond, List, [], ◌∷◌, ℕ}

pub record Answer : Type 0 where
  pub number : ℕ
  pub place : ℕ

abbrev pub answer : ℕ → ℕ → Answer
answer n p = record { number = n; place = p }

-- ════════ The order of checks ════════

-- One check: whether it passes, and the answer where it does not.
pub record Check : Type 0 where
  pub passes : Bool
  pub otherwise : Answer

abbrev pub check : Bool → Answer → Check
check b a = record { passes = b; otherwise = a }

-- The first check that fails gives the answer; where all pass, what comes after them does.
abbrev pub first_failing : List Check → Answer → Answer
first_failing [] after = after
first_failing (c ∷ cs) after = cond c.passes (first_failing cs after) c.otherwise

-- The same of checks in parts, one part after another: a call's order of answers is such a list.
abbrev pub first_failing_part : List (List Check) → Answer → Answer
first_failing_part [] after = after
first_failing_part (p ∷ ps) after = first_failing p (first_failing_part ps after)

-- ════════ The table ════════

-- "Answer 0 is yes; its place is the words or bytes written where an output was asked for, and 0 otherwise."
abbrev pub granted : ℕ → Answer
granted = answer 0

-- 1: under 5 words, or length not 5+2L+2A+3N (version 2: 6, and 6+2L+2A+D+3N; a circuit: 4, and 4+2L+2A+O); the length
abbrev pub bad_length : ℕ → Answer
bad_length = answer 1

-- 2: I, L, A, N, k or D, of a circuit O, outside limits; the word
abbrev pub outside_limits : ℕ → Answer
outside_limits = answer 2

-- 3: reset over 2; the word
abbrev pub bad_reset : ℕ → Answer
bad_reset = answer 3

-- 4: next, gate or constraint literal, of a circuit an output, out of range; the word
abbrev pub bad_literal : ℕ → Answer
bad_literal = answer 4

-- 5: op, child, atom literal or unused b wrong; the word
abbrev pub bad_node : ℕ → Answer
bad_node = answer 5

-- 6: CNF room too small; the words needed
abbrev pub room_too_small : ℕ → Answer
room_too_small = answer 6

-- 7: witness length, or a byte out of range; the length, or the byte
abbrev pub bad_witness : ℕ → Answer
bad_witness = answer 7

-- 8: latch against its reset; the byte
abbrev pub against_reset : ℕ → Answer
against_reset = answer 8

-- 9: loop does not close; the first latch, from 0
abbrev pub open_loop : ℕ → Answer
open_loop = answer 9

-- 10: formula false at 0; 0
abbrev pub formula_false : ℕ → Answer
formula_false = answer 10

-- 11: refutation cut short, literal over V, hint not an earlier clause; the length, or the word
abbrev pub bad_refutation : ℕ → Answer
bad_refutation = answer 11

-- 12: work area too small; the words needed
abbrev pub area_too_small : ℕ → Answer
area_too_small = answer 12

-- 13: step refused; the step, from 0
abbrev pub step_refused : ℕ → Answer
step_refused = answer 13

-- 14: no steps, or last clause not empty; the steps
abbrev pub not_closed : ℕ → Answer
not_closed = answer 14

-- 15: job file; see there
abbrev pub bad_job : ℕ → Answer
bad_job = answer 15

-- 16: V over the limit, literal over V, cut short; 0, the word, the length
abbrev pub bad_cnf : ℕ → Answer
bad_cnf = answer 16

-- 27: room for words or for text too small; the words or bytes needed
abbrev pub output_room_too_small : ℕ → Answer
output_room_too_small = answer 27
