-- "Version 1 files mean D = 0 and keep every answer": each call's answer, and every lent buffer after it, are in version 1 those of the documents before
-- constraints; of the definitions, and of every outcome that meets a call's promise. Assumes nothing.
use mathlib.Core.Path.{◌≡◌, refl, sym, ◌∙◌, ap}
use mathlib.Core.Bool.{true}
use mathlib.Core.List.{List, [], ◌∷◌, ◌++◌}
use Prim.Native.Nat.{ℕ, zero, suc, ◌+◌, ◌*◌}
use native.Mathlib.Omega.{arith}
use lib.{Dec.eqb, IntN.ℤ, ListN.length}
use Rattle.std.specs.Prelude.{Result, Ok}
use Rattle.answers.specs.Lists.{all_of, numbers, each, those}
use Rattle.answers.specs.Answers.{Answer, Check, check, first_failing, first_failing_part, granted}
use Rattle.answers.specs.Limits.{constraints_limit}
use Rattle.answers.proofs.Tests.{all_of_map}
use Rattle.answers.proofs.Answers.{passing, first_failing_passed, parts_append}
use Rattle.clauses.specs.Clauses.{Clause}
use Rattle.clauses.specs.CnfWords.{words_of}
use Rattle.meaning.specs.Problem.{Problem, Outline, children, word, header_words, problem_by, problem}
use Rattle.meaning.specs.Check.{first_right, node_checks, each_below}
use Rattle.meaning.specs.Runs.{meets_constraints}
use Rattle.meaning.specs.Cnf.{positions, constraints_item, cnf, cnf_words}
use Rattle.meaning.specs.Witnesses.{constraint_broken, shape, position, byte_checks, reset_checks, loop_checks, position_checks, formula_checks, candidates}
use Rattle.meaning.specs.Calls.{outline_parts_with, check_parts, check_problem, room_checks, write_cnf, room_after_writing, witness_parts}
use Rattle.meaning.specs.Calls.{judge_bytes, judge_witness, witnesses, preparing_parts, step_parts, judge_refutation, room_after_judging, numbers_area_after, clauses_area_after}
use Rattle.meaning.proofs.Numbers.{all_of_numbers_if}
use Rattle.finder.specs.Calls.{finding_checks, first_found, find_witness, room_after_finding}
use Rattle.counts.specs.declared.Counts.{Counts}
use Rattle.counts.specs.Promise.{counts_of}
use Rattle.problem.specs.declared.ProblemRecord.{ProblemRecord}
use Rattle.problem.specs.declared.Refusal.{Refusal}
use Rattle.problem.specs.Promise as checking
use Rattle.problem.specs.Promise.{CheckedAs}
use Rattle.encoder.specs.declared.NotWritten.{NotWritten}
use Rattle.encoder.specs.Promise as encoding
use Rattle.encoder.specs.Promise.{EncodedAs}
use Rattle.witness.specs.declared.NotWitness.{NotWitness}
use Rattle.witness.specs.Promise as witnessing
use Rattle.finder.specs.declared.NotFound.{NotFound}
use Rattle.finder.specs.Promise as finding
use Rattle.finder.specs.Promise.{FoundAs}
use Rattle.checker.specs.declared.Unrefuted.{Unrefuted}
use Rattle.checker.specs.Refutation.{refuted_answer, JudgedAs}
use Rattle.demands.specs.VersionOne.{problem_in_01, check_in_01, check_problem_in_01}
use Rattle.demands.specs.VersionOne.{L, A, N, five_words, within_limits, right_length, latch_right, gate_right, a_right, node_right}
use Rattle.demands.specs.VersionOne.{cnf_in_01, cnf_words_in_01, counts_in_01, write_cnf_in_01, room_after_writing_in_01}
use Rattle.demands.specs.VersionOne.{witness_parts_in_01, judge_bytes_in_01, judge_witness_in_01}
use Rattle.demands.specs.VersionOne.{witnesses_in_01, find_witness_in_01, room_after_finding_in_01}
use Rattle.demands.specs.VersionOne.{judge_refutation_in_01, room_after_judging_in_01, numbers_area_after_in_01, clauses_area_after_in_01}

-- ════════ The problem ════════

-- D is 0: the nodes begin right after the gates.
nothing_between : (ws : List ℕ) → 5 + 2 * word ws 1 + 2 * word ws 2 + 0 ≡ 5 + 2 * word ws 1 + 2 * word ws 2
nothing_between ws = omega arith

pub problem_in_version_1 : (ws : List ℕ) → problem 1 ws ≡ problem_in_01 ws
unfolding header_words problem_by problem problem_in_01
problem_in_version_1 ws = rw (nothing_between ws)

none_before : (ws : List ℕ) → (problem_in_01 ws).constraints ≡ []
unfolding problem_in_01
none_before ws = refl

-- ════════ The check ════════

-- The outline in version 1, but for where its nodes begin.
abbrev nodes_at : List ℕ → ℕ → Outline
nodes_at ws from = record {
  inputs = word ws 0;
  latches = word ws 1;
  gates = word ws 2;
  constraints = 0;
  written_nodes = word ws 3;
  formula_nodes = word ws 3;
  bound = word ws 4;
  width = word ws 0 + word ws 1 + word ws 2;
  latches_from = 5;
  gates_from = 5 + 2 * word ws 1;
  constraints_from = 5 + 2 * word ws 1 + 2 * word ws 2;
  nodes_from = from;
}

abbrev after_gates : List ℕ → Outline
after_gates ws = nodes_at ws (5 + 2 * word ws 1 + 2 * word ws 2)

same_a : (ws : List ℕ) (n c a : ℕ) → first_right (after_gates ws) n c a ≡ a_right ws n c a
same_a ws n zero a = refl
same_a ws n (suc c) a = refl

same_node : (ws : List ℕ) (n : ℕ) → node_checks children (after_gates ws) ws n ≡ node_right ws n
same_node ws n = rw (same_a ws)

-- Whatever comes after the check.
pub check_in_version_1 : (ws : List ℕ) (after : Answer) → first_failing_part (check_parts 1 ws) after ≡ first_failing_part (check_in_01 ws) after
unfolding header_words constraints_limit
check_in_version_1 ws after =
    ap (λ (from : ℕ). first_failing_part (five_words ws ∷ within_limits ws ∷ outline_parts_with children (nodes_at ws from) ws) after) (nothing_between ws)
    ∙ (λ i. first_failing_part
    (five_words ws
    ∷ within_limits ws
    ∷ right_length ws
    ∷ each_below (L ws) (latch_right ws)
    ∷ each_below (A ws) (gate_right ws)
    ∷ each_below (N ws) (λ n. same_node ws n i)
    ∷ []) after)

-- And so where a call has further parts after it.
check_then : (ws : List ℕ) (parts : List (List Check)) (after : Answer)
    → first_failing_part (check_parts 1 ws ++ parts) after ≡ first_failing_part (check_in_01 ws ++ parts) after
check_then ws parts after =
    parts_append (check_parts 1 ws) parts after
    ∙ check_in_version_1 ws (first_failing_part parts after)
    ∙ sym (parts_append (check_in_01 ws) parts after)

pub check_problem_in_version_1 : (ws : List ℕ) → check_problem 1 ws ≡ check_problem_in_01 ws
unfolding check_problem check_problem_in_01
check_problem_in_version_1 ws = check_in_version_1 ws (granted 0)

-- ════════ The CNF ════════

nothing_each : {A : Type 0} (xs : List A) → each xs (λ (x : A). ◌++◌ {A = Clause} [] []) ≡ []
nothing_each [] = refl
nothing_each (x ∷ xs) = nothing_each xs

no_constraint : (p : Problem) → p.constraints ≡ [] → constraints_item p ≡ []
no_constraint p none = rw none (nothing_each (positions p))

cnf_kept : (p : Problem) → p.constraints ≡ [] → cnf p ≡ cnf_in_01 p
unfolding cnf cnf_in_01
cnf_kept p none = rw (no_constraint p none)

pub cnf_in_version_1 : (ws : List ℕ) → cnf (problem 1 ws) ≡ cnf_in_01 (problem_in_01 ws)
cnf_in_version_1 ws = ap cnf (problem_in_version_1 ws) ∙ cnf_kept (problem_in_01 ws) (none_before ws)

pub cnf_words_in_version_1 : (ws : List ℕ) → cnf_words (problem 1 ws) ≡ cnf_words_in_01 (problem_in_01 ws)
unfolding cnf_words cnf_words_in_01
cnf_words_in_version_1 ws = ap words_of (cnf_in_version_1 ws)

pub writing_in_version_1 : (ws : List ℕ) (room : ℕ) → write_cnf 1 ws room ≡ write_cnf_in_01 ws room
unfolding write_cnf write_cnf_in_01
writing_in_version_1 ws room =
    check_then ws (room_checks (problem 1 ws) room ∷ []) (granted (length (cnf_words (problem 1 ws)))) ∙ rw (cnf_words_in_version_1 ws)

pub room_written_in_version_1 : (a : Answer) (ws : List ℕ) (room : List ℤ) → room_after_writing a 1 ws room ≡ room_after_writing_in_01 a ws room
unfolding room_after_writing room_after_writing_in_01
room_written_in_version_1 a ws room = rw (cnf_words_in_version_1 ws)

-- ════════ The judge of a witness ════════

-- Without constraints every position passes.
positions_pass : (p : Problem) (bs : List ℕ) → p.constraints ≡ [] → all_of passing (position_checks p bs) ≡ true
unfolding meets_constraints
positions_pass p bs none =
    all_of_map passing (λ t. check (meets_constraints p (position p bs t)) (constraint_broken t)) (numbers 0 (p.bound + 1))
    ∙ all_of_numbers_if (λ t. meets_constraints p (position p bs t)) (p.bound + 1) (λ t l. rw none)

judged_kept : (p : Problem) (bs : List ℕ) → p.constraints ≡ [] → judge_bytes p bs ≡ judge_bytes_in_01 p bs
unfolding judge_bytes judge_bytes_in_01
judged_kept p bs none =
    ap (λ (a : Answer). first_failing_part (byte_checks p bs ∷ reset_checks p bs ∷ loop_checks p bs (shape bs) ∷ []) a)
    (first_failing_passed (position_checks p bs) (first_failing (formula_checks p bs) (granted 0)) (positions_pass p bs none))

pub judged_in_version_1 : (ws bs : List ℕ) → judge_bytes (problem 1 ws) bs ≡ judge_bytes_in_01 (problem_in_01 ws) bs
judged_in_version_1 ws bs = ap (λ (p : Problem). judge_bytes p bs) (problem_in_version_1 ws) ∙ judged_kept (problem_in_01 ws) bs (none_before ws)

pub witness_in_version_1 : (ws bs : List ℕ) → judge_witness 1 ws bs ≡ judge_witness_in_01 ws bs
unfolding judge_witness judge_witness_in_01 judge_bytes judge_bytes_in_01
witness_in_version_1 ws bs =
    check_then ws (witness_parts (problem 1 ws) bs) (granted 0)
    ∙ parts_append (check_in_01 ws) (witness_parts (problem 1 ws) bs) (granted 0)
    ∙ ap (first_failing_part (check_in_01 ws)) (judged_in_version_1 ws bs)
    ∙ sym (parts_append (check_in_01 ws) (witness_parts_in_01 (problem_in_01 ws) bs) (granted 0))

-- ════════ The finder ════════

witnesses_kept : (p : Problem) → p.constraints ≡ [] → witnesses p ≡ witnesses_in_01 p
unfolding witnesses witnesses_in_01
witnesses_kept p none i = those (λ bs. eqb (judged_kept p bs none i).number 0) (candidates p)

pub witnesses_in_version_1 : (ws : List ℕ) → witnesses (problem 1 ws) ≡ witnesses_in_01 (problem_in_01 ws)
witnesses_in_version_1 ws = ap witnesses (problem_in_version_1 ws) ∙ witnesses_kept (problem_in_01 ws) (none_before ws)

pub finding_in_version_1 : (ws : List ℕ) (room : ℕ) → find_witness 1 ws room ≡ find_witness_in_01 ws room
unfolding find_witness find_witness_in_01
finding_in_version_1 ws room =
    check_then ws (finding_checks (problem 1 ws) room ∷ []) (first_found (witnesses (problem 1 ws)))
    ∙ rw (witnesses_in_version_1 ws, problem_in_version_1 ws)

pub room_found_in_version_1 : (a : Answer) (ws room : List ℕ) → room_after_finding a 1 ws room ≡ room_after_finding_in_01 a ws room
unfolding room_after_finding room_after_finding_in_01
room_found_in_version_1 a ws room = rw (witnesses_in_version_1 ws)

-- ════════ The judge of a refutation ════════

pub refutation_in_version_1 : (ws : List ℕ) (refutation : List ℤ) (room by_numbers by_clauses : ℕ)
    → judge_refutation 1 ws refutation room by_numbers by_clauses ≡ judge_refutation_in_01 ws refutation room by_numbers by_clauses
unfolding judge_refutation judge_refutation_in_01
refutation_in_version_1 ws refutation room by_numbers by_clauses =
    check_then ws (preparing_parts (problem 1 ws) refutation room by_numbers by_clauses ++ step_parts (problem 1 ws) refutation) (granted 0)
    ∙ rw (cnf_words_in_version_1 ws, cnf_in_version_1 ws, problem_in_version_1 ws)

-- The CNF room and the work areas after it.
module _ (a : Answer) (ws : List ℕ) where
  pub room_judged_in_version_1 : (room : List ℤ) → room_after_judging a 1 ws room ≡ room_after_judging_in_01 a ws room
  unfolding room_after_judging room_after_judging_in_01
  room_judged_in_version_1 room = rw (cnf_words_in_version_1 ws)

  pub numbers_judged_in_version_1 : (area : List ℕ) → numbers_area_after a 1 ws area ≡ numbers_area_after_in_01 a ws area
  unfolding numbers_area_after numbers_area_after_in_01
  numbers_judged_in_version_1 area = rw (problem_in_version_1 ws)

  pub clauses_judged_in_version_1 : (refutation : List ℤ) (area : List ℕ)
      → clauses_area_after a 1 ws refutation area ≡ clauses_area_after_in_01 a ws refutation area
  unfolding clauses_area_after clauses_area_after_in_01
  clauses_judged_in_version_1 refutation area = rw (cnf_in_version_1 ws)

-- ════════ The running calls ════════

module _ {ws : List ℕ} where
  pub checked_in_version_1 : {r : Result ProblemRecord Refusal} → CheckedAs 1 ws r → checking.answer_of r ≡ check_problem_in_01 ws
  checked_in_version_1 c = c.answered ∙ check_problem_in_version_1 ws

  pub encoded_in_version_1 : {before after : List ℤ} {r : Result Counts NotWritten} → EncodedAs 1 ws before r after
      → (encoding.answer_of r ≡ write_cnf_in_01 ws (length before)) × (after ≡ room_after_writing_in_01 (encoding.answer_of r) ws before)
  encoded_in_version_1 {before} {r = r} c =
      (c.answered ∙ writing_in_version_1 ws (length before), c.room_after ∙ room_written_in_version_1 (encoding.answer_of r) ws before)

  pub found_in_version_1 : {before after : List ℕ} {r : Result ℕ NotFound} → FoundAs 1 ws before r after
      → (finding.answer_of r ≡ find_witness_in_01 ws (length before)) × (after ≡ room_after_finding_in_01 (finding.answer_of r) ws before)
  found_in_version_1 {before} {r = r} c =
      (c.answered ∙ finding_in_version_1 ws (length before), c.room_after ∙ room_found_in_version_1 (finding.answer_of r) ws before)

  pub refutation_judged_in_version_1 : {refutation room : List ℤ} {numbers clauses : List ℕ} {r : Result Unit Unrefuted} {room' : List ℤ} {numbers' clauses' : List ℕ}
      → JudgedAs 1 ws refutation room numbers clauses r room' numbers' clauses'
      → (refuted_answer r ≡ judge_refutation_in_01 ws refutation (length room) (length numbers) (length clauses))
      × (room' ≡ room_after_judging_in_01 (refuted_answer r) ws room)
      × (numbers' ≡ numbers_area_after_in_01 (refuted_answer r) ws numbers)
      × (clauses' ≡ clauses_area_after_in_01 (refuted_answer r) ws refutation clauses)
  refutation_judged_in_version_1 {refutation} {room} {numbers} {clauses} {r} c = (
    c.answered ∙ refutation_in_version_1 ws refutation (length room) (length numbers) (length clauses),
    c.room_left ∙ room_judged_in_version_1 (refuted_answer r) ws room,
    c.numbers_left ∙ numbers_judged_in_version_1 (refuted_answer r) ws numbers,
    c.clauses_left ∙ clauses_judged_in_version_1 (refuted_answer r) ws refutation clauses,
  )

-- The witness judge changes no buffer.
pub run_judged_in_version_1 : (ws bs : List ℕ) (r : Result Unit NotWitness)
    → witnessing.answer_of r ≡ judge_witness 1 ws bs → witnessing.answer_of r ≡ judge_witness_in_01 ws bs
run_judged_in_version_1 ws bs r answered = answered ∙ witness_in_version_1 ws bs

-- The numbers of the CNF, which the check's record and the writer's yes have.
counts_kept : (ws : List ℕ) → counts_of (problem 1 ws) ≡ counts_in_01 (problem_in_01 ws)
counts_kept ws = rw (cnf_words_in_version_1 ws, cnf_in_version_1 ws, problem_in_version_1 ws)

pub record_in_version_1 : {ws : List ℕ} {g : ProblemRecord} → CheckedAs 1 ws (Ok g) → g.counts ≡ counts_in_01 (problem_in_01 ws)
record_in_version_1 {ws} c = c.counted ∙ counts_kept ws

pub numbers_in_version_1 : {ws : List ℕ} {before after : List ℤ} {n : Counts} → EncodedAs 1 ws before (Ok n) after → n ≡ counts_in_01 (problem_in_01 ws)
numbers_in_version_1 {ws} c = c.numbered ∙ counts_kept ws
