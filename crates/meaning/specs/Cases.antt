-- Document 01's cases: T whole and the thirteen counts of witnesses, each by computing, and the problems at all limits; cases of constraints, for
-- Q-6 of document 02. Assumes nothing.
use Rattle.std.specs.Prelude.{List, [], ◌∷◌, ◌++◌, map, ◌≡◌, refl, ℕ, ◌+◌, ◌*◌, ◌-◌, ◌/◌, ◌≤◌, ◌<◌, pos, negsuc, length, take, drop, replicate}
use Rattle.answers.specs.Lists.{numbers, each}
use Rattle.answers.specs.Answers.{answer, granted}
use Rattle.clauses.specs.Refutations.{refutation_checks, area_checks, step_accepted}
use Rattle.clauses.specs.Cases.{t_cnf, t_steps, t_other_steps}
use Rattle.answers.specs.Limits.{inputs_limit, latches_limit, gates_limit, nodes_limit, bound_limit, constraints_limit}
use Rattle.meaning.specs.Problem.{Problem, Node, atom, both, either, next, until, release, latch, node, header_words, problem_by, problem}
use Rattle.meaning.specs.Runs.{values, next_values, meets_constraints}
use Rattle.meaning.specs.Formulas.{formula}
use Rattle.meaning.specs.Witnesses.{run}
use Rattle.meaning.specs.Cnf.{variables, cnf, cnf_words}
use Rattle.meaning.specs.Calls.{check_problem, judge_bytes, witnesses, judge_refutation}

-- ════════ Case T ════════

-- "words 0 1 0 1 0 3 0 0 2 0"
abbrev pub t_words : List ℕ
t_words = 0 ∷ 1 ∷ 0 ∷ 1 ∷ 0 ∷ 3 ∷ 0 ∷ 0 ∷ 2 ∷ 0 ∷ []

pub t_is_written : cnf_words (problem 1 t_words) ≡ t_cnf
unfolding header_words problem_by problem cnf cnf_words
t_is_written = refl

pub t_has_variables : variables (problem 1 t_words) ≡ 6
unfolding header_words problem_by problem variables
t_has_variables = refl

-- "Refutation 0 2 12 5 0 is accepted; 0 12 5 0 is refused (13 at 0)."
pub t_is_refuted : judge_refutation 1 t_words t_steps 38 7 13 ≡ answer 0 0
unfolding header_words problem_by problem cnf cnf_words variables inputs_limit latches_limit gates_limit nodes_limit bound_limit constraints_limit judge_refutation refutation_checks area_checks step_accepted
t_is_refuted = refl

pub t_is_not_refuted : judge_refutation 1 t_words t_other_steps 38 7 13 ≡ answer 13 0
unfolding header_words problem_by problem cnf cnf_words variables inputs_limit latches_limit gates_limit nodes_limit bound_limit constraints_limit judge_refutation refutation_checks area_checks step_accepted
t_is_not_refuted = refl

-- ════════ The thirteen counts ════════

-- "H, a two-bit counter: 0 2 4 N k, 3 0, 11 0, 2 5, 3 4, 7 9, 2 4; literal 12 is full."
abbrev pub H : ℕ → ℕ → List ℕ → List ℕ
H n k nodes =
    0 ∷ 2 ∷ 4 ∷ n ∷ k ∷ 3 ∷ 0 ∷ 11 ∷ 0 ∷ 2 ∷ 5 ∷ 3 ∷ 4 ∷ 7 ∷ 9 ∷ 2 ∷ 4 ∷ nodes

abbrev atom_word : ℕ → List ℕ
atom_word x = 0 ∷ x ∷ 0 ∷ []

-- F, G and X of node a.
abbrev finally : ℕ → List ℕ
finally a = 4 ∷ a ∷ 0 ∷ []

abbrev always : ℕ → List ℕ
always a = 5 ∷ a ∷ 0 ∷ []

abbrev next_of : ℕ → List ℕ
next_of a = 3 ∷ a ∷ 0 ∷ []

abbrev releases : ℕ → ℕ → List ℕ
releases a b = 7 ∷ a ∷ b ∷ []

-- "One input, k=0"; "one free latch keeping its value, k=0"
abbrev pub one_input : ℕ → List ℕ → List ℕ
one_input n nodes = 1 ∷ 0 ∷ 0 ∷ n ∷ 0 ∷ nodes

abbrev pub one_free_latch : ℕ → List ℕ → List ℕ
one_free_latch n nodes = 0 ∷ 1 ∷ 0 ∷ n ∷ 0 ∷ 2 ∷ 2 ∷ nodes

pub record Case : Type 0 where
  pub words : List ℕ
  pub count : ℕ

abbrev case : List ℕ → ℕ → Case
case ws n = record { words = ws; count = n }

-- "Witnesses: F 12 has none at k=2, 2 at k=3, 3 at k=7; G F 12 has none at 2, 1 at 3; G 13 none at 3; X 2 none at 0, 1 at 1; 12 R 1 none
-- at 2, 2 at 3. One input, k=0: atom 2 has 2, G 2 has 1. One free latch keeping its value, k=0: G 2 has 1."
abbrev pub thirteen_cases : List Case
thirteen_cases =
    case (H 2 2 (atom_word 12 ++ finally 0)) 0
    ∷ case (H 2 3 (atom_word 12 ++ finally 0)) 2
    ∷ case (H 2 7 (atom_word 12 ++ finally 0)) 3
    ∷ case (H 3 2 (atom_word 12 ++ finally 0 ++ always 1)) 0
    ∷ case (H 3 3 (atom_word 12 ++ finally 0 ++ always 1)) 1
    ∷ case (H 2 3 (atom_word 13 ++ always 0)) 0
    ∷ case (H 2 0 (atom_word 2 ++ next_of 0)) 0
    ∷ case (H 2 1 (atom_word 2 ++ next_of 0)) 1
    ∷ case (H 3 2 (atom_word 12 ++ atom_word 1 ++ releases 0 1)) 0
    ∷ case (H 3 3 (atom_word 12 ++ atom_word 1 ++ releases 0 1)) 2
    ∷ case (one_input 1 (atom_word 2)) 2
    ∷ case (one_input 2 (atom_word 2 ++ always 0)) 1
    ∷ case (one_free_latch 2 (atom_word 2 ++ always 0)) 1
    ∷ []

-- The check says yes to each case, and the judge to as many witnesses as it says.
pub thirteen_are_formed : map (λ (c : Case). check_problem 1 c.words) thirteen_cases ≡ map (λ (c : Case). answer 0 0) thirteen_cases
unfolding header_words inputs_limit latches_limit gates_limit nodes_limit bound_limit constraints_limit check_problem
thirteen_are_formed = refl

pub thirteen_counts : map (λ (c : Case). length (witnesses (problem 1 c.words))) thirteen_cases ≡ map (λ (c : Case). c.count) thirteen_cases
unfolding header_words problem_by problem values next_values meets_constraints formula run judge_bytes witnesses
thirteen_counts = refl

-- ════════ Constraints ════════

-- T in version 2, with the constraint that the latch is off: its unit clause stands after item 2, which T does not have.
abbrev pub t_constrained : List ℕ
t_constrained = 0 ∷ 1 ∷ 0 ∷ 1 ∷ 0 ∷ 1 ∷ 3 ∷ 0 ∷ 3 ∷ 0 ∷ 2 ∷ 0 ∷ []

pub t_constrained_is_written : cnf (problem 2 t_constrained) ≡ (pos 1 ∷ []) ∷ (negsuc 1 ∷ []) ∷ drop 1 (cnf (problem 1 t_words))
unfolding header_words problem_by problem cnf
t_constrained_is_written = refl

-- "The starter and the stop solenoid can't both be on." Inputs starter and stop, a latch that says that the engine runs, which the starter sets and
-- the stop clears; the last gate says that both are on. The fault is a starter that is on, and then the engine does not run: F (2 and X 7), bound 1.
abbrev pub engine : List ℕ → List ℕ → List ℕ
engine more constraints =
    2 ∷ 1 ∷ 3 ∷ 5 ∷ 1 ∷ (more ++ (10 ∷ 0 ∷ 7 ∷ 3 ∷ 9 ∷ 5 ∷ 2 ∷ 4 ∷ [])
    ++ constraints ++ atom_word 2 ++ atom_word 7 ++ next_of 1 ++ (1 ∷ 0 ∷ 2 ∷ []) ++ finally 3)

-- Without the constraint there is a run with the fault, the first one with both on at position 0. With it there is none.
pub fault_shown : take 1 (witnesses (problem 1 (engine [] []))) ≡ (0 ∷ 0 ∷ 1 ∷ 1 ∷ 0 ∷ 0 ∷ []) ∷ []
unfolding header_words problem_by problem values next_values meets_constraints formula run judge_bytes witnesses
fault_shown = refl

-- Its unit clauses, at 0 and at 1, stand after those of the gates, (1) and eighteen more, and before the latch's, (-4).
pub engine_is_written : take 3 (drop 19 (cnf (problem 2 (engine (1 ∷ []) (13 ∷ []))))) ≡ (negsuc 6 ∷ []) ∷ (negsuc 12 ∷ []) ∷ (negsuc 3 ∷ []) ∷ []
unfolding header_words problem_by problem cnf
engine_is_written = refl

pub fault_vanishes : witnesses (problem 2 (engine (1 ∷ []) (13 ∷ []))) ≡ []
unfolding header_words problem_by problem values next_values meets_constraints formula run judge_bytes witnesses
fault_vanishes = refl

-- "Prefixes can now get stuck": a latch that is off at position 0 and on from then on, and the constraint that it is off. The formula true has a prefix
-- as its witness at bound 0, and none at bound 1.
abbrev pub stuck : ℕ → List ℕ
stuck k = 0 ∷ 1 ∷ 0 ∷ 1 ∷ k ∷ 1 ∷ 1 ∷ 0 ∷ 3 ∷ atom_word 1

pub stuck_at_0 : witnesses (problem 2 (stuck 0)) ≡ (0 ∷ 0 ∷ []) ∷ []
unfolding header_words problem_by problem values next_values meets_constraints formula run judge_bytes witnesses
stuck_at_0 = refl

pub stuck_at_1 : witnesses (problem 2 (stuck 1)) ≡ []
unfolding header_words problem_by problem values next_values meets_constraints formula run judge_bytes witnesses
stuck_at_1 = refl

-- All of these words are well formed.
pub constrained_are_formed : map (check_problem 2) (t_constrained ∷ engine (1 ∷ []) (13 ∷ []) ∷ stuck 0 ∷ stuck 1 ∷ [])
    ≡ granted 0 ∷ granted 0 ∷ granted 0 ∷ granted 0 ∷ []
unfolding header_words inputs_limit latches_limit gates_limit nodes_limit bound_limit constraints_limit check_problem
constrained_are_formed = refl

-- ════════ At all limits ════════

-- "63 U or R nodes": the node is U or R; F and G are among them.
abbrev pub UntilOrRelease : Node → Type 0
UntilOrRelease (atom x) = ⊥
UntilOrRelease (both a b) = ⊥
UntilOrRelease (either a b) = ⊥
UntilOrRelease (next a) = ⊥
UntilOrRelease (until a b) = Unit
UntilOrRelease (release a b) = Unit

-- "At all limits, with every reset fixed and 63 U or R nodes over one atom": such a problem's CNF has 437,012 words, and 64 more for each constraint, and
-- no well-formed words with as many constraints have a larger one (`at_all_limits` and `largest_cnf` of proofs/AllLimits).
pub record AtAllLimits (p : Problem) : Type 0 where
  pub inputs_are : p.inputs ≡ inputs_limit
  pub latches_are : length p.latches ≡ latches_limit
  pub resets_fixed : (i : ℕ) → i < latches_limit → (latch p i).reset < 2
  pub gates_are : length p.gates ≡ gates_limit
  pub nodes_are : length p.nodes ≡ nodes_limit
  pub one_atom : (x : ℕ) × (node p 0 ≡ atom x)
  pub others : (n : ℕ) → 1 ≤ n → n < nodes_limit → UntilOrRelease (node p n)
  pub bound_is : p.bound ≡ bound_limit

-- Words of such a problem. "63 U or R nodes over one atom": node 0 is the atom 0, nodes 1 to 32 are 6 n n (U) and nodes 33 to 63 are
-- 7 n n (R), each over the node n before it.
abbrev pub limit_nodes : List ℕ
limit_nodes =
    (0 ∷ 0 ∷ 0 ∷ [])
    ++ each (numbers 0 (nodes_limit / 2)) (λ n. 6 ∷ n ∷ n ∷ [])
    ++ each (numbers (nodes_limit / 2) (nodes_limit / 2 - 1)) (λ n. 7 ∷ n ∷ n ∷ [])

-- A 0 for each word of a latch (next 0, reset 0: "every reset fixed") or of a gate.
abbrev pub limit_zeros : ℕ
limit_zeros = 2 * latches_limit + 2 * gates_limit

-- Their problem is at all limits (`limits_reached` of proofs/AllLimits); its numbers are `limits_counted`.
unfoldable pub limit_words : List ℕ
unfolding inputs_limit latches_limit gates_limit nodes_limit bound_limit
limit_words = inputs_limit ∷ latches_limit ∷ gates_limit ∷ nodes_limit ∷ bound_limit ∷ (replicate limit_zeros 0 ++ limit_nodes)

-- "I, L, A, N, k", each at its limit.
abbrev pub limit_header : List ℕ
limit_header = inputs_limit ∷ latches_limit ∷ gates_limit ∷ nodes_limit ∷ bound_limit ∷ []

-- The same in version 2, with as many constraints as there can be, each of them a 0 too: no CNF has more words (`largest_of_all` and `no_larger` of
-- proofs/AllLimits).
unfoldable pub constrained_limit_words : List ℕ
unfolding inputs_limit latches_limit gates_limit nodes_limit bound_limit constraints_limit
constrained_limit_words = limit_header ++ (constraints_limit ∷ (replicate (limit_zeros + constraints_limit) 0 ++ limit_nodes))

-- T's CNF has 37 words, so a CNF room of 37 is enough for both refutations above, and one of 36 is refused by 6 with what is needed.
pub t_is_refuted_in_37 : judge_refutation 1 t_words t_steps 37 7 13 ≡ answer 0 0
unfolding header_words problem_by problem cnf cnf_words variables inputs_limit latches_limit gates_limit nodes_limit bound_limit constraints_limit judge_refutation refutation_checks area_checks step_accepted
t_is_refuted_in_37 = refl

pub t_is_not_refuted_in_37 : judge_refutation 1 t_words t_other_steps 37 7 13 ≡ answer 13 0
unfolding header_words problem_by problem cnf cnf_words variables inputs_limit latches_limit gates_limit nodes_limit bound_limit constraints_limit judge_refutation refutation_checks area_checks step_accepted
t_is_not_refuted_in_37 = refl

pub t_needs_37 : judge_refutation 1 t_words t_steps 36 7 13 ≡ answer 6 37
unfolding header_words problem_by problem cnf cnf_words variables inputs_limit latches_limit gates_limit nodes_limit bound_limit constraints_limit judge_refutation refutation_checks area_checks step_accepted
t_needs_37 = refl
