-- The enums of the crate as the answers and nodes of document 01, and the promises of its public functions. Assumes nothing.
use Rattle.std.specs.Prelude.{List, ◌≡◌, ℕ, Result, Ok, Err}
use Rattle.answers.specs.Answers.{Answer, granted, bad_length, outside_limits, bad_reset, bad_literal, bad_node, bad_job}
use Rattle.meaning.specs.Problem as problems
use Rattle.meaning.specs.Problem.{Problem, W, outline, problem_by, problem}
use Rattle.meaning.specs.Proper.{Proper}
use Rattle.meaning.specs.Calls.{check_problem}
use Rattle.counts.specs.Promise.{counts_of}
use Rattle.problem.specs.declared.Outline.{Outline}
use Rattle.problem.specs.declared.ProblemRecord.{ProblemRecord}
use Rattle.problem.specs.declared.Refusal.{Refusal}
use Rattle.problem.specs.declared.Refusal.TheVariants.{BadVersion, BadLength, OutsideLimits, BadReset, BadLiteral, BadNode}
use Rattle.problem.specs.declared.Gate.{Gate}
use Rattle.problem.specs.declared.Left.{Left}
use Rattle.problem.specs.declared.Left.TheVariants.{Constant, Child}
use Rattle.problem.specs.declared.Node.{Node}
use Rattle.problem.specs.declared.Node.TheVariants.{Atom, Both, Either, Next, Until, Release}

-- Document 01's number and place of each refusal, and of each outcome of the check.
abbrev pub refusal_answer : Refusal → Answer
refusal_answer BadVersion = bad_job 0
refusal_answer (BadLength n) = bad_length n
refusal_answer (OutsideLimits i) = outside_limits i
refusal_answer (BadReset i) = bad_reset i
refusal_answer (BadLiteral i) = bad_literal i
refusal_answer (BadNode i) = bad_node i

abbrev pub answer_of : Result ProblemRecord Refusal → Answer
answer_of (Ok g) = granted 0
answer_of (Err f) = refusal_answer f

-- ════════ The outline ════════

-- The outline of the crate as document 01's.
abbrev pub outline_of : Outline → problems.Outline
outline_of s = record {
  inputs = s.inputs;
  latches = s.latches;
  gates = s.gates;
  constraints = s.constraints;
  written_nodes = s.written_nodes;
  formula_nodes = s.formula_nodes;
  bound = s.bound;
  width = s.width;
  latches_from = s.latches_from;
  gates_from = s.gates_from;
  constraints_from = s.constraints_from;
  nodes_from = s.nodes_from;
}

-- The problem that an outline shows in words: all that is read of words is said by it.
unfoldable pub problem_in : Outline → List ℕ → Problem
problem_in s ws = problem_by (outline_of s) ws

-- It is proper, and the width of the outline is its W.
pub record ProperIn (s : Outline) (ws : List ℕ) : Type 0 where
  pub proper : Proper (problem_in s ws)
  pub width_is : W (problem_in s ws) ≡ s.width

-- .. and the numbers of the record are those of its CNF.
pub record CountedIn (g : ProblemRecord) (ws : List ℕ) : Type 0 where
  pub proper_in : ProperIn g.outline ws
  pub counts_are : g.counts ≡ counts_of (problem_in g.outline ws)

-- ════════ The check ════════

-- The outline is that of the version and the words, and the problem that it shows is theirs.
pub record Outlined (version : ℕ) (ws : List ℕ) (s : Outline) : Type 0 where
  pub outline_is : outline_of s ≡ outline version ws
  pub problem_is : problem_in s ws ≡ problem version ws

abbrev pub OutlinedBy : ℕ → List ℕ → Result ProblemRecord Refusal → Type 0
OutlinedBy version ws (Ok g) = Outlined version ws g.outline
OutlinedBy version ws (Err f) = Unit

-- The record's numbers of variables, clauses and words are those of the CNF.
abbrev pub CountedBy : ℕ → List ℕ → Result ProblemRecord Refusal → Type 0
CountedBy version ws (Ok g) = g.counts ≡ counts_of (problem version ws)
CountedBy version ws (Err f) = Unit

-- The check: its answer, and where it is yes the outline and the numbers of the CNF.
pub record CheckedAs (version : ℕ) (ws : List ℕ) (r : Result ProblemRecord Refusal) : Type 0 where
  pub answered : answer_of r ≡ check_problem version ws
  pub outlined : OutlinedBy version ws r
  pub counted : CountedBy version ws r

-- ════════ The gates and the nodes ════════

-- A gate of the crate as document 01's.
abbrev pub gate_read : Gate → problems.Gate
gate_read g = record { left = g.left; right = g.right }

-- A node of the crate as document 01's.
abbrev pub left_of : Left → problems.Left
left_of (Constant b) = problems.constant b
left_of (Child c) = problems.child c

abbrev pub node_read : Node → problems.Node
node_read (Atom x) = problems.atom x
node_read (Both a b) = problems.both a b
node_read (Either a b) = problems.either a b
node_read (Next a) = problems.next a
node_read (Until a b) = problems.until (left_of a) b
node_read (Release a b) = problems.release (left_of a) b
