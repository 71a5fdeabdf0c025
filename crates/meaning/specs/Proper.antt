-- Laws of the check, for contracts and proofs: `check_yes` and `proper_if_well_formed` (`meaning/proofs/Check.antt`) prove them of
-- well-formed words, so nobody has to believe them. Assumes nothing.
use Rattle.std.specs.Prelude.{List, ◌≡◌, ℕ, zero, suc, ◌+◌, ◌*◌, ◌≤◌, ◌<◌, length}
use Rattle.answers.specs.Limits.{inputs_limit, latches_limit, gates_limit, nodes_limit, bound_limit, constraints_limit}
use Rattle.meaning.specs.Problem.{Problem, Left, Node, constant, child, atom, both, either, next, until, release, W, gate_variable, latch, gate, constraint, node, Outline, outline, header_words, word, latch_place, gate_place, constraint_place, node_place, words_in_all, children}
use Rattle.meaning.specs.Check.{largest_literal, gate_limit, largest_reset, children_of}

-- ════════ The rules, of the words ════════

pub record LatchRight (o : Outline) (ws : List ℕ) (i : ℕ) : Type 0 where
  pub next_in_range : word ws (latch_place o i) ≤ largest_literal o
  pub reset_in_range : word ws (latch_place o i + 1) ≤ largest_reset

pub record GateRight (o : Outline) (ws : List ℕ) (j : ℕ) : Type 0 where
  pub left_below : word ws (gate_place o j) < gate_limit o j
  pub right_below : word ws (gate_place o j + 1) < gate_limit o j

-- What the words a and b of a node have to be, by the number of the op's children.
abbrev pub FirstRight : Outline → ℕ → ℕ → ℕ → Type 0
FirstRight o n zero a = a ≤ largest_literal o
FirstRight o n (suc c) a = a < n

abbrev pub SecondRight : ℕ → ℕ → ℕ → Type 0
SecondRight n zero b = b ≡ 0
SecondRight n (suc zero) b = b ≡ 0
SecondRight n (suc (suc c)) b = b < n

-- The ops that there are, each with its children, are those of a table.
pub record NodeRight (table : List ℕ) (o : Outline) (ws : List ℕ) (n : ℕ) : Type 0 where
  pub op_known : word ws (node_place o n) < length table
  pub first_word : FirstRight o n (children_of table (word ws (node_place o n))) (word ws (node_place o n + 1))
  pub second_word : SecondRight n (children_of table (word ws (node_place o n))) (word ws (node_place o n + 2))

-- The sizes are within the limits.
pub record InLimits (o : Outline) : Type 0 where
  pub inputs_within : o.inputs ≤ inputs_limit
  pub latches_within : o.latches ≤ latches_limit
  pub gates_within : o.gates ≤ gates_limit
  pub nodes_some : 1 ≤ o.formula_nodes
  pub nodes_within : o.formula_nodes ≤ nodes_limit
  pub bound_within : o.bound ≤ bound_limit
  pub constraints_within : o.constraints ≤ constraints_limit

-- All that the check asks of the words.
pub record RulesMet (version : ℕ) (ws : List ℕ) : Type 0 where
  pub version_known : 0 < header_words version
  pub header_there : header_words version ≤ length ws
  pub in_limits : InLimits (outline version ws)
  pub length_right : length ws ≡ words_in_all (outline version ws)
  pub latches_right : (i : ℕ) → i < (outline version ws).latches → LatchRight (outline version ws) ws i
  pub gates_right : (j : ℕ) → j < (outline version ws).gates → GateRight (outline version ws) ws j
  pub constraints_right : (c : ℕ) → c < (outline version ws).constraints → word ws (constraint_place (outline version ws) c) ≤ largest_literal (outline version ws)
  pub nodes_right : (n : ℕ) → n < (outline version ws).written_nodes → NodeRight children (outline version ws) ws n

-- ════════ The rules, of the record ════════

abbrev pub LeftProper : ℕ → Left → Type 0
LeftProper n (constant b) = Unit
LeftProper n (child a) = a < n

-- "Children are earlier node numbers"; an atom's literal is at most 2W + 1.
abbrev pub NodeProper : Problem → ℕ → Node → Type 0
NodeProper p n (atom x) = x ≤ 2 * W p + 1
NodeProper p n (both a b) = (a < n) × (b < n)
NodeProper p n (either a b) = (a < n) × (b < n)
NodeProper p n (next a) = a < n
NodeProper p n (until a b) = LeftProper n a × (b < n)
NodeProper p n (release a b) = LeftProper n a × (b < n)

-- What the theorems ask of a problem.
pub record Proper (p : Problem) : Type 0 where
  pub inputs_within : p.inputs ≤ inputs_limit
  pub latches_within : length p.latches ≤ latches_limit
  pub gates_within : length p.gates ≤ gates_limit
  pub nodes_some : 1 ≤ length p.nodes
  pub nodes_within : length p.nodes ≤ nodes_limit
  pub bound_within : p.bound ≤ bound_limit
  pub constraints_within : length p.constraints ≤ constraints_limit
  pub next_in_range : (i : ℕ) → i < length p.latches → (latch p i).next ≤ 2 * W p + 1
  pub reset_in_range : (i : ℕ) → i < length p.latches → (latch p i).reset ≤ largest_reset
  pub left_below : (j : ℕ) → j < length p.gates → (gate p j).left < 2 * gate_variable p j
  pub right_below : (j : ℕ) → j < length p.gates → (gate p j).right < 2 * gate_variable p j
  pub constraints_in_range : (c : ℕ) → c < length p.constraints → constraint p c ≤ 2 * W p + 1
  pub nodes_proper : (n : ℕ) → n < length p.nodes → NodeProper p n (node p n)
