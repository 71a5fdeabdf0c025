-- Document 01, "The problem", with the constraints of Q-6 of document 02: a record of lists, read off its words. Assumes nothing.
use Rattle.std.specs.Prelude.{Bool, true, false, cond, List, [], ◌∷◌, map, ℕ, ◌+◌, ◌*◌, ltb, eqb, length, get_or}
use Rattle.answers.specs.Lists.{numbers}

-- ════════ The record ════════

-- "L pairs (next literal, reset)"
pub record Latch : Type 0 where
  pub next : ℕ
  pub reset : ℕ

-- "A gate is the AND of two literals"
pub record Gate : Type 0 where
  pub left : ℕ
  pub right : ℕ

-- What stands on the left of U and R: a node, or a constant where the node is F or G.
pub data Left : Type 0 where
  constant : Bool → Left
  child : ℕ → Left

-- "Ops: 0 atom, 1 and, 2 or, 3 next, 4 F, 5 G, 6 a U b, 7 a R b": F is U and G is R with a constant on the left.
pub data Node : Type 0 where
  atom : ℕ → Node
  both : ℕ → ℕ → Node
  either : ℕ → ℕ → Node
  next : ℕ → Node
  until : Left → ℕ → Node
  release : Left → ℕ → Node

pub record Problem : Type 0 where
  pub inputs : ℕ
  pub latches : List Latch
  pub gates : List Gate
  pub constraints : List ℕ
  pub nodes : List Node
  pub bound : ℕ

-- "Let W = I + L + A. Variables 1..W are inputs, latches, gates, in that order."
abbrev pub W : Problem → ℕ
W p = p.inputs + length p.latches + length p.gates

-- The variable of a latch or a gate, numbered from 0.
abbrev pub latch_variable : Problem → ℕ → ℕ
latch_variable p i = p.inputs + i + 1

abbrev pub gate_variable : Problem → ℕ → ℕ
gate_variable p j = p.inputs + length p.latches + j + 1

-- The latch, gate, constraint or node of a number; past the end a free latch whose next value is false, a gate that is false, the literal
-- true, the atom false.
abbrev pub latch : Problem → ℕ → Latch
latch p i = get_or p.latches i (record { next = 0; reset = 2 })

abbrev pub gate : Problem → ℕ → Gate
gate p j = get_or p.gates j (record { left = 0; right = 0 })

abbrev pub constraint : Problem → ℕ → ℕ
constraint p c = get_or p.constraints c 1

abbrev pub node : Problem → ℕ → Node
node p n = get_or p.nodes n (atom 0)

-- ════════ The words ════════

-- The versions, each with its number and the words of its header; one not known has none.
pub record Version : Type 0 where
  pub number : ℕ
  pub header : ℕ

-- "A lent slice of 32-bit words: I, L, A, N, k; then .."; "Version byte 2: a sixth header word D"
abbrev pub versions : List Version
versions = record { number = 1; header = 5 } ∷ record { number = 2; header = 6 } ∷ []

abbrev pub header_among : List Version → ℕ → ℕ
header_among [] version = 0
header_among (v ∷ vs) version = cond (eqb version v.number) v.header (header_among vs version)

unfoldable pub header_words : ℕ → ℕ
header_words version = header_among versions version

abbrev pub word : List ℕ → ℕ → ℕ
word ws i = get_or ws i 0

-- A later version's word of the header; one that the header does not have is 0: "Version 1 files mean D = 0".
abbrev pub header_word : ℕ → List ℕ → ℕ → ℕ
header_word version ws i = cond (ltb i (header_words version)) (word ws i) 0

-- The sizes of a problem, its W, and where each of its parts begins in its words. The nodes of the words and those of the formula are two numbers.
pub record Outline : Type 0 where
  pub inputs : ℕ
  pub latches : ℕ
  pub gates : ℕ
  pub constraints : ℕ
  pub written_nodes : ℕ
  pub formula_nodes : ℕ
  pub bound : ℕ
  pub width : ℕ
  pub latches_from : ℕ
  pub gates_from : ℕ
  pub constraints_from : ℕ
  pub nodes_from : ℕ

-- ".. then L pairs (next literal, reset); A pairs (left, right literal); N triples (op, a, b)"; "D literals, .. after the gates"
abbrev pub outline : ℕ → List ℕ → Outline
outline version ws = record {
  inputs = word ws 0;
  latches = word ws 1;
  gates = word ws 2;
  constraints = header_word version ws 5;
  written_nodes = word ws 3;
  formula_nodes = word ws 3;
  bound = word ws 4;
  width = word ws 0 + word ws 1 + word ws 2;
  latches_from = header_words version;
  gates_from = header_words version + 2 * word ws 1;
  constraints_from = header_words version + 2 * word ws 1 + 2 * word ws 2;
  nodes_from = header_words version + 2 * word ws 1 + 2 * word ws 2 + header_word version ws 5;
}

-- Where the words of a latch, a gate, a constraint, a node begin.
abbrev pub latch_place : Outline → ℕ → ℕ
latch_place o i = o.latches_from + 2 * i

abbrev pub gate_place : Outline → ℕ → ℕ
gate_place o j = o.gates_from + 2 * j

abbrev pub constraint_place : Outline → ℕ → ℕ
constraint_place o c = o.constraints_from + c

abbrev pub node_place : Outline → ℕ → ℕ
node_place o n = o.nodes_from + 3 * n

-- "5+2L+2A+3N", "6+2L+2A+D+3N"
abbrev pub words_in_all : Outline → ℕ
words_in_all o = node_place o o.written_nodes

-- "How many children each op has stands in one fixed table."
abbrev pub children : List ℕ
children = 0 ∷ 2 ∷ 2 ∷ 1 ∷ 1 ∷ 1 ∷ 2 ∷ 2 ∷ []

-- The node of each op, over its words a and b.
abbrev pub shapes : List (ℕ → ℕ → Node)
shapes =
    (λ a b. atom a)
    ∷ (λ a b. both a b)
    ∷ (λ a b. either a b)
    ∷ (λ a b. next a)
    ∷ (λ a b. until (constant true) a)
    ∷ (λ a b. release (constant false) a)
    ∷ (λ a b. until (child a) b)
    ∷ (λ a b. release (child a) b)
    ∷ []

abbrev pub node_of : ℕ → ℕ → ℕ → Node
node_of op a b = get_or shapes op (λ a b. atom 0) a b

abbrev pub read_latch : Outline → List ℕ → ℕ → Latch
read_latch o ws i = record { next = word ws (latch_place o i); reset = word ws (latch_place o i + 1) }

abbrev pub read_gate : Outline → List ℕ → ℕ → Gate
read_gate o ws j = record { left = word ws (gate_place o j); right = word ws (gate_place o j + 1) }

abbrev pub read_constraint : Outline → List ℕ → ℕ → ℕ
read_constraint o ws c = word ws (constraint_place o c)

abbrev pub read_node : Outline → List ℕ → ℕ → Node
read_node o ws n =
    node_of (word ws (node_place o n)) (word ws (node_place o n + 1)) (word ws (node_place o n + 2))

-- The problem that an outline shows in words.
unfoldable pub problem_by : Outline → List ℕ → Problem
problem_by o ws = record {
  inputs = o.inputs;
  latches = map (read_latch o ws) (numbers 0 o.latches);
  gates = map (read_gate o ws) (numbers 0 o.gates);
  constraints = map (read_constraint o ws) (numbers 0 o.constraints);
  nodes = map (read_node o ws) (numbers 0 o.formula_nodes);
  bound = o.bound;
}

-- The problem of a version and words.
unfoldable pub problem : ℕ → List ℕ → Problem
problem version ws = problem_by (outline version ws) ws
