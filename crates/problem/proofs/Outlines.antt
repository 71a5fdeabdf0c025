-- What an outline says of the problem that it shows in words, and what stands at the places that it gives. Assumes nothing.
use mathlib.Core.Path.{◌≡◌, sym, ap}
use mathlib.Core.List.{List}
use Prim.Native.Nat.{ℕ, ◌+◌, ◌≤◌, ◌<◌}
use native.Mathlib.Omega.{arith}
use mathlib.Core.Bool.{Bool, true, false, cond}
use lib.Dec.{eqb}
use lib.ListN.{length}
use Rattle.answers.specs.Limits.{inputs_limit, latches_limit, gates_limit, bound_limit}
use Rattle.meaning.specs.Problem.{Problem, Latch, Gate, atom, latch, gate, constraint, node, header_words, word, latch_place, gate_place, constraint_place, read_node}
use Rattle.meaning.proofs.ShownBy.{inputs_by, bound_by, latches_by, gates_by, constraints_by, nodes_by, latch_by, gate_by, constraint_by, node_by, latch_past, gate_past, constraint_past, node_past}
use Rattle.problem.specs.declared.Outline.{Outline}
use Rattle.problem.specs.Promise.{outline_of, problem_in, ProperIn}

-- The problem has the outline's sizes.
pub record Shows (s : Outline) (p : Problem) : Type 0 where
  pub inputs_are : p.inputs ≡ s.inputs
  pub latches_are : length p.latches ≡ s.latches
  pub gates_are : length p.gates ≡ s.gates
  pub constraints_are : length p.constraints ≡ s.constraints
  pub nodes_are : length p.nodes ≡ s.formula_nodes
  pub bound_is : p.bound ≡ s.bound

module _ (s : Outline) (ws : List ℕ) where
  pub shows : Shows s (problem_in s ws)
  unfolding problem_in
  shows = record {
    inputs_are = inputs_by (outline_of s) ws;
    latches_are = latches_by (outline_of s) ws;
    gates_are = gates_by (outline_of s) ws;
    constraints_are = constraints_by (outline_of s) ws;
    nodes_are = nodes_by (outline_of s) ws;
    bound_is = bound_by (outline_of s) ws;
  }

  -- The words at the places of a latch, a gate, a constraint, a node.
  module _ (i : ℕ) (l : i < s.latches) where
    pub next_read : word ws (latch_place (outline_of s) i) ≡ (latch (problem_in s ws) i).next
    unfolding problem_in
    next_read = sym (ap (λ (c : Latch). c.next) (latch_by (outline_of s) ws i l))

    pub reset_read : word ws (latch_place (outline_of s) i + 1) ≡ (latch (problem_in s ws) i).reset
    unfolding problem_in
    reset_read = sym (ap (λ (c : Latch). c.reset) (latch_by (outline_of s) ws i l))

  module _ (j : ℕ) (l : j < s.gates) where
    pub left_read : word ws (gate_place (outline_of s) j) ≡ (gate (problem_in s ws) j).left
    unfolding problem_in
    left_read = sym (ap (λ (g : Gate). g.left) (gate_by (outline_of s) ws j l))

    pub right_read : word ws (gate_place (outline_of s) j + 1) ≡ (gate (problem_in s ws) j).right
    unfolding problem_in
    right_read = sym (ap (λ (g : Gate). g.right) (gate_by (outline_of s) ws j l))

  pub constraint_read : (c : ℕ) → c < s.constraints → word ws (constraint_place (outline_of s) c) ≡ constraint (problem_in s ws) c
  unfolding problem_in
  constraint_read c l = sym (constraint_by (outline_of s) ws c l)

  pub node_words_read : (n : ℕ) → n < s.formula_nodes → read_node (outline_of s) ws n ≡ node (problem_in s ws) n
  unfolding problem_in
  node_words_read n l = sym (node_by (outline_of s) ws n l)

  -- Past the end.
  module _ (i : ℕ) (l : s.latches ≤ i) where
    pub next_past : (latch (problem_in s ws) i).next ≡ 0
    unfolding problem_in
    next_past = ap (λ (c : Latch). c.next) (latch_past (outline_of s) ws i l)

    pub reset_past : (latch (problem_in s ws) i).reset ≡ 2
    unfolding problem_in
    reset_past = ap (λ (c : Latch). c.reset) (latch_past (outline_of s) ws i l)

  module _ (j : ℕ) (l : s.gates ≤ j) where
    pub left_past : (gate (problem_in s ws) j).left ≡ 0
    unfolding problem_in
    left_past = ap (λ (g : Gate). g.left) (gate_past (outline_of s) ws j l)

    pub right_past : (gate (problem_in s ws) j).right ≡ 0
    unfolding problem_in
    right_past = ap (λ (g : Gate). g.right) (gate_past (outline_of s) ws j l)

  pub constraints_past : (c : ℕ) → s.constraints ≤ c → constraint (problem_in s ws) c ≡ 1
  unfolding problem_in
  constraints_past c l = constraint_past (outline_of s) ws c l

  pub nodes_past : (n : ℕ) → s.formula_nodes ≤ n → node (problem_in s ws) n ≡ atom 0
  unfolding problem_in
  nodes_past n l = node_past (outline_of s) ws n l

-- What the readers of the parts go by.
pub ruleset readers = (shows, next_read, reset_read, left_read, right_read, constraint_read, node_words_read, next_past, reset_past, left_past, right_past, constraints_past, nodes_past)

-- No header is longer.
pub header_few : (version : ℕ) → header_words version ≤ 6
unfolding header_words
header_few version = go (eqb version 1) (eqb version 2)
  where
    go : (b d : Bool) → cond b 5 (cond d 6 0) ≤ 6
    go true d = omega arith
    go false true = omega arith
    go false false = omega arith

-- The sizes of a proper problem are within the limits.
module _ {s : Outline} {ws : List ℕ} (good : ProperIn s ws) where
  pub bound_small : s.bound ≤ bound_limit
  bound_small = rw (shows s ws).bound_is at good.proper.bound_within

  pub nodes_some : 1 ≤ s.formula_nodes
  nodes_some = rw (shows s ws).nodes_are at good.proper.nodes_some

  pub width_small : s.width ≤ inputs_limit + latches_limit + gates_limit
  width_small =
      let w = good.width_is in
      omega (arith, good.proper.inputs_within, good.proper.latches_within, good.proper.gates_within)
