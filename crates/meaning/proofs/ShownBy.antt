-- What the problem that an outline shows in words holds: its sizes, and each latch, gate, constraint and node. Assumes nothing.
use mathlib.Core.Path.{◌≡◌, refl}
use mathlib.Core.List.{List, []}
use Prim.Native.Nat.{ℕ, ◌+◌, ◌≤◌, ◌<◌}
use lib.ListN.{length, get_or-eq_default}
use Rattle.meaning.specs.Problem.{atom, W, latch, gate, constraint, node, Outline, read_latch, read_gate, read_constraint, read_node, header_words, problem_by, problem}
use Rattle.meaning.proofs.Numbers.{length_map_numbers, get_or_map_numbers}

module _ (o : Outline) (ws : List ℕ) where
  pub inputs_by : (problem_by o ws).inputs ≡ o.inputs
  unfolding problem_by
  inputs_by = refl

  pub bound_by : (problem_by o ws).bound ≡ o.bound
  unfolding problem_by
  bound_by = refl

  pub latches_by : length (problem_by o ws).latches ≡ o.latches
  unfolding problem_by
  latches_by = length_map_numbers (read_latch o ws) 0 o.latches

  pub gates_by : length (problem_by o ws).gates ≡ o.gates
  unfolding problem_by
  gates_by = length_map_numbers (read_gate o ws) 0 o.gates

  pub constraints_by : length (problem_by o ws).constraints ≡ o.constraints
  unfolding problem_by
  constraints_by = length_map_numbers (read_constraint o ws) 0 o.constraints

  pub nodes_by : length (problem_by o ws).nodes ≡ o.formula_nodes
  unfolding problem_by
  nodes_by = length_map_numbers (read_node o ws) 0 o.formula_nodes

  pub w_by : W (problem_by o ws) ≡ o.inputs + o.latches + o.gates
  w_by = rw (inputs_by, latches_by, gates_by)

  pub latch_by : (i : ℕ) → i < o.latches → latch (problem_by o ws) i ≡ read_latch o ws i
  unfolding problem_by
  latch_by i l = get_or_map_numbers (read_latch o ws) o.latches i _ l

  pub gate_by : (j : ℕ) → j < o.gates → gate (problem_by o ws) j ≡ read_gate o ws j
  unfolding problem_by
  gate_by j l = get_or_map_numbers (read_gate o ws) o.gates j _ l

  pub constraint_by : (c : ℕ) → c < o.constraints → constraint (problem_by o ws) c ≡ read_constraint o ws c
  unfolding problem_by
  constraint_by c l = get_or_map_numbers (read_constraint o ws) o.constraints c _ l

  pub node_by : (n : ℕ) → n < o.formula_nodes → node (problem_by o ws) n ≡ read_node o ws n
  unfolding problem_by
  node_by n l = get_or_map_numbers (read_node o ws) o.formula_nodes n _ l

  -- Past the end.
  pub latch_past : (i : ℕ) → o.latches ≤ i → latch (problem_by o ws) i ≡ record { next = 0; reset = 2 }
  latch_past i l = get_or-eq_default (problem_by o ws).latches _ (rw latches_by l)

  pub gate_past : (j : ℕ) → o.gates ≤ j → gate (problem_by o ws) j ≡ record { left = 0; right = 0 }
  gate_past j l = get_or-eq_default (problem_by o ws).gates _ (rw gates_by l)

  pub constraint_past : (c : ℕ) → o.constraints ≤ c → constraint (problem_by o ws) c ≡ 1
  constraint_past c l = get_or-eq_default (problem_by o ws).constraints _ (rw constraints_by l)

  pub node_past : (n : ℕ) → o.formula_nodes ≤ n → node (problem_by o ws) n ≡ atom 0
  node_past n l = get_or-eq_default (problem_by o ws).nodes _ (rw nodes_by l)

-- "Version 1 files mean D = 0."
pub none_in_version_1 : (ws : List ℕ) → (problem 1 ws).constraints ≡ []
unfolding header_words problem_by problem
none_in_version_1 ws = refl
