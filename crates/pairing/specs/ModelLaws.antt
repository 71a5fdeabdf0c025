-- An assignment read by what its variables stand for, and what the CNF asks of it, as equations between Bools. Assumes nothing.
use Rattle.std.specs.Prelude.{Bool, true, false, ◌&&◌, List, map, ◌≡◌, ℕ, ◌+◌, ◌-◌, ◌≤◌, ◌<◌, pos, length}
use Rattle.answers.specs.Lists.{numbers, some_of}
use Rattle.clauses.specs.Clauses.{Assignment, literal_true}
use Rattle.meaning.specs.Problem.{Problem, W, latch_variable, gate_variable, latch, gate, constraint, node}
use Rattle.meaning.specs.Runs.{literal_value, gate_value, meets_reset}
use Rattle.meaning.specs.Cnf as Cnf
use Rattle.meaning.specs.Cnf.{true_literal, positions, circuit_variable, selector, node_variables}
use Rattle.pairing.specs.NodeLaws.{at_next, op_value, q_value}

-- The constant, circuit variable v at t, selector l, and P, Q, E of each node.
pub record Reading : Type 0 where
  pub truth : Bool
  pub circuit : ℕ → ℕ → Bool
  pub chosen : ℕ → Bool
  pub P : ℕ → ℕ → Bool
  pub Q : ℕ → ℕ → Bool
  pub E : ℕ → Bool

abbrev pub reading : Problem → Assignment → Reading
reading p a = record {
  truth = literal_true a true_literal;
  circuit = λ t v. literal_true a (circuit_variable p t v);
  chosen = λ l. literal_true a (selector p l);
  P = λ n i. literal_true a (pos (node_variables p n + i));
  Q = λ n i. literal_true a (pos (node_variables p n + (p.bound + 1) + i));
  E = λ n. literal_true a (Cnf.E p n);
}

-- The values of variables 0..W at t.
abbrev pub row : Problem → Reading → ℕ → List Bool
row p r t = map (r.circuit t) (numbers 0 (W p + 1))

-- Items 1 to 8 of the CNF, the constraints after item 2.
pub record ModelLaws (p : Problem) (r : Reading) : Type 0 where
  pub truth_law : r.truth ≡ true
  pub gate_law : (t j : ℕ) → t ≤ p.bound → j < length p.gates → r.circuit t (gate_variable p j) ≡ gate_value (row p r t) (gate p j)
  pub constraint_law : (t c : ℕ) → t ≤ p.bound → c < length p.constraints → literal_value (row p r t) (constraint p c) ≡ true
  pub reset_law : (i : ℕ) → i < length p.latches → meets_reset (latch p i).reset (r.circuit 0 (latch_variable p i)) ≡ true
  pub step_law : (t i : ℕ) → t < p.bound → i < length p.latches
      → r.circuit (t + 1) (latch_variable p i) ≡ literal_value (row p r t) (latch p i).next
  pub closing_law : (l i : ℕ) → l ≤ p.bound → i < length p.latches → r.chosen l ≡ true
      → r.circuit l (latch_variable p i) ≡ literal_value (row p r p.bound) (latch p i).next
  pub single_law : (l m : ℕ) → l < m → m ≤ p.bound → r.chosen l && r.chosen m ≡ false
  pub p_law : (n i : ℕ) → n < length p.nodes → i ≤ p.bound
      → r.P n i ≡ op_value p.bound (row p r) r.P r.E (node p n) i (at_next p.bound (r.P n) (r.E n) i)
  pub q_law : (n i : ℕ) → n < length p.nodes → i ≤ p.bound
      → r.Q n i ≡ q_value p.bound (row p r) r.P r.E (r.Q n) (node p n) n i
  pub e_chosen_law : (n l : ℕ) → n < length p.nodes → l ≤ p.bound → r.chosen l ≡ true → r.E n ≡ r.Q n l
  pub e_closed_law : (n : ℕ) → n < length p.nodes → r.E n ≡ true → some_of r.chosen (positions p) ≡ true
  pub formula_law : r.P (length p.nodes - 1) 0 ≡ true
