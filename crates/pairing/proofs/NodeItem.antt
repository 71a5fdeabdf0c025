-- Item 7 of the CNF: a node's clauses are satisfied exactly where the laws of its P, Q and E hold. Assumes nothing.
use mathlib.Core.Path.{◌≡◌}
use mathlib.Core.Logic.Iff
use mathlib.Core.Logic.{◌↔◌}
use mathlib.Core.Bool.{true}
use mathlib.Core.List.{List, [], ◌∷◌, ◌++◌}
use Prim.Native.Nat.{ℕ, ◌≤◌, ◌<◌}
use lib.ListN.{length}
use Rattle.answers.specs.Lists.{some_of, each}
use Rattle.clauses.specs.Clauses.{Clause, Assignment, Satisfies, literal_true}
use Rattle.meaning.specs.Problem.{Problem, Node, node, atom, both, either, next, until, release}
use Rattle.meaning.specs.Proper.{Proper, NodeProper}
use Rattle.meaning.specs.Cnf.{true_literal, positions, selector, p_clauses, q_clauses, e_clauses, e_closed, node_clauses, nodes_item}
use Rattle.pairing.specs.NodeLaws.{at_next, op_value, q_value}
use Rattle.pairing.specs.ModelLaws.{Reading, reading, row}
use Rattle.pairing.proofs.Forms.{equal_form_is, and_form_is, or_form_is, until_form_is, release_form_is, guarded_form_is, some_where_is}
use Rattle.pairing.proofs.Readings.{literal_at_reads, selector_reads, p_reads, p_next_reads, q_reads, q_next_reads, e_reads, true_reads, false_reads, left_reads}
use Rattle.pairing.proofs.ItemsAsLaws.{append_is, each_below_is, each_up_to_is}

-- ════════ The laws of one node ════════

-- The equations of P and Q of node n at i, where the node is x.
abbrev pub p_equation : Problem → Reading → ℕ → Node → ℕ → Type 0
p_equation p r n x i = r.P n i ≡ op_value p.bound (row p r) r.P r.E x i (at_next p.bound (r.P n) (r.E n) i)

abbrev pub q_equation : Problem → Reading → ℕ → Node → ℕ → Type 0
q_equation p r n x i = r.Q n i ≡ q_value p.bound (row p r) r.P r.E (r.Q n) x n i

-- The laws of node n.
pub record NodeHolds (p : Problem) (r : Reading) (n : ℕ) : Type 0 where
  pub p_law : (i : ℕ) → i ≤ p.bound → p_equation p r n (node p n) i
  pub q_law : (i : ℕ) → i ≤ p.bound → q_equation p r n (node p n) i
  pub e_chosen_law : (l : ℕ) → l ≤ p.bound → r.chosen l ≡ true → r.E n ≡ r.Q n l
  pub e_closed_law : r.E n ≡ true → some_of r.chosen (positions p) ≡ true

-- ════════ The clauses of one node ════════

abbrev pq_part : Problem → ℕ → List Clause
pq_part p n = each (positions p) (λ i. p_clauses p n (node p n) i ++ q_clauses p n (node p n) i)

abbrev e_part : Problem → ℕ → List Clause
e_part p n = each (positions p) (e_clauses p n (node p n))

module _ (p : Problem) (a : Assignment) (truth : literal_true a true_literal ≡ true) (n : ℕ) where
  pub p_clauses_are : (x : Node) → NodeProper p n x → (i : ℕ) → i ≤ p.bound
      → Satisfies a (p_clauses p n x i) ↔ p_equation p (reading p a) n x i
  p_clauses_are (atom x) w i h = equal_form_is (p_reads p a n i h) (literal_at_reads p a i x w)
  p_clauses_are (both b c) w i h = and_form_is (p_reads p a n i h) (p_reads p a b i h) (p_reads p a c i h)
  p_clauses_are (either b c) w i h = or_form_is (p_reads p a n i h) (p_reads p a b i h) (p_reads p a c i h)
  p_clauses_are (next b) w i h = equal_form_is (p_reads p a n i h) (p_next_reads p a b i)
  p_clauses_are (until b c) w i h =
      until_form_is (p_reads p a n i h) (left_reads a truth p b i h) (p_reads p a c i h) (p_next_reads p a n i)
  p_clauses_are (release b c) w i h =
      release_form_is (p_reads p a n i h) (left_reads a truth p b i h) (p_reads p a c i h) (p_next_reads p a n i)

  pub q_clauses_are : (x : Node) (i : ℕ) → i ≤ p.bound → Satisfies a (q_clauses p n x i) ↔ q_equation p (reading p a) n x i
  q_clauses_are (atom x) i h = equal_form_is (q_reads p a n _ i h) (p_reads p a n i h)
  q_clauses_are (both b c) i h = equal_form_is (q_reads p a n _ i h) (p_reads p a n i h)
  q_clauses_are (either b c) i h = equal_form_is (q_reads p a n _ i h) (p_reads p a n i h)
  q_clauses_are (next b) i h = equal_form_is (q_reads p a n _ i h) (p_reads p a n i h)
  q_clauses_are (until b c) i h =
      until_form_is (q_reads p a n _ i h) (left_reads a truth p b i h) (p_reads p a c i h) (q_next_reads p a n i (false_reads a truth))
  q_clauses_are (release b c) i h =
      release_form_is (q_reads p a n _ i h) (left_reads a truth p b i h) (p_reads p a c i h) (q_next_reads p a n i (true_reads a truth))

  pq_part_is : NodeProper p n (node p n) → Satisfies a (pq_part p n)
      ↔ ((i : ℕ) → i ≤ p.bound → p_equation p (reading p a) n (node p n) i × q_equation p (reading p a) n (node p n) i)
  pq_part_is w =
      each_up_to_is a _ p.bound (λ i h. append_is a (p_clauses p n (node p n) i) (q_clauses p n (node p n) i)
      (p_clauses_are (node p n) w i h) (q_clauses_are (node p n) i h))

  e_part_is : Satisfies a (e_part p n)
      ↔ ((l : ℕ) → l ≤ p.bound → (reading p a).chosen l ≡ true → (reading p a).E n ≡ (reading p a).Q n l)
  e_part_is = each_up_to_is a _ p.bound (λ l h. guarded_form_is (selector_reads p a l) (e_reads p a n) (q_reads p a n _ l h))

  pub e_closed_is : Satisfies a (e_closed p n ∷ []) ↔ ((reading p a).E n ≡ true → some_of (reading p a).chosen (positions p) ≡ true)
  e_closed_is = some_where_is (selector p) (positions p) (e_reads p a n)

  pub node_clauses_are : NodeProper p n (node p n) → Satisfies a (node_clauses p n) ↔ NodeHolds p (reading p a) n
  node_clauses_are w =
      Iff.trans (append_is a (pq_part p n ++ e_part p n) _ (append_is a (pq_part p n) _ (pq_part_is w) e_part_is) e_closed_is) (
        λ h. record { p_law = λ i l. (h.0.0 i l).0; q_law = λ i l. (h.0.0 i l).1; e_chosen_law = h.0.1; e_closed_law = h.1 },
        λ h. ((λ i l. (h.p_law i l, h.q_law i l), h.e_chosen_law), h.e_closed_law),
      )

-- ════════ The item ════════

-- "7. Each node: .."
pub nodes_item_is : (p : Problem) (a : Assignment) → Proper p → literal_true a true_literal ≡ true
    → Satisfies a (nodes_item p) ↔ ((n : ℕ) → n < length p.nodes → NodeHolds p (reading p a) n)
nodes_item_is p a proper truth =
    each_below_is a _ (length p.nodes) (λ n l. node_clauses_are p a truth n (proper.nodes_proper n l))
