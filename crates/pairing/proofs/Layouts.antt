-- An assignment of all variables and its reading are the same thing. Assumes nothing.
use mathlib.Core.Path.{◌≡◌, refl, sym, ◌∙◌}
use mathlib.Core.Bool.{false}
use mathlib.Core.List.{[], ◌∷◌, map}
use Prim.Native.Nat.{ℕ, suc, ◌+◌, ◌*◌, ◌≤◌, ◌<◌}
use native.Mathlib.Nat.{zero-add, add_assoc, add-suc, suc-add, suc-mul, mul-le-mul_right, mul-add, mul-one}
use native.Mathlib.Numerals.{one-add}
use native.Mathlib.Omega.{arith}
use lib.IntN.{pos}
use lib.ListN.{length, get_or, length-append}
use lib.Seq.{drop-cons}
use Rattle.answers.specs.Lists.{numbers, each}
use Rattle.clauses.specs.Clauses.{Assignment, literal_true}
use Rattle.meaning.specs.Problem.{Problem, W}
use Rattle.meaning.specs.Cnf.{node_variables, variables, positions}
use Rattle.meaning.proofs.Numbers.{length_map_numbers, get_or_map_numbers, get_or_map_numbers_from}
use Rattle.meaning.proofs.Counts.{last_of}
use Rattle.pairing.specs.ModelLaws.{Reading, reading}
use Rattle.pairing.specs.Layout.{circuit_values, chosen_values, node_values, layout, Agree}
use Rattle.pairing.proofs.BlocksOfOneLength.{get_or_first, get_or_second, length_each, get_or_each, map_numbers_same, each_numbers_same, cut, cut_one, cut_end, cut_cut, cut_map, cut_each}

-- ════════ Counts ════════

-- The steps 0..k.
abbrev steps : Problem → ℕ
steps p = p.bound + 1

-- The variables of a node.
abbrev node_width : Problem → ℕ
node_width p = 2 * p.bound + 3

-- The variables past the constant.
abbrev past_truth : Problem → ℕ
past_truth p = steps p * W p + (steps p + length p.nodes * node_width p)

-- Row t of n rows ends within them.
row_fits : (t n w : ℕ) → t < n → t * w + w ≤ n * w
row_fits t n w l = rw suc-mul at (mul-le-mul_right w l)

-- Variable m of node n: the constant's, the circuit's and the selectors' come before it, and those of n nodes.
node_place : (p : Problem) (n m : ℕ) → node_variables p n + m ≡ suc (suc (steps p * W p + (steps p + (n * node_width p + m))))
node_place p n m = rw (mul-add (steps p) (W p) 1, mul-one) (omega arith)

variables_count : (p : Problem) → 1 ≤ length p.nodes → variables p ≡ suc (past_truth p)
unfolding variables
variables_count p l = rw (mul-add (steps p) (W p) 1, mul-one, last_of (length p.nodes) (node_width p) l) (omega arith)

-- ════════ The length of the layout ════════

module _ (p : Problem) (r : Reading) where
  length_circuit_values : (t : ℕ) → length (circuit_values p r t) ≡ W p
  length_circuit_values t = length_map_numbers (r.circuit t) 1 (W p)

  length_circuits : length (each (positions p) (circuit_values p r)) ≡ steps p * W p
  length_circuits = length_each (circuit_values p r) (W p) length_circuit_values 0 (steps p)

  length_chosen_values : length (chosen_values p r) ≡ steps p
  length_chosen_values = length_map_numbers r.chosen 0 (steps p)

  length_p_values : (n : ℕ) → length (map (r.P n) (positions p)) ≡ steps p
  length_p_values n = length_map_numbers (r.P n) 0 (steps p)

  length_q_values : (n : ℕ) → length (map (r.Q n) (positions p)) ≡ steps p
  length_q_values n = length_map_numbers (r.Q n) 0 (steps p)

  length_node_values : (n : ℕ) → length (node_values p r n) ≡ node_width p
  length_node_values n = rw (length-append, length-append, length_p_values n, length_q_values n) (omega arith)

  length_nodes : length (each (numbers 0 (length p.nodes)) (node_values p r)) ≡ length p.nodes * node_width p
  length_nodes = length_each (node_values p r) (node_width p) length_node_values 0 (length p.nodes)

  pub layout_length : 1 ≤ length p.nodes → length (layout p r) ≡ variables p
  unfolding layout
  layout_length l = rw (variables_count p l, length-append, length-append, length_circuits, length_chosen_values, length_nodes)

-- ════════ The layout reads back ════════

module _ (p : Problem) (r : Reading) where
  layout_truth : (reading p (layout p r)).truth ≡ r.truth
  unfolding layout
  layout_truth = refl

  layout_circuit : (t v : ℕ) → t ≤ p.bound → v < W p → (reading p (layout p r)).circuit t (suc v) ≡ r.circuit t (suc v)
  unfolding layout
  layout_circuit t v l m =
      let place : 1 + t * W p + suc v ≡ suc (suc (t * W p + v)) = omega arith in
      let below : t < steps p = omega arith in
      rw (
        place,
        get_or_first _ _ _ (t * W p + v) false (length_circuits p r) (omega (arith, row_fits t (steps p) (W p) below)),
        get_or_each (circuit_values p r) (W p) (length_circuit_values p r) (steps p) t v false below m,
        get_or_map_numbers_from (r.circuit t) 1 (W p) v false m,
        one-add,
      )

  layout_chosen : (l : ℕ) → l ≤ p.bound → (reading p (layout p r)).chosen l ≡ r.chosen l
  unfolding layout
  layout_chosen l m =
      let place : steps p * W p + 2 + l ≡ suc (suc (steps p * W p + l)) = omega arith in
      let below : l < steps p = omega arith in
      rw (
        place,
        get_or_second _ _ _ l false (length_circuits p r),
        get_or_first _ _ _ l false (length_chosen_values p r) below,
        get_or_map_numbers r.chosen (steps p) l false below,
      )

  -- Place m of node n.
  layout_node : (n m : ℕ) → n < length p.nodes → m < node_width p
      → literal_true (layout p r) (pos (node_variables p n + m)) ≡ get_or (node_values p r n) m false
  unfolding layout
  layout_node n m l h =
      rw (
        node_place p n m,
        get_or_second _ _ _ (steps p + (n * node_width p + m)) false (length_circuits p r),
        get_or_second _ _ _ (n * node_width p + m) false (length_chosen_values p r),
        get_or_each (node_values p r) (node_width p) (length_node_values p r) (length p.nodes) n m false l h,
      )

  layout_p : (n i : ℕ) → n < length p.nodes → i ≤ p.bound → (reading p (layout p r)).P n i ≡ r.P n i
  layout_p n i l h =
      let below : i < steps p = omega arith in
      rw (
        layout_node n i l (omega arith),
        get_or_first _ _ _ i false (length_p_values p r n) below,
        get_or_map_numbers (r.P n) (steps p) i false below,
      )

  layout_q : (n i : ℕ) → n < length p.nodes → i ≤ p.bound → (reading p (layout p r)).Q n i ≡ r.Q n i
  layout_q n i l h =
      let below : i < steps p = omega arith in
      rw (
        add_assoc (node_variables p n) (steps p) i,
        layout_node n (steps p + i) l (omega arith),
        get_or_second _ _ _ i false (length_p_values p r n),
        get_or_first _ _ _ i false (length_q_values p r n) below,
        get_or_map_numbers (r.Q n) (steps p) i false below,
      )

  layout_e : (n : ℕ) → n < length p.nodes → (reading p (layout p r)).E n ≡ r.E n
  layout_e n l =
      let place : 2 * steps p ≡ steps p + (steps p + 0) = omega arith in
      rw (
        layout_node n (2 * steps p) l (omega arith),
        place,
        get_or_second _ _ _ (steps p + 0) false (length_p_values p r n),
        get_or_second _ _ _ 0 false (length_q_values p r n),
      )

  pub layout_reads : Agree p (reading p (layout p r)) r
  layout_reads = record {
    truth = layout_truth;
    circuit = layout_circuit;
    chosen = layout_chosen;
    P = layout_p;
    Q = layout_q;
    E = layout_e;
  }

-- ════════ Readings that agree have one layout ════════

module _ {p : Problem} {r s : Reading} (same : Agree p r s) where
  same_circuit_values : (t : ℕ) → t ≤ p.bound → circuit_values p r t ≡ circuit_values p s t
  same_circuit_values t l = map_numbers_same (r.circuit t) (s.circuit t) 1 (W p) (λ v m. rw one-add (same.circuit t v l m))

  same_chosen_values : chosen_values p r ≡ chosen_values p s
  same_chosen_values = map_numbers_same r.chosen s.chosen 0 (steps p) (λ l m. rw zero-add (same.chosen l (omega arith)))

  same_node_values : (n : ℕ) → n < length p.nodes → node_values p r n ≡ node_values p s n
  same_node_values n l =
      rw (
        map_numbers_same (r.P n) (s.P n) 0 (steps p) (λ i m. rw zero-add (same.P n i l (omega arith))),
        map_numbers_same (r.Q n) (s.Q n) 0 (steps p) (λ i m. rw zero-add (same.Q n i l (omega arith))),
        same.E n l,
      )

  pub same_layout : layout p r ≡ layout p s
  unfolding layout
  same_layout =
      rw (
        same.truth,
        each_numbers_same (circuit_values p r) (circuit_values p s) 0 (steps p) (λ t l. rw zero-add (same_circuit_values t (omega arith))),
        same_chosen_values,
        each_numbers_same (node_values p r) (node_values p s) 0 (length p.nodes) (λ n l. rw zero-add (same_node_values n l)),
      )

-- ════════ The layout of an assignment's reading ════════

-- Where the selectors and the nodes begin.
abbrev chosen_place : Problem → ℕ
chosen_place p = 1 + steps p * W p

abbrev nodes_place : Problem → ℕ
nodes_place p = chosen_place p + steps p

-- The values of node n, of which the first stands at x.
module _ (p : Problem) (a : Assignment) (n x : ℕ) (first : node_variables p n ≡ suc x) (fits : x + node_width p ≤ length a) where
  cut_p : map ((reading p a).P n) (positions p) ≡ cut a x (steps p)
  cut_p = cut_map a ((reading p a).P n) false x 0 (steps p) (omega arith) (λ i m. rw (zero-add, first, suc-add))

  cut_q : map ((reading p a).Q n) (positions p) ≡ cut a (x + steps p) (steps p)
  cut_q = cut_map a ((reading p a).Q n) false (x + steps p) 0 (steps p) (omega arith) (λ i m. rw (zero-add, first, suc-add x, suc-add))

  cut_e : (reading p a).E n ∷ [] ≡ cut a (x + steps p + steps p) 1
  cut_e =
      let place : node_variables p n + 2 * steps p ≡ suc (x + steps p + steps p) = omega arith in
      rw place (cut_one a false (x + steps p + steps p) (omega arith))

  cut_node_at : node_values p (reading p a) n ≡ cut a x (node_width p)
  cut_node_at =
      let width : node_width p ≡ steps p + (steps p + 1) = omega arith in
      rw (cut_p, cut_q, cut_e, width, cut_cut a (x + steps p)) (cut_cut a x (steps p) (steps p + 1))

module _ (p : Problem) (a : Assignment) (whole : length a ≡ suc (past_truth p)) where
  cut_circuit_values : (t : ℕ) → t ≤ p.bound → circuit_values p (reading p a) t ≡ cut a (1 + t * W p) (W p)
  cut_circuit_values t l =
      let place : (v : ℕ) → 1 + t * W p + suc v ≡ suc (1 + t * W p + v) = λ v. add-suc (1 + t * W p) v in
      let fits : t * W p + W p ≤ steps p * W p = row_fits t (steps p) (W p) (omega arith) in
      cut_map a ((reading p a).circuit t) false (1 + t * W p) 1 (W p) (omega arith) (λ v m. rw (one-add v, place v))

  cut_circuits : each (positions p) (circuit_values p (reading p a)) ≡ cut a 1 (steps p * W p)
  cut_circuits = cut_each a (circuit_values p (reading p a)) (W p) 1 0 (steps p) (λ t l. rw zero-add (cut_circuit_values t (omega arith)))

  cut_chosen : chosen_values p (reading p a) ≡ cut a (chosen_place p) (steps p)
  cut_chosen =
      let place : (l : ℕ) → steps p * W p + 2 + l ≡ suc (chosen_place p + l) = λ l. omega arith in
      cut_map a (reading p a).chosen false (chosen_place p) 0 (steps p) (omega arith) (λ l m. rw (zero-add, place l))

  cut_node : (n : ℕ) → n < length p.nodes → node_values p (reading p a) n ≡ cut a (nodes_place p + n * node_width p) (node_width p)
  cut_node n l =
      let fits : n * node_width p + node_width p ≤ length p.nodes * node_width p = row_fits n (length p.nodes) (node_width p) l in
      cut_node_at p a n (nodes_place p + n * node_width p) (omega (arith, node_place p n 0)) (omega arith)

  cut_nodes : each (numbers 0 (length p.nodes)) (node_values p (reading p a)) ≡ cut a (nodes_place p) (length p.nodes * node_width p)
  cut_nodes = cut_each a (node_values p (reading p a)) (node_width p) (nodes_place p) 0 (length p.nodes) (λ n l. rw zero-add (cut_node n l))

  layout_of_whole : layout p (reading p a) ≡ a
  unfolding layout
  layout_of_whole =
      rw (cut_circuits, cut_chosen, cut_nodes, cut_cut, cut_cut, cut_end a 1 (past_truth p) (omega arith))
      (sym (drop-cons a 0 false (omega arith)))

pub layout_of_reading : (p : Problem) (a : Assignment) → 1 ≤ length p.nodes → length a ≡ variables p → layout p (reading p a) ≡ a
layout_of_reading p a l e = layout_of_whole p a (e ∙ variables_count p l)
