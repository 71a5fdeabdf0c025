-- The CNF's literals are of variables 1 to V, V stands in it, and V is within the limit. Assumes nothing.
use mathlib.Core.Path.{◌≡◌, refl}
use mathlib.Core.Bool.{Bool, true, false, cond}
use mathlib.Core.List.{List, [], ◌∷◌, ◌++◌, map, Memᴰ}
use Prim.Native.Nat.{ℕ, zero, suc, max, ◌+◌, ◌*◌, ◌-◌, ◌/◌, ◌≤◌, ◌<◌}
use native.Mathlib.Nat.{zero-add, add-zero, add-suc, suc-add, add-mul, mul-add, mul-one, one-mul, mul-le-mul, mul-le-mul_right}
use native.Mathlib.Omega.{arith}
use borrow.Author.Tests.{leb-true}
use lib.IntN.{ℤ, pos}
use lib.Dec.{leb}
use lib.ListN.{length}
use Rattle.answers.specs.Lists.{numbers, each, joined}
use Rattle.answers.specs.Limits.{variables_limit, inputs_limit, latches_limit, gates_limit, nodes_limit, bound_limit}
use Rattle.clauses.specs.Clauses.{Clause, variable_of, literal_within, Within}
use Rattle.answers.proofs.Tests.{both_true, all_of_append, all_of_map, all_of_if_at, first_true, second_true}
use Rattle.clauses.proofs.Satisfaction.{variable_of_negated}
use Rattle.meaning.specs.Problem.{Problem, Left, Node, W, latch_variable, gate_variable, latch, gate, constraint, node, constant, child, atom, both, either, next, until, release}
use Rattle.meaning.specs.Proper.{Proper, LeftProper, NodeProper}
use Rattle.meaning.specs.Runs.{odd}
use Rattle.meaning.specs.Cnf.{true_literal, false_literal, circuit_variable, literal_at, node_variables, selector, E, P, Q, q_end, q_at, left_at, variables, positions, latch_at, next_at, truth_item, gate_clauses, gates_item, constraint_unit, constraints_item, reset_unit, resets_item, steps_item, closing_clauses, closing_item, selectors_item, p_clauses, q_clauses, e_clauses, node_clauses, nodes_item, formula_item, cnf_items, cnf}
use Rattle.meaning.proofs.Numbers.{length_numbers, get_or_numbers, all_of_each_number, all_of_each_below}
use Rattle.meaning.proofs.ItemByItem.{◌and◌, within_by_items}
use Rattle.meaning.proofs.Within.{clause_within, Fits, pos_fits, negated_fits, signed_fits, unit_within, two_fit, equal_form_within, or_form_within, and_form_within, until_form_within, release_form_within, selected_within, within_append}

-- ════════ The bounds of each kind of variable ════════

-- Positions to k, w circuit variables; the rest is the nodes'.
module _ (k w v rest : ℕ) where
  circuit_bound : (t : ℕ) → t ≤ k → v ≤ w → 1 + t * w + v ≤ (k + 1) * (w + 1) + 2 + rest + 2 * (k + 1)
  circuit_bound t ht hv = rw (mul-add, mul-one, add-mul, one-mul) (omega (arith, mul-le-mul_right w ht))

  selector_bound : v ≤ k → (k + 1) * w + 2 + v ≤ (k + 1) * (w + 1) + 2 + rest + 2 * (k + 1)
  selector_bound hv = rw (mul-add, mul-one) (omega arith)

-- ════════ The literals of a problem ════════

module _ (p : Problem) (proper : Proper p) where
  node_bound : (n : ℕ) → n < length p.nodes → node_variables p n + 2 * (p.bound + 1) ≤ variables p
  unfolding variables
  node_bound n h =
      let before : n ≤ length p.nodes - 1 = omega arith in
      omega (arith, mul-le-mul_right (2 * p.bound + 3) before)

  true_fits : Fits (variables p) true_literal
  unfolding variables
  true_fits = pos_fits (omega arith) (omega arith)

  false_fits : Fits (variables p) false_literal
  false_fits = negated_fits true_fits

  circuit_fits : (t v : ℕ) → t ≤ p.bound → v ≤ W p → Fits (variables p) (circuit_variable p t v)
  unfolding variables
  circuit_fits t zero ht hv = false_fits
  circuit_fits t (suc v) ht hv = pos_fits (omega arith) (circuit_bound p.bound (W p) (suc v) _ t ht hv)

  literal_fits : (t x : ℕ) → t ≤ p.bound → x ≤ 2 * W p + 1 → Fits (variables p) (literal_at p t x)
  literal_fits t x ht hx = signed_fits (odd x) (circuit_fits t (x / 2) ht (omega arith))

  selector_fits : (l : ℕ) → l ≤ p.bound → Fits (variables p) (selector p l)
  unfolding variables
  selector_fits l h = pos_fits (omega arith) (selector_bound p.bound (W p) l _ h)

  e_fits : (n : ℕ) → n < length p.nodes → Fits (variables p) (E p n)
  e_fits n h = pos_fits (omega arith) (node_bound n h)

  p_fits : (n i : ℕ) → n < length p.nodes → Fits (variables p) (P p n i)
  p_fits n i h = go (leb i p.bound) refl
    where
      go : (b : Bool) → leb i p.bound ≡ b → Fits (variables p) (cond b (pos (node_variables p n + i)) (E p n))
      go true e = pos_fits (omega arith) (omega (arith, leb-true i p.bound e, node_bound n h))
      go false e = e_fits n h

  q_fits : (n : ℕ) {end : ℤ} (i : ℕ) → n < length p.nodes → Fits (variables p) end → Fits (variables p) (Q p n end i)
  q_fits n {end} i h he = go (leb i p.bound) refl
    where
      go : (b : Bool) → leb i p.bound ≡ b → Fits (variables p) (cond b (pos (node_variables p n + (p.bound + 1) + i)) end)
      go true e = pos_fits (omega arith) (omega (arith, leb-true i p.bound e, node_bound n h))
      go false e = he

  q_end_fits : (x : Node) → Fits (variables p) (q_end x)
  q_end_fits (atom x) = false_fits
  q_end_fits (both a b) = false_fits
  q_end_fits (either a b) = false_fits
  q_end_fits (next a) = false_fits
  q_end_fits (until a b) = false_fits
  q_end_fits (release a b) = true_fits

  left_fits : (n : ℕ) (a : Left) (i : ℕ) → n < length p.nodes → LeftProper n a → Fits (variables p) (left_at p a i)
  left_fits n (constant true) i h ha = true_fits
  left_fits n (constant false) i h ha = false_fits
  left_fits n (child c) i h ha = p_fits c i (omega arith)

  -- ════════ The items within ════════

  latch_fits : (t i : ℕ) → t ≤ p.bound → i < length p.latches → Fits (variables p) (latch_at p t i)
  latch_fits t i ht hi = circuit_fits t (latch_variable p i) ht (omega arith)

  next_fits : (t i : ℕ) → t ≤ p.bound → i < length p.latches → Fits (variables p) (next_at p t i)
  next_fits t i ht hi = literal_fits t (latch p i).next ht (proper.next_in_range i hi)

  truth_within : Within (variables p) truth_item
  truth_within = unit_within true_fits

  gates_within : Within (variables p) (gates_item p)
  gates_within =
      all_of_each_below (clause_within (variables p)) _ (p.bound + 1) λ t ht.
      all_of_each_below (clause_within (variables p)) (gate_clauses p t) (length p.gates) λ j hj.
      let left_small : (gate p j).left < 2 * gate_variable p j = proper.left_below j hj in
      let right_small : (gate p j).right < 2 * gate_variable p j = proper.right_below j hj in
      and_form_within
      (circuit_fits t (gate_variable p j) (omega arith) (omega arith))
      (literal_fits t (gate p j).left (omega arith) (omega arith))
      (literal_fits t (gate p j).right (omega arith) (omega arith))

  constraints_fit : Within (variables p) (constraints_item p)
  constraints_fit =
      all_of_each_below (clause_within (variables p)) _ (p.bound + 1) λ t ht.
      all_of_each_below (clause_within (variables p)) (constraint_unit p t) (length p.constraints) λ c hc.
      unit_within (literal_fits t (constraint p c) (omega arith) (proper.constraints_in_range c hc))

  reset_within : (r : ℕ) {x : ℤ} → Fits (variables p) x → Within (variables p) (reset_unit r x)
  reset_within zero h = unit_within (negated_fits h)
  reset_within (suc zero) h = unit_within h
  reset_within (suc (suc r)) h = refl

  resets_within : Within (variables p) (resets_item p)
  resets_within =
      all_of_each_below (clause_within (variables p)) _ (length p.latches) λ i hi.
      reset_within (latch p i).reset (latch_fits 0 i (omega arith) hi)

  steps_within : Within (variables p) (steps_item p)
  steps_within =
      all_of_each_below (clause_within (variables p)) _ p.bound λ t ht.
      all_of_each_below (clause_within (variables p)) _ (length p.latches) λ i hi.
      equal_form_within (latch_fits (t + 1) i (omega arith) hi) (next_fits t i (omega arith) hi)

  closing_within : Within (variables p) (closing_item p)
  closing_within =
      all_of_each_below (clause_within (variables p)) _ (p.bound + 1) λ l hl.
      all_of_each_below (clause_within (variables p)) (closing_clauses p l) (length p.latches) λ i hi.
      selected_within (selector_fits l (omega arith)) (latch_fits l i (omega arith) hi) (next_fits p.bound i (omega arith) hi)

  selectors_within : Within (variables p) (selectors_item p)
  selectors_within =
      all_of_each_below (clause_within (variables p)) _ (p.bound + 1) λ l hl.
      all_of_each_number (clause_within (variables p)) _ (l + 1) (p.bound - l) λ m hm.
      both_true (two_fit (negated_fits (selector_fits l (omega arith))) (negated_fits (selector_fits (l + 1 + m) (omega arith)))) refl

  all_selectors_fit : clause_within (variables p) (map (selector p) (positions p)) ≡ true
  all_selectors_fit =
      rw all_of_map
      (all_of_if_at _ (positions p) 0 λ l hl.
      let below : l < p.bound + 1 = rw length_numbers at hl in
      rw (get_or_numbers 0 (p.bound + 1) l 0 below, zero-add) (selector_fits l (omega arith)).within)

  module _ (n : ℕ) (hn : n < length p.nodes) where
    p_within : (x : Node) → NodeProper p n x → (i : ℕ) → i ≤ p.bound → Within (variables p) (p_clauses p n x i)
    p_within (atom x) h i hi = equal_form_within (p_fits n i hn) (literal_fits i x hi h)
    p_within (both a b) h i hi = and_form_within (p_fits n i hn) (p_fits a i (omega arith)) (p_fits b i (omega arith))
    p_within (either a b) h i hi = or_form_within (p_fits n i hn) (p_fits a i (omega arith)) (p_fits b i (omega arith))
    p_within (next a) h i hi = equal_form_within (p_fits n i hn) (p_fits a (i + 1) (omega arith))
    p_within (until a b) h i hi =
        until_form_within
        (p_fits n i hn) (left_fits n a i hn h.0) (p_fits b i (omega arith)) (p_fits n (i + 1) hn)
    p_within (release a b) h i hi =
        release_form_within
        (p_fits n i hn) (left_fits n a i hn h.0) (p_fits b i (omega arith)) (p_fits n (i + 1) hn)

    q_at_fits : (x : Node) (i : ℕ) → Fits (variables p) (q_at p n x i)
    q_at_fits x i = q_fits n i hn (q_end_fits x)

    q_within : (x : Node) → NodeProper p n x → (i : ℕ) → Within (variables p) (q_clauses p n x i)
    q_within (atom x) h i = equal_form_within (q_at_fits (atom x) i) (p_fits n i hn)
    q_within (both a b) h i = equal_form_within (q_at_fits (both a b) i) (p_fits n i hn)
    q_within (either a b) h i = equal_form_within (q_at_fits (either a b) i) (p_fits n i hn)
    q_within (next a) h i = equal_form_within (q_at_fits (next a) i) (p_fits n i hn)
    q_within (until a b) h i =
        until_form_within
        (q_at_fits (until a b) i) (left_fits n a i hn h.0) (p_fits b i (omega arith)) (q_at_fits (until a b) (i + 1))
    q_within (release a b) h i =
        release_form_within
        (q_at_fits (release a b) i) (left_fits n a i hn h.0) (p_fits b i (omega arith)) (q_at_fits (release a b) (i + 1))

    values_within : Within (variables p) (each (positions p) (λ i. p_clauses p n (node p n) i ++ q_clauses p n (node p n) i))
    values_within =
        all_of_each_below (clause_within (variables p)) _ (p.bound + 1) λ i hi.
        within_append (variables p) (p_clauses p n (node p n) i) (q_clauses p n (node p n) i)
        (p_within (node p n) (proper.nodes_proper n hn) i (omega arith))
        (q_within (node p n) (proper.nodes_proper n hn) i)

    ends_within : Within (variables p) (each (positions p) (e_clauses p n (node p n)))
    ends_within =
        all_of_each_below (clause_within (variables p)) (e_clauses p n (node p n)) (p.bound + 1) λ l hl.
        selected_within (selector_fits l (omega arith)) (e_fits n hn) (q_at_fits (node p n) l)

    node_within : Within (variables p) (node_clauses p n)
    node_within =
        rw (all_of_append, all_of_append)
        (both_true (both_true values_within ends_within)
        (both_true (both_true (negated_fits (e_fits n hn)).within all_selectors_fit) refl))

  nodes_within : Within (variables p) (nodes_item p)
  nodes_within = all_of_each_below (clause_within (variables p)) (node_clauses p) (length p.nodes) node_within

  formula_within : Within (variables p) (formula_item p)
  formula_within = unit_within (p_fits (length p.nodes - 1) 0 (omega arith))

pub literals_within : (p : Problem) → Proper p → Within (variables p) (cnf p)
literals_within p proper =
    (within_by_items p (variables p)).1 (
    truth_within p proper
    and gates_within p proper
    and constraints_fit p proper
    and resets_within p proper
    and steps_within p proper
    and closing_within p proper
    and selectors_within p proper
    and nodes_within p proper
    and formula_within p proper
    and tt
    )

-- ════════ The largest variable ════════

-- The largest number of a variable that stands in the clauses.
abbrev pub largest_in : Clause → ℕ
largest_in [] = 0
largest_in (w ∷ ws) = max (variable_of w) (largest_in ws)

abbrev pub largest_variable : List Clause → ℕ
largest_variable [] = 0
largest_variable (c ∷ cs) = max (largest_in c) (largest_variable cs)

largest_in_at_most : (v : ℕ) (c : Clause) → clause_within v c ≡ true → largest_in c ≤ v
largest_in_at_most v [] h = omega arith
largest_in_at_most v (x ∷ xs) h =
    let first : variable_of x ≤ v = leb-true _ _ (second_true (leb 1 (variable_of x)) _ (first_true (literal_within v x) _ h)) in
    let later : largest_in xs ≤ v = largest_in_at_most v xs (second_true (literal_within v x) _ h) in
    omega arith

largest_at_most : (v : ℕ) (cs : List Clause) → Within v cs → largest_variable cs ≤ v
largest_at_most v [] h = omega arith
largest_at_most v (c ∷ cs) h =
    let first : largest_in c ≤ v = largest_in_at_most v c (first_true (clause_within v c) _ h) in
    let later : largest_variable cs ≤ v = largest_at_most v cs (second_true (clause_within v c) _ h) in
    omega arith

largest_append : (cs ds : List Clause) → largest_variable (cs ++ ds) ≡ max (largest_variable cs) (largest_variable ds)
largest_append [] ds = omega arith
largest_append (c ∷ cs) ds = rw (largest_append cs ds) (omega arith)

largest_each : (f : ℕ → List Clause) (i n j : ℕ) → j < n → largest_variable (f (i + j)) ≤ largest_variable (each (numbers i n) f)
largest_each f i zero j h = omega arith
largest_each f i (suc n) zero h = rw (add-zero, largest_append) (omega arith)
largest_each f i (suc n) (suc j) h =
    let later : largest_variable (f (suc i + j)) ≤ largest_variable (each (numbers (suc i) n) f) = largest_each f (suc i) n j (omega arith) in
    rw (add-suc, ← suc-add, largest_append) (omega arith)

largest_among : {cs : List Clause} {items : List (List Clause)} → Memᴰ cs items → largest_variable cs ≤ largest_variable (joined items)
largest_among (Memᴰ.head {x = ds} {xs = items} e) = rw (e, largest_append) (omega arith)
largest_among (Memᴰ.tail {x = ds} {xs = items} m) = rw largest_append (omega (arith, largest_among m))

-- E(n) stands in the last clause of node n.
e_stands : (p : Problem) (n : ℕ) → variable_of (E p n) ≤ largest_variable (node_clauses p n)
e_stands p n = rw (largest_append, variable_of_negated (E p n)) (omega arith)

e_stands_among : (p : Problem) (n : ℕ) → n < length p.nodes → variable_of (E p n) ≤ largest_variable (nodes_item p)
e_stands_among p n h = omega (arith, e_stands p n, rw zero-add at (largest_each (node_clauses p) 0 (length p.nodes) n h))

nodes_among : (p : Problem) → Memᴰ (nodes_item p) (cnf_items p)
nodes_among p = search (Memᴰ.head, Memᴰ.tail) depth 12

pub largest_is : (p : Problem) → Proper p → largest_variable (cnf p) ≡ variables p
unfolding cnf variables
largest_is p proper =
    let most : largest_variable (cnf p) ≤ variables p = largest_at_most (variables p) (cnf p) (literals_within p proper) in
    let last : variables p ≤ largest_variable (nodes_item p) = e_stands_among p (length p.nodes - 1) (omega arith) in
    omega (arith, largest_among (nodes_among p))

-- ════════ The limit ════════

pub variables_fit : (p : Problem) → Proper p → variables p ≤ variables_limit
unfolding variables variables_limit inputs_limit latches_limit gates_limit nodes_limit bound_limit
variables_fit p proper =
    let steps : p.bound + 1 ≤ bound_limit + 1 = omega arith in
    let width : W p + 1 ≤ inputs_limit + latches_limit + gates_limit + 1 = omega arith in
    let before_last : length p.nodes - 1 ≤ nodes_limit - 1 = omega arith in
    let each_node : 2 * p.bound + 3 ≤ 2 * bound_limit + 3 = omega arith in
    omega (arith, mul-le-mul steps width, mul-le-mul before_last each_node)
