-- The reading of a witness keeps the model's laws, and the reading of a model is that of its bytes. Assumes nothing.
use mathlib.Core.Path.{◌≡◌, refl, sym, ◌∙◌, ap}
use mathlib.Core.Bool.{Bool, true, false, false≢true}
use mathlib.Core.List.{List}
use Prim.Native.Nat.{ℕ, zero, suc, ◌+◌, ◌-◌, ◌≤◌, ◌<◌, zero-le}
use native.Mathlib.Omega.{arith}
use borrow.Author.Tests.{eqb-true}
use lib.ListN.{length, get_or}
use lib.Seq.{ext_get_or}
use Rattle.answers.proofs.Tests.{eqb_self}
use Rattle.meaning.specs.Problem.{Problem, W, latch_variable, latch, constraint}
use Rattle.meaning.specs.Proper.{Proper}
use Rattle.meaning.specs.Runs.{literal_value, next_values, meets_constraints, StartsRight}
use Rattle.meaning.specs.Formulas.{formula}
use Rattle.meaning.specs.Bounded.{Shape, prefix, lasso}
use Rattle.meaning.specs.LassoValue.{bounded_value}
use Rattle.meaning.specs.Witnesses.{byte, shape, first_latches, position, rows, Closes, Shows, Witness}
use Rattle.meaning.proofs.Numbers.{get_or_map_numbers}
use Rattle.pairing.specs.NodeLaws.{NodeLaws}
use Rattle.pairing.specs.ModelLaws.{Reading, ModelLaws, row}
use Rattle.pairing.specs.Layout.{Agree}
use Rattle.pairing.specs.Bytes.{chosen_of, bytes_of_reading}
use Rattle.pairing.proofs.Meaning.{lasso_value}
use Rattle.pairing.proofs.Runs.{length_next_values, length_latches, constraints_are}
use Rattle.pairing.proofs.Witnesses.{value_if_shows}
use Rattle.pairing.proofs.Trees.{children_earlier, formula_is}
use Rattle.pairing.proofs.Gates.{values_zero_false}
use Rattle.pairing.proofs.NodeValues.{StartWithin, p_of, q_of, e_of, node_laws, node_laws_determine, start_within}
use Rattle.pairing.proofs.SameNodes.{node_laws_same}
use Rattle.pairing.proofs.Bytes.{bytes_length, bytes_start, bytes_bits, bytes_latches}
use Rattle.pairing.proofs.Rows.{next_value, row_at, rows_of_model, row_of_rows, rows_latches, rows_gate_law, rows_constraint_law, rows_step_law, rows_reset_law, rows_closing_law}
use Rattle.pairing.proofs.Choices.{chosen_once, bytes_choose, end_by_shape, end_at_chosen, end_closed}

-- The circuit by the run, the selectors by the shape, the nodes by the bounded meaning.
abbrev pub witness_reading : Problem → List ℕ → Reading
witness_reading p bs = record {
  truth = true;
  circuit = λ t v. get_or (rows p bs t) v false;
  chosen = chosen_of (shape bs);
  P = p_of p (shape bs) (rows p bs);
  Q = q_of p (shape bs) (rows p bs);
  E = e_of p (shape bs) (rows p bs);
}

tables_of_rows : {p : Problem} → Proper p → (bs : List ℕ) → byte bs 0 ≤ p.bound + 1
    → NodeLaws p (shape bs) (rows p bs) (p_of p (shape bs) (rows p bs)) (q_of p (shape bs) (rows p bs)) (e_of p (shape bs) (rows p bs))
tables_of_rows {p} proper bs start =
    node_laws (children_earlier proper) (shape bs) (start_within p (byte bs 0) start) (rows p bs) (λ t h. values_zero_false p (position p bs) t)

-- ════════ A witness's reading keeps the model's laws ════════

closes_if_chosen : (p : Problem) (bs : List ℕ) (s : Shape) (l : ℕ) → Shows p bs s → chosen_of s l ≡ true → Closes p bs l
closes_if_chosen p bs prefix l shown c = absurd (false≢true c)
closes_if_chosen p bs (lasso m) l shown c = rw (eqb-true l m c) shown.0

-- Of a reading that agrees with that of a witness.
module _ (p : Problem) (proper : Proper p) (bs : List ℕ) (w : Witness p bs) (r : Reading) (same : Agree p r (witness_reading p bs))
    (variable_0 : (t : ℕ) → r.circuit t 0 ≡ false) where
  pub same_circuit : (t v : ℕ) → t ≤ p.bound → v ≤ W p → r.circuit t v ≡ get_or (rows p bs t) v false
  same_circuit t zero h l = variable_0 t ∙ sym (values_zero_false p (position p bs) t)
  same_circuit t (suc v) h l = same.circuit t v h l

  nodes_keep : NodeLaws p (shape bs) (row p r) r.P r.Q r.E
  nodes_keep =
      node_laws_same (children_earlier proper) (rows p bs) (row p r)
      (λ n t l h x e. ap (λ (vs : List Bool). literal_value vs x) (sym (row_of_rows p bs w.length_right r same_circuit t h)))
      (λ n i l h. sym (same.P n i l h)) (λ n i l h. sym (same.Q n i l h)) (λ n l. sym (same.E n l))
      (start_within p (byte bs 0) w.start_in_range) (tables_of_rows proper bs w.start_in_range)

  last_true : r.P (length p.nodes - 1) 0 ≡ true
  last_true =
      let some : 1 ≤ length p.nodes = proper.nodes_some in
      let value : bounded_value (shape bs) p.bound (rows p bs) (formula p) 0 ≡ true =
      value_if_shows p bs (shape bs) (start_within p (byte bs 0) w.start_in_range) w.shows in
      same.P (length p.nodes - 1) 0 (omega arith) zero-le ∙ (rw (formula_is p) at value)

  pub witness_keeps_laws : ModelLaws p r
  witness_keeps_laws =
      let start = start_within p (byte bs 0) w.start_in_range in
      let laws = nodes_keep in
      record {
        truth_law = same.truth;
        gate_law = rows_gate_law p bs w.length_right r same_circuit proper;
        constraint_law = rows_constraint_law p bs w.length_right r same_circuit w.constraints_met;
        reset_law = rows_reset_law p bs w.length_right r same_circuit w.starts_right;
        step_law = rows_step_law p bs w.length_right r same_circuit;
        closing_law = λ l i h q c.
            rows_closing_law p bs w.length_right r same_circuit l i h q
            (closes_if_chosen p bs (shape bs) l w.shows (sym (same.chosen l h) ∙ c));
        single_law = λ l m h q. rw (same.chosen l (omega arith), same.chosen m q) (chosen_once (shape bs) l m h);
        p_law = laws.p_law;
        q_law = laws.q_law;
        e_chosen_law = λ n l h. end_at_chosen p r.chosen (r.Q n) (r.E n) (shape bs) same.chosen (laws.e_law n h) l;
        e_closed_law = λ n h. end_closed p r.chosen (r.Q n) (r.E n) (shape bs) start same.chosen (laws.e_law n h);
        formula_law = last_true;
      }

-- ════════ A model's reading is that of its bytes, and these are a witness ════════

module _ (p : Problem) (proper : Proper p) (r : Reading) (laws : ModelLaws p r) (variable_0 : (t : ℕ) → r.circuit t 0 ≡ false) where
  same_rows : (t : ℕ) → t ≤ p.bound → row p r t ≡ rows p (bytes_of_reading p r) t
  same_rows = rows_of_model p r proper (λ t h. variable_0 t) laws.gate_law laws.step_law

  circuit_by_rows : (t v : ℕ) → t ≤ p.bound → v ≤ W p → r.circuit t v ≡ get_or (rows p (bytes_of_reading p r) t) v false
  circuit_by_rows t v h l = sym (row_at p r t v l) ∙ ap (λ (vs : List Bool). get_or vs v false) (same_rows t h)

  nodes_by_shape : NodeLaws p (shape (bytes_of_reading p r)) (rows p (bytes_of_reading p r)) r.P r.Q r.E
  nodes_by_shape =
      let start = start_within p (byte (bytes_of_reading p r) 0) (bytes_start p r) in
      node_laws_same (children_earlier proper) (row p r) (rows p (bytes_of_reading p r))
      (λ n t l h x e. ap (λ (vs : List Bool). literal_value vs x) (same_rows t h)) (λ n i l h. refl) (λ n i l h. refl) (λ n l. refl) start (record {
        p_law = laws.p_law;
        q_law = laws.q_law;
        e_law = λ n l.
            end_by_shape p r.chosen (r.Q n) (r.E n) (shape (bytes_of_reading p r)) start (bytes_choose p r laws.single_law)
            (λ m. laws.e_chosen_law n m l) (laws.e_closed_law n l);
      })

  nodes_by_tables : (n i : ℕ) → n < length p.nodes → i ≤ p.bound
      → let known : Reading = witness_reading p (bytes_of_reading p r) in
      (r.P n i ≡ known.P n i) × (r.Q n i ≡ known.Q n i) × (r.E n ≡ known.E n)
  nodes_by_tables =
      node_laws_determine (children_earlier proper) (start_within p (byte (bytes_of_reading p r) 0) (bytes_start p r)) nodes_by_shape
      (tables_of_rows proper (bytes_of_reading p r) (bytes_start p r))

  pub model_agrees : Agree p r (witness_reading p (bytes_of_reading p r))
  model_agrees = record {
    truth = laws.truth_law;
    circuit = λ t v h l. circuit_by_rows t (suc v) h l;
    chosen = bytes_choose p r laws.single_law;
    P = λ n i l h. (nodes_by_tables n i l h).0;
    Q = λ n i l h. (nodes_by_tables n i l h).1;
    E = λ n l. (nodes_by_tables n 0 l zero-le).2;
  }

  -- The first latches meet their resets, each position the constraints, a chosen loop closes, and the formula is true at 0.
  starts : StartsRight p (first_latches p (bytes_of_reading p r))
  starts i h =
      rw (bytes_latches p r, get_or_map_numbers (λ j. r.circuit 0 (latch_variable p j)) (length p.latches) i false h)
      (laws.reset_law i h)

  met : (t : ℕ) → t ≤ p.bound → meets_constraints p (position p (bytes_of_reading p r) t) ≡ true
  met t h =
      (constraints_are p (position p (bytes_of_reading p r) t)).1 (λ c q.
      ap (λ (vs : List Bool). literal_value vs (constraint p c)) (sym (same_rows t h)) ∙ laws.constraint_law t c h q)

  closes : (l : ℕ) → l ≤ p.bound → r.chosen l ≡ true → Closes p (bytes_of_reading p r) l
  closes l h c =
      let bs : List ℕ = bytes_of_reading p r in
      ext_get_or false (next_values p (position p bs p.bound)) (position p bs l).latches
      (length_next_values p (position p bs p.bound) ∙ sym (length_latches p bs (bytes_length p r) l h))
      (λ i q. at i (rw (length_next_values p (position p bs p.bound)) at q))
    where
      at : (i : ℕ) → i < length p.latches
          → get_or (next_values p (position p (bytes_of_reading p r) p.bound)) i false ≡ get_or (position p (bytes_of_reading p r) l).latches i false
      at i q =
          next_value p (position p (bytes_of_reading p r) p.bound) i q
          ∙ ap (λ (vs : List Bool). literal_value vs (latch p i).next) (sym (same_rows p.bound (omega arith)))
          ∙ sym (laws.closing_law l i h q c)
          ∙ rows_latches p (bytes_of_reading p r) (bytes_length p r) r circuit_by_rows l i h q

  formula_true : bounded_value (shape (bytes_of_reading p r)) p.bound (rows p (bytes_of_reading p r)) (formula p) 0 ≡ true
  formula_true =
      let some : 1 ≤ length p.nodes = proper.nodes_some in
      rw (formula_is p) (sym (model_agrees.P (length p.nodes - 1) 0 (omega arith) zero-le) ∙ laws.formula_law)

  shows_by_shape : (s : Shape) → StartWithin s p → ((l : ℕ) → l ≤ p.bound → r.chosen l ≡ chosen_of s l)
      → bounded_value s p.bound (rows p (bytes_of_reading p r)) (formula p) 0 ≡ true → Shows p (bytes_of_reading p r) s
  shows_by_shape prefix start same value = value
  shows_by_shape (lasso l) start same value =
      (closes l start (same l start ∙ eqb_self l), (lasso_value l p.bound start (rows p (bytes_of_reading p r)) (formula p) 0).0 value)

  pub bytes_witness : Witness p (bytes_of_reading p r)
  bytes_witness = record {
    length_right = bytes_length p r;
    start_in_range = bytes_start p r;
    bits_in_range = bytes_bits p r;
    starts_right = starts;
    constraints_met = met;
    shows = shows_by_shape (shape (bytes_of_reading p r)) (start_within p (byte (bytes_of_reading p r) 0) (bytes_start p r))
        model_agrees.chosen formula_true;
  }
