-- The rows of a model are those of its bytes, and the rows of a witness keep the circuit's laws. Assumes nothing.
use mathlib.Core.Path.{◌≡◌, sym, ◌∙◌, ap}
use mathlib.Core.Bool.{Bool, true, false}
use mathlib.Core.List.{List, map}
use Prim.Native.Nat.{ℕ, zero, suc, ◌+◌, ◌<◌, ◌≤◌, zero-le}
use native.Mathlib.Numerals.{add-one}
use native.Mathlib.Omega.{arith}
use lib.ListN.{length, get_or}
use lib.Seq.{ext_get_or}
use Rattle.answers.specs.Lists.{numbers}
use Rattle.meaning.specs.Problem.{Problem, W, latch_variable, gate_variable, latch, gate, constraint, Latch}
use Rattle.meaning.specs.Proper.{Proper}
use Rattle.meaning.specs.Runs.{Position, literal_value, gate_value, meets_reset, values, next_values, meets_constraints, StartsRight}
use Rattle.meaning.specs.Witnesses.{witness_length, first_latches, inputs_at, position, rows, Closes}
use Rattle.meaning.proofs.Numbers.{length_map_numbers, get_or_map_numbers, get_or_map_within}
use Rattle.pairing.specs.ModelLaws.{Reading, row}
use Rattle.pairing.specs.Bytes.{bytes_of_reading}
use Rattle.pairing.proofs.Runs.{position_first, position_inputs, position_next, length_inputs_at, length_latches, constraints_are}
use Rattle.pairing.proofs.Gates.{values_length, values_input, values_latch, values_gate, values_unique}
use Rattle.pairing.proofs.Bytes.{bytes_length, bytes_latches, bytes_inputs}

-- ════════ Next values ════════

-- A latch's next value by a row is that of its next literal there.
pub next_by_row : (p : Problem) (row : List Bool) (i : ℕ) → i < length p.latches
    → get_or (map (λ (c : Latch). literal_value row c.next) p.latches) i false ≡ literal_value row (latch p i).next
next_by_row p row i h = get_or_map_within (λ (c : Latch). literal_value row c.next) p.latches i _ false h

pub next_value : (p : Problem) (x : Position) (i : ℕ) → i < length p.latches
    → get_or (next_values p x) i false ≡ literal_value (values p x) (latch p i).next
unfolding next_values
next_value p x i h = next_by_row p (values p x) i h

-- ════════ The rows of a model ════════

pub row_at : (p : Problem) (r : Reading) (t v : ℕ) → v ≤ W p → get_or (row p r t) v false ≡ r.circuit t v
row_at p r t v h = get_or_map_numbers (r.circuit t) (W p + 1) v false (omega arith)

module _ (p : Problem) (r : Reading) (c : Proper p)
    (false-law : (t : ℕ) → t ≤ p.bound → r.circuit t 0 ≡ false)
    (gate_law : (t j : ℕ) → t ≤ p.bound → j < length p.gates → r.circuit t (gate_variable p j) ≡ gate_value (row p r t) (gate p j))
    (step_law : (t i : ℕ) → t < p.bound → i < length p.latches
    → r.circuit (t + 1) (latch_variable p i) ≡ literal_value (row p r t) (latch p i).next) where
  -- The row at t is that of the bytes where the latches at t are.
  row_from_latches : (t : ℕ) → t ≤ p.bound
      → ((i : ℕ) → i < length p.latches → r.circuit t (latch_variable p i) ≡ get_or (position p (bytes_of_reading p r) t).latches i false)
      → row p r t ≡ rows p (bytes_of_reading p r) t
  row_from_latches t h latches =
      let inputs : (position p (bytes_of_reading p r) t).inputs ≡ map (λ i. r.circuit t (suc i)) (numbers 0 p.inputs) =
      position_inputs p (bytes_of_reading p r) t h ∙ bytes_inputs p r t h in
      values_unique p _ (rw inputs (length_map_numbers _ 0 p.inputs))
      (length_latches p (bytes_of_reading p r) (bytes_length p r) t h) c
      (row p r t) (length_map_numbers (r.circuit t) 0 (W p + 1))
      (row_at p r t 0 zero-le ∙ false-law t h)
      (λ i q. row_at p r t (suc i) (omega arith) ∙ rw inputs (sym (get_or_map_numbers (λ i. r.circuit t (suc i)) p.inputs i false q)))
      (λ i q. row_at p r t (latch_variable p i) (omega arith) ∙ latches i q)
      (λ j q. row_at p r t (gate_variable p j) (omega arith) ∙ gate_law t j h q)

  pub rows_of_model : (t : ℕ) → t ≤ p.bound → row p r t ≡ rows p (bytes_of_reading p r) t
  rows_of_model zero h = row_from_latches 0 h (λ i q.
      rw (position_first, bytes_latches) (sym (get_or_map_numbers _ (length p.latches) i false q)))
  rows_of_model (suc t) h =
      row_from_latches (suc t) h (λ i q.
      rw (← add-one t) (step_law t i h q)
      ∙ ap (λ (vs : List Bool). literal_value vs (latch p i).next) (rows_of_model t (omega arith))
      ∙ sym (rw position_next (next_value p _ i q)))

-- ════════ The rows of a witness ════════

-- Of a reading whose circuit is the rows of bytes of the right length.
module _ (p : Problem) (bs : List ℕ) (right : length bs ≡ witness_length p) (r : Reading)
    (same : (t v : ℕ) → t ≤ p.bound → v ≤ W p → r.circuit t v ≡ get_or (rows p bs t) v false) where
  length_inputs : (t : ℕ) → t ≤ p.bound → length (position p bs t).inputs ≡ p.inputs
  length_inputs t h = rw position_inputs (length_inputs_at p bs right t h)

  length_rows : (t : ℕ) → t ≤ p.bound → length (rows p bs t) ≡ W p + 1
  length_rows t h = values_length p _ (length_inputs t h) (length_latches p bs right t h)

  pub row_of_rows : (t : ℕ) → t ≤ p.bound → row p r t ≡ rows p bs t
  row_of_rows t h =
      let long : length (row p r t) ≡ W p + 1 = length_map_numbers (r.circuit t) 0 (W p + 1) in
      ext_get_or false (row p r t) (rows p bs t) (long ∙ sym (length_rows t h))
      (λ v q. row_at p r t v (omega arith) ∙ same t v h (omega arith))

  pub rows_inputs : (t i : ℕ) → t ≤ p.bound → i < p.inputs → r.circuit t (suc i) ≡ get_or (inputs_at p bs t) i false
  rows_inputs t i h q =
      same t (suc i) h (omega arith) ∙ values_input p _ (length_inputs t h) (length_latches p bs right t h) i q
      ∙ ap (λ (vs : List Bool). get_or vs i false) (position_inputs p bs t h)

  pub rows_latches : (t i : ℕ) → t ≤ p.bound → i < length p.latches
      → r.circuit t (latch_variable p i) ≡ get_or (position p bs t).latches i false
  rows_latches t i h q =
      same t (latch_variable p i) h (omega arith) ∙ values_latch p _ (length_inputs t h) (length_latches p bs right t h) i q

  pub rows_first_latches : (i : ℕ) → i < length p.latches → r.circuit 0 (latch_variable p i) ≡ get_or (first_latches p bs) i false
  rows_first_latches i q = rw position_first at (rows_latches 0 i zero-le q)

  pub rows_gate_law : Proper p → (t j : ℕ) → t ≤ p.bound → j < length p.gates
      → r.circuit t (gate_variable p j) ≡ gate_value (row p r t) (gate p j)
  rows_gate_law c t j h q =
      rw row_of_rows
      (same t (gate_variable p j) h (omega arith) ∙ values_gate p _ (length_inputs t h) (length_latches p bs right t h) c j q)

  pub rows_step_law : (t i : ℕ) → t < p.bound → i < length p.latches
      → r.circuit (t + 1) (latch_variable p i) ≡ literal_value (row p r t) (latch p i).next
  rows_step_law t i h q =
      let here : t ≤ p.bound = omega arith in
      rw (add-one t, row_of_rows)
      (rows_latches (suc t) i h q ∙ rw position_next (next_value p (position p bs t) i q))

  pub rows_constraint_law : ((t : ℕ) → t ≤ p.bound → meets_constraints p (position p bs t) ≡ true)
      → (t c : ℕ) → t ≤ p.bound → c < length p.constraints → literal_value (row p r t) (constraint p c) ≡ true
  rows_constraint_law met t c h q = rw row_of_rows ((constraints_are p (position p bs t)).0 (met t h) c q)

  pub rows_reset_law : StartsRight p (first_latches p bs) → (i : ℕ) → i < length p.latches
      → meets_reset (latch p i).reset (r.circuit 0 (latch_variable p i)) ≡ true
  rows_reset_law starts i q = rw rows_first_latches (starts i q)

  pub rows_closing_law : (l i : ℕ) → l ≤ p.bound → i < length p.latches → Closes p bs l
      → r.circuit l (latch_variable p i) ≡ literal_value (row p r p.bound) (latch p i).next
  rows_closing_law l i h q closes =
      let end : p.bound ≤ p.bound = omega arith in
      rw row_of_rows
      (rows_latches l i h q ∙ rw (← closes) (next_value p (position p bs p.bound) i q))
