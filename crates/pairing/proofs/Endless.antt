-- What an accepted witness says of the circuit's endless runs. Assumes nothing.
use mathlib.Core.Path.{◌≡◌, sym, ◌∙◌, ap}
use mathlib.Core.Logic.{◌⊎◌, inl, inr}
use mathlib.Core.Bool.{true}
use mathlib.Core.List.{List}
use Prim.Native.Nat.{ℕ, zero, suc, ◌+◌, ◌<◌, ◌≤◌}
use native.Mathlib.Omega.{arith}
use lib.ListN.{length}
use Rattle.answers.specs.Answers.{granted}
use Rattle.meaning.specs.Problem.{Problem}
use Rattle.meaning.specs.Runs.{Position, values, next_values, meets_constraints, StartsRight, EndlessRun}
use Rattle.meaning.specs.Formulas.{formula, Holds}
use Rattle.meaning.specs.Bounded.{prefix, lasso, after, looped}
use Rattle.meaning.specs.Witnesses.{witness_length, byte, shape, first_latches, inputs_at, position, rows, Closes, lasso_path, Shows, Witness}
use Rattle.meaning.specs.Calls.{judge_bytes}
use Rattle.pairing.proofs.UntilOnLassos.{after_cases, looped_within}
use Rattle.pairing.proofs.Meaning.{prefix_value_true}
use Rattle.pairing.proofs.Runs.{position_first, position_inputs, position_next, length_first_latches, length_inputs_at}
use Rattle.pairing.proofs.Witnesses.{accepted_is_witness}
use Rattle.pairing.proofs.NodeValues.{StartWithin, start_within}

-- ════════ A lasso ════════

module _ (p : Problem) (bs : List ℕ) (l : ℕ) where
  -- The endless path of a lasso that closes is a run of the circuit.
  lasso_path_steps : l ≤ p.bound → Closes p bs l → (t : ℕ) → (lasso_path p bs l (suc t)).latches ≡ next_values p (lasso_path p bs l t)
  lasso_path_steps fits closes t = go (looped l p.bound t) (after_cases l p.bound (looped l p.bound t) (looped_within l p.bound fits t))
    where
      go : (i : ℕ) → ((i ≡ p.bound) × (after l p.bound i ≡ l)) ⊎ ((i < p.bound) × (after l p.bound i ≡ suc i))
          → (position p bs (after l p.bound i)).latches ≡ next_values p (position p bs i)
      go i (inl e) = rw (e.1, e.0) (sym closes)
      go i (inr e) = rw e.1 (position_next p bs i e.0)

  pub lasso_path_run : Witness p bs → l ≤ p.bound → Closes p bs l → EndlessRun p (lasso_path p bs l)
  lasso_path_run w fits closes = record {
    inputs_there = λ t.
        let within = looped_within l p.bound fits t in
        ap length (position_inputs p bs (looped l p.bound t) within)
        ∙ length_inputs_at p bs w.length_right (looped l p.bound t) within;
    latches_there = rw position_first (length_first_latches p bs w.length_right);
    starts_right = rw position_first w.starts_right;
    steps_right = lasso_path_steps fits closes;
    constraints_met = λ t. w.constraints_met (looped l p.bound t) (looped_within l p.bound fits t);
  }

  -- An accepted lasso is an endless run of the circuit on which the formula is true.
  pub lasso_true : judge_bytes p bs ≡ granted 0 → shape bs ≡ lasso l
      → EndlessRun p (lasso_path p bs l) × Holds p (formula p) (lasso_path p bs l) 0
  lasso_true e is_lasso =
      let w = (accepted_is_witness p bs).0 e in
      let fits : StartWithin (lasso l) p = rw is_lasso at (start_within p (byte bs 0) w.start_in_range) in
      let shown : Shows p bs (lasso l) = rw is_lasso at w.shows in
      (lasso_path_run w fits shown.0, shown.1)

  -- A lasso that meets the constraints and closes, on whose path the formula is true, is accepted.
  pub lasso_accepted : length bs ≡ witness_length p → byte bs 0 ≤ p.bound + 1 → ((i : ℕ) → 1 ≤ i → i < length bs → byte bs i ≤ 1)
      → StartsRight p (first_latches p bs) → ((t : ℕ) → t ≤ p.bound → meets_constraints p (position p bs t) ≡ true)
      → shape bs ≡ lasso l → Closes p bs l → Holds p (formula p) (lasso_path p bs l) 0 → judge_bytes p bs ≡ granted 0
  lasso_accepted right start bits starts met is_lasso closes holds = (accepted_is_witness p bs).1 (record {
    length_right = right;
    start_in_range = start;
    bits_in_range = bits;
    starts_right = starts;
    constraints_met = met;
    shows = rw is_lasso (closes, holds);
  })

-- ════════ A prefix ════════

pub same_position : (x y : Position) → x.inputs ≡ y.inputs → x.latches ≡ y.latches → x ≡ y
same_position x y e h = λ i. record { inputs = e i; latches = h i }

module _ (p : Problem) (bs : List ℕ) (path : ℕ → Position) (runs : EndlessRun p path) (begins : (path 0).latches ≡ first_latches p bs)
    (same_inputs : (t : ℕ) → t ≤ p.bound → (path t).inputs ≡ inputs_at p bs t) where
  -- A run with the witness's first latches and inputs is the witness's to k.
  pub same_run : (t : ℕ) → t ≤ p.bound → path t ≡ position p bs t
  same_run zero h = same_position (path 0) (position p bs 0) (same_inputs 0 h ∙ sym (position_inputs p bs 0 h)) (begins ∙ sym (position_first p bs))
  same_run (suc t) h =
      same_position (path (suc t)) (position p bs (suc t)) (same_inputs (suc t) h ∙ sym (position_inputs p bs (suc t) h))
      (runs.steps_right t ∙ ap (next_values p) (same_run t (omega arith)) ∙ sym (position_next p bs t h))

-- On every endless run that begins as an accepted prefix the formula is true.
pub prefix_true : (p : Problem) (bs : List ℕ) → judge_bytes p bs ≡ granted 0 → shape bs ≡ prefix → (path : ℕ → Position) → EndlessRun p path
    → (path 0).latches ≡ first_latches p bs → ((t : ℕ) → t ≤ p.bound → (path t).inputs ≡ inputs_at p bs t)
    → Holds p (formula p) path 0
prefix_true p bs e is-prefix path runs begins same_inputs =
    let shown : Shows p bs prefix = rw is-prefix at ((accepted_is_witness p bs).0 e).shows in
    prefix_value_true p.bound (rows p bs) (λ t. values p (path t))
    (λ t h. ap (values p) (same_run p bs path runs begins same_inputs t h)) (formula p) 0 shown
