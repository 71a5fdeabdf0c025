-- The values of a run: the row of a position, and what the loop over the positions keeps. Assumes nothing.
use Rattle.finder.specs.declared.run.TheConstants.{GIVEN}
use Rattle.values.specs.declared.rows.TheConstants.{POSITIONS, ROWS}
use mathlib.Core.Bool.{Bool, true, false}
use mathlib.Core.List.{List, [], ◌∷◌, ◌++◌, append_assoc}
use mathlib.Core.Path.{◌≡◌, sym, ◌∙◌, ap, ap₂}
use Prim.Native.Nat.{ℕ, suc, ◌+◌, ◌*◌, ◌<◌, ◌≤◌}
use native.Mathlib.Decide.{ℕ_discrete}
use native.Mathlib.Nat.{mul-suc, mul-le-mul_left}
use native.Mathlib.Numerals.{add-one}
use native.Mathlib.Omega.{arith}
use borrow.Author.Count.{below_more}
use lib.Dec.{eqb}
use lib.ListN.{length, get_or, take, drop, set, length-drop}
use lib.Seq.{sets, length-sets, take-add, take-suc-set, get_or-take, get_or-drop, length-take-le, ext_get_or}
use Rattle.answers.specs.Lists.{all_of}
use Rattle.answers.specs.Limits.{inputs_limit, latches_limit, gates_limit, bound_limit}
use Rattle.meaning.specs.Problem.{Problem, W, latch}
use Rattle.meaning.specs.Proper.{Proper}
use Rattle.meaning.specs.Runs.{literal_value, values, meets_constraints, with_gates}
use Rattle.meaning.specs.Witnesses.{byte, inputs_at, position}
use Rattle.pairing.proofs.Rows.{next_by_row}
use Rattle.pairing.proofs.Runs.{position_first, position_inputs, position_next, length_inputs_at, length_latches}
use Rattle.values.specs.Tables.{RowsRight, row_width, row_in, given_width, next_in}
use Rattle.values.specs.Values.{gates_put}
use Rattle.values.proofs.Copies.{bit_at, sets_there}
use Rattle.values.proofs.RowGates.{gates_there}
use Rattle.values.proofs.RowLaws.{beginning_stays, put_there, wide_enough, length_next_in, next_value_in, constraints_in_row, one_more_row}
use Rattle.finder.specs.Runs.{Held, Filled, Shown, Broken, run_bytes, bit}
use Rattle.finder.proofs.Digits.{length_run}
use Rattle.finder.proofs.Filling.{held_set, bit_set, bit_other}

-- ════════ Lists ════════

-- A beginning is known by its length and its values.
first_are : (n : ℕ) (l xs : List Bool) → n ≤ length l → length xs ≡ n → ((i : ℕ) → i < n → get_or l i false ≡ get_or xs i false) → take n l ≡ xs
first_are n l xs h long same =
    ext_get_or false (take n l) xs (length-take-le n l h ∙ sym long)
    (λ i q. let q' : i < n = rw (length-take-le n l h) at q in get_or-take n l i false q' ∙ same i q')

-- After xs is put behind the first n, each of them stands there, and the first n are as they were.
module _ (n m : ℕ) (l l' xs : List Bool) (h : n ≤ length l) (e : take (n + m) l' ≡ take n l ++ xs) where
  put_at : (i : ℕ) → i < m → get_or l' (n + i) false ≡ get_or xs i false
  put_at i q =
      sym (get_or-take m (drop n l') i false q ∙ get_or-drop n l' i false)
      ∙ ap (λ (ys : List Bool). get_or ys i false) (put_there n m l l' xs h e)

  put_after : (i : ℕ) → i < n → get_or l' i false ≡ get_or l i false
  put_after i q =
      sym (get_or-take n l' i false q) ∙ ap (λ (ys : List Bool). get_or ys i false) (beginning_stays n m l l' xs h e)
      ∙ get_or-take n l i false q

-- ════════ The row of a position ════════

-- Variable 0 and the bits of the position, and then the gates.
module _ {p : Problem} (proper : Proper p) (at : ℕ) (bits table table' : List Bool) (room : at + row_width ≤ length table)
    (long : length table' ≡ length table)
    (copied : take (at + 1 + (p.inputs + length p.latches)) table' ≡ take (at + 1) (set table at false) ++ bits) where
  given_there : take (at + given_width p) table' ≡ take at table ++ (false ∷ bits)
  given_there =
      let place : at + given_width p ≡ at + 1 + (p.inputs + length p.latches) = omega arith in
      let here : at < length table = omega (arith, wide_enough proper) in
      rw place (copied ∙ rw (add-one at, take-suc-set table at false here, append_assoc))

  pub row_there : (row rest : List Bool) → row ≡ gates_put p.gates (given_width p) (take row_width (drop at table'))
      → take (at + (W p + 1)) (take at table' ++ (row ++ rest)) ≡ take at table ++ with_gates p.gates (false ∷ bits)
  row_there row rest gates = gates_there proper at (false ∷ bits) table table' room long given_there row rest gates

-- ════════ The bytes of a run ════════

-- Behind a first byte; the positions do not depend on it.
abbrev bytes : Problem → ℕ → List ℕ
bytes p m = 0 ∷ run_bytes p m

-- ════════ The positions one after another ════════

-- Before position n: the rows before it are right and meet the constraints, the latches up to its own are those of the run, and so are all inputs.
pub record RunTo (p : Problem) (m n : ℕ) (run : List (List Bool)) (table : List Bool) : Type 0 where
  pub within : n ≤ p.bound + 1
  pub held : Held run
  pub values_right : RowsRight p (0 ∷ run_bytes p m) n table
  pub inputs_right : (t i : ℕ) → t ≤ p.bound → i < p.inputs
      → bit run t i ≡ eqb (byte (run_bytes p m) (length p.latches + p.inputs * t + i)) 1
  pub latches_right : (t i : ℕ) → t ≤ n → t ≤ p.bound → i < length p.latches
      → bit run t (p.inputs + i) ≡ get_or (position p (0 ∷ run_bytes p m) t).latches i false
  pub constraints_met : (t : ℕ) → t < n → meets_constraints p (position p (0 ∷ run_bytes p m) t) ≡ true

module _ {p : Problem} {m : ℕ} where
  pub none_shown : {run : List (List Bool)} {table : List Bool} → Filled p m run → length table ≡ ROWS → RunTo p m 0 run table
  unfolding row_width inputs_limit latches_limit gates_limit bound_limit
  none_shown {run} {table} filled room = record {
    within = omega arith;
    held = filled.held;
    values_right = record { room = room; right = λ t h. absurd (omega arith) };
    inputs_right = filled.inputs_right;
    latches_right = λ t i l q h. first t i (omega arith) h;
    constraints_met = λ t h. absurd (omega arith);
  }
    where
      first : (t i : ℕ) → t ≡ 0 → i < length p.latches → bit run t (p.inputs + i) ≡ get_or (position p (bytes p m) t).latches i false
      first t i e h =
          let place : 1 + i ≡ suc i = omega arith in
          rw (e, position_first)
          (filled.latches_right i h ∙ rw place at (bit_at (bytes p m) 1 (length p.latches) (omega (arith, length_run p 0 m)) i h))

  pub all_shown : Proper p → {n : ℕ} {run : List (List Bool)} {table : List Bool} → RunTo p m n run table → p.bound < n → Shown p m (p.bound + 1) run table
  all_shown proper {n} to l = record {
    proper = proper;
    held = to.held;
    values_right = let e : n ≡ p.bound + 1 = omega (arith, to.within) in rw e at to.values_right;
    latches_right = λ t i a h. to.latches_right t i (omega arith) (omega arith) h;
    constraints_met = λ t h. to.constraints_met t (omega arith);
  }

  module _ (proper : Proper p) {n : ℕ} {run : List (List Bool)} {table : List Bool} (to : RunTo p m n run table) (here : n ≤ p.bound) where
    within : n ≤ p.bound
    within = omega arith

    row_wide : length (get_or run n []) ≡ GIVEN
    unfolding bound_limit
    row_wide = to.held.bits_there n (omega (arith, proper.bound_within))

    bytes_there : 1 + length p.latches + p.inputs * n + p.inputs ≤ length (bytes p m)
    bytes_there =
        omega (arith, length_run p 0 m, mul-suc p.inputs n, mul-le-mul_left {m = suc n} {n = p.bound + 1} p.inputs (omega arith))

    input_of : (i : ℕ) → i < p.inputs → bit run n i ≡ get_or (inputs_at p (bytes p m) n) i false
    input_of i q =
        let from : ℕ = length p.latches + p.inputs * n in
        let place : 1 + length p.latches + p.inputs * n + i ≡ suc (from + i) = omega arith in
        to.inputs_right n i within q
        ∙ rw place at (bit_at (bytes p m) (1 + length p.latches + p.inputs * n) p.inputs bytes_there i q)

    inputs_of : take p.inputs (get_or run n []) ≡ inputs_at p (bytes p m) n
    unfolding inputs_limit latches_limit
    inputs_of =
        first_are p.inputs (get_or run n []) (inputs_at p (bytes p m) n) (omega (arith, row_wide))
        (length_inputs_at p (bytes p m) (length_run p 0 m) n within) input_of

    latches_of : take (length p.latches) (drop p.inputs (get_or run n [])) ≡ (position p (bytes p m) n).latches
    unfolding inputs_limit latches_limit
    latches_of =
        first_are (length p.latches) (drop p.inputs (get_or run n [])) (position p (bytes p m) n).latches
        (simp length-drop (omega (arith, row_wide))) (length_latches p (bytes p m) (length_run p 0 m) n within)
        (λ i q. get_or-drop p.inputs (get_or run n []) i false ∙ to.latches_right n i (omega arith) within q)

    given_of : take (p.inputs + length p.latches) (get_or run n []) ≡ (position p (bytes p m) n).inputs ++ (position p (bytes p m) n).latches
    given_of =
        take-add p.inputs (length p.latches) (get_or run n [])
        ∙ ap₂ (λ (xs ys : List Bool). xs ++ ys) (inputs_of ∙ sym (position_inputs p (bytes p m) n within)) latches_of

    -- The row of position n, put into the table.
    pub row_shown : (table' : List Bool) → length table' ≡ ROWS
        → take (n * row_width + (W p + 1)) table'
        ≡ take (n * row_width) table ++ with_gates p.gates (false ∷ take (p.inputs + length p.latches) (get_or run n []))
        → RowsRight p (bytes p m) (n + 1) table'
    unfolding values row_width inputs_limit latches_limit gates_limit bound_limit
    row_shown table' long e =
        one_more_row to.values_right proper (long ∙ sym to.values_right.room) (omega (arith, proper.bound_within))
        (rw given_of at e)

    -- Whether the row meets the constraints is whether the position does.
    pub row_meets : {table' : List Bool} → RowsRight p (bytes p m) (n + 1) table' → {r : Bool} → r ≡ all_of (literal_value (row_in table' n)) p.constraints
        → r ≡ meets_constraints p (position p (bytes p m) n)
    row_meets right e = e ∙ constraints_in_row right proper {t = n} (omega arith)

    -- One position more meets them.
    met_to : meets_constraints p (position p (bytes p m) n) ≡ true → (t : ℕ) → t < n + 1 → meets_constraints p (position p (bytes p m) t) ≡ true
    met_to met = below_more (λ t. meets_constraints p (position p (bytes p m) t) ≡ true) n to.constraints_met met

    -- It breaks a constraint.
    pub broken_here : meets_constraints p (position p (bytes p m) n) ≡ false → Broken p m
    broken_here e = record { at = n; within = within; broken = e }

    -- The last position has no next one.
    pub last_shown : p.bound ≤ n → (table' : List Bool) → RowsRight p (bytes p m) (n + 1) table'
        → meets_constraints p (position p (bytes p m) n) ≡ true → RunTo p m (n + 1) run table'
    last_shown h table' right met = record {
      within = omega arith;
      held = to.held;
      values_right = right;
      inputs_right = to.inputs_right;
      latches_right = λ t i a q. to.latches_right t i (omega arith) q;
      constraints_met = met_to met;
    }

    -- The latches of the next position, put into its row.
    module _ (h : n < p.bound) (table' : List Bool) (right : RowsRight p (bytes p m) (n + 1) table')
        (met : meets_constraints p (position p (bytes p m) n) ≡ true)
        (row : List Bool) (put : row ≡ sets (get_or run (n + 1) []) p.inputs (next_in p (row_in table' n))) where
      there : n + 1 < POSITIONS
      unfolding bound_limit
      there = omega (arith, proper.bound_within)

      long : length row ≡ length (get_or run (n + 1) [])
      long = ap length put ∙ simp length-sets

      fits : p.inputs + length p.latches ≤ length (get_or run (n + 1) [])
      unfolding inputs_limit latches_limit
      fits = omega (arith, to.held.bits_there (n + 1) there, proper)

      begins : take (p.inputs + length p.latches) row ≡ take p.inputs (get_or run (n + 1) []) ++ next_in p (row_in table' n)
      begins =
          ap (take (p.inputs + length p.latches)) put
          ∙ sets_there (get_or run (n + 1) []) p.inputs _ (length_next_in p (row_in table' n)) fits

      inputs : (i : ℕ) → i < p.inputs → get_or row i false ≡ get_or (get_or run (n + 1) []) i false
      inputs = put_after p.inputs (length p.latches) (get_or run (n + 1) []) row _ (omega (arith, fits)) begins

      latches : (i : ℕ) → i < length p.latches → get_or row (p.inputs + i) false ≡ literal_value (row_in table' n) (latch p i).next
      latches i q =
          put_at p.inputs (length p.latches) (get_or run (n + 1) []) row _ (omega (arith, fits)) begins i q
          ∙ next_by_row p (row_in table' n) i (omega arith)

      input_still : (t i : ℕ) → i < p.inputs → Dec (t ≡ n + 1) → bit (set run (n + 1) row) t i ≡ bit run t i
      input_still t i q (yes e) = rw e (bit_set to.held (n + 1) row long there i ∙ inputs i (omega arith))
      input_still t i q (no d) = bit_other run (n + 1) row t i d

      next_latch : (i : ℕ) → i < length p.latches → get_or row (p.inputs + i) false ≡ get_or (position p (bytes p m) (n + 1)).latches i false
      next_latch i q =
          latches i q ∙ next_value_in right proper {t = n} (omega arith) i q
          ∙ rw (add-one n, position_next p (bytes p m) n (omega arith))

      latch_there : (t i : ℕ) → t ≤ n + 1 → t ≤ p.bound → i < length p.latches → Dec (t ≡ n + 1)
          → bit (set run (n + 1) row) t (p.inputs + i) ≡ get_or (position p (bytes p m) t).latches i false
      latch_there t i a b q (yes e) = rw e (bit_set to.held (n + 1) row long there (p.inputs + i) ∙ next_latch i q)
      latch_there t i a b q (no d) = bit_other run (n + 1) row t (p.inputs + i) d ∙ to.latches_right t i (omega arith) b q

      pub next_shown : RunTo p m (n + 1) (set run (n + 1) row) table'
      next_shown = record {
        within = omega arith;
        held = held_set to.held (n + 1) row long there;
        values_right = right;
        inputs_right = λ t i a q. input_still t i q (ℕ_discrete t (n + 1)) ∙ to.inputs_right t i a q;
        latches_right = λ t i a b q. latch_there t i a b q (ℕ_discrete t (n + 1));
        constraints_met = met_to met;
      }
