-- The run that a witness shows: its inputs, first latches and next latches, and their lengths; the constraints, one by one. Assumes nothing.
use mathlib.Core.Path.{◌≡◌, refl, ◌∙◌, ap}
use mathlib.Core.Logic.{◌↔◌}
use mathlib.Core.Bool.{Bool, true}
use mathlib.Core.List.{List, [], ◌∷◌, map}
use Prim.Native.Nat.{ℕ, zero, suc, ◌+◌, ◌<◌, ◌≤◌}
use native.Mathlib.Nat.{le_of_suc-le-suc, not-suc-le-zero, mul-le-mul_left, mul-suc, zero-add}
use native.Mathlib.Omega.{arith}
use lib.ListN.{length, get_or, length-map, length-take, length-drop}
use Rattle.answers.specs.Lists.{numbers}
use Rattle.answers.proofs.Tests.{all_of_at, all_of_if_at}
use Rattle.meaning.specs.Problem.{Problem, constraint}
use Rattle.meaning.specs.Runs.{Position, literal_value, values, next_values, meets_constraints, run_from}
use Rattle.meaning.specs.Witnesses.{witness_length, first_latches, inputs_at, run, position}
use Rattle.meaning.proofs.Numbers.{length_numbers, get_or_map_numbers_from}

-- ════════ Runs ════════

module _ (p : Problem) where
  run_first : (ls : List Bool) (rs : List (List Bool)) (d : Position) → 0 < length rs → (get_or (run_from p ls rs) 0 d).latches ≡ ls
  run_first ls [] d h = absurd (not-suc-le-zero h)
  run_first ls (r ∷ rs) d h = refl

  run_inputs : (ls : List Bool) (rs : List (List Bool)) (t : ℕ) (d : Position) → t < length rs
      → (get_or (run_from p ls rs) t d).inputs ≡ get_or rs t []
  run_inputs ls [] t d h = absurd (not-suc-le-zero h)
  run_inputs ls (r ∷ rs) zero d h = refl
  run_inputs ls (r ∷ rs) (suc t) d h = run_inputs (next_values p (record { inputs = r; latches = ls })) rs t d (le_of_suc-le-suc h)

  run_steps : (ls : List Bool) (rs : List (List Bool)) (t : ℕ) (d : Position) → suc t < length rs
      → (get_or (run_from p ls rs) (suc t) d).latches ≡ next_values p (get_or (run_from p ls rs) t d)
  run_steps ls [] t d h = absurd (not-suc-le-zero h)
  run_steps ls (r ∷ rs) zero d h = run_first (next_values p (record { inputs = r; latches = ls })) rs d (le_of_suc-le-suc h)
  run_steps ls (r ∷ rs) (suc t) d h = run_steps (next_values p (record { inputs = r; latches = ls })) rs t d (le_of_suc-le-suc h)

-- ════════ The run of a witness ════════

module _ (p : Problem) (bs : List ℕ) where
  abbrev rows_of_inputs : List (List Bool)
  rows_of_inputs = map (inputs_at p bs) (numbers 0 (p.bound + 1))

  how_many : length (map (inputs_at p bs) (numbers 0 (p.bound + 1))) ≡ p.bound + 1
  how_many = simp (length-map, length_numbers)

  pub position_first : (position p bs 0).latches ≡ first_latches p bs
  unfolding run
  position_first = run_first p (first_latches p bs) rows_of_inputs _ (omega (arith, how_many))

  pub position_inputs : (t : ℕ) → t ≤ p.bound → (position p bs t).inputs ≡ inputs_at p bs t
  unfolding run
  position_inputs t h =
      run_inputs p (first_latches p bs) rows_of_inputs t _ (omega (arith, how_many))
      ∙ get_or_map_numbers_from (inputs_at p bs) 0 (p.bound + 1) t [] (omega arith) ∙ ap (inputs_at p bs) (zero-add t)

  pub position_next : (t : ℕ) → t < p.bound → (position p bs (suc t)).latches ≡ next_values p (position p bs t)
  unfolding run
  position_next t h = run_steps p (first_latches p bs) rows_of_inputs t _ (omega (arith, how_many))

pub length_next_values : (p : Problem) (x : Position) → length (next_values p x) ≡ length p.latches
unfolding next_values
length_next_values p x = simp length-map

module _ (p : Problem) (bs : List ℕ) (right : length bs ≡ witness_length p) where
  pub length_first_latches : length (first_latches p bs) ≡ length p.latches
  length_first_latches = simp (length-map, length-take, length-drop) (omega arith)

  pub length_inputs_at : (t : ℕ) → t ≤ p.bound → length (inputs_at p bs t) ≡ p.inputs
  length_inputs_at t h =
      simp (length-map, length-take, length-drop)
      (omega (arith, mul-suc p.inputs t, mul-le-mul_left {m = suc t} {n = p.bound + 1} p.inputs (omega arith)))

  pub length_latches : (t : ℕ) → t ≤ p.bound → length (position p bs t).latches ≡ length p.latches
  length_latches zero h = rw position_first length_first_latches
  length_latches (suc t) h = rw (position_next p bs t h) (length_next_values p _)

-- ════════ Constraints ════════

-- A position meets the constraints exactly if each is true there.
pub constraints_are : (p : Problem) (x : Position)
    → (meets_constraints p x ≡ true) ↔ ((c : ℕ) → c < length p.constraints → literal_value (values p x) (constraint p c) ≡ true)
unfolding meets_constraints
constraints_are p x =
    (λ e c h. all_of_at (literal_value (values p x)) p.constraints c 1 e h, λ h. all_of_if_at (literal_value (values p x)) p.constraints 1 h)

-- Where there are none, every position does.
pub unconstrained_meets : (p : Problem) → length p.constraints ≡ 0 → (x : Position) → meets_constraints p x ≡ true
unconstrained_meets p none x = (constraints_are p x).1 (λ c h. absurd (omega arith))
