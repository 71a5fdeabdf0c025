-- Document 01, "Runs and meaning": the circuit's values at a position, next values, resets, runs; the constraints of Q-6 of document 02.
-- Assumes nothing.
use Rattle.std.specs.Prelude.{Bool, true, false, not, ◌&&◌, List, [], ◌∷◌, ◌++◌, map, ◌≡◌, ℕ, zero, suc, ◌/◌, ◌%◌, ◌<◌, eqb, length, get_or}
use Rattle.answers.specs.Lists.{all_of}
use Rattle.meaning.specs.Problem.{Problem, Latch, Gate, latch}

-- ════════ Values at a position ════════

abbrev pub odd : ℕ → Bool
odd n = eqb (n % 2) 1

-- The value itself, or its negation.
abbrev pub turned : Bool → Bool → Bool
turned true b = not b
turned false b = b

-- "Literal 2v is variable v, 2v + 1 its negation; 0 is false, 1 is true." The values are those of variables 0, 1, ..; variable 0 is false.
abbrev pub literal_value : List Bool → ℕ → Bool
literal_value values x = turned (odd x) (get_or values (x / 2) false)

-- "A gate is the AND of two literals", each of an earlier variable.
abbrev pub gate_value : List Bool → Gate → Bool
gate_value values g = literal_value values g.left && literal_value values g.right

abbrev pub with_gates : List Gate → List Bool → List Bool
with_gates [] values = values
with_gates (g ∷ gs) values = with_gates gs (values ++ (gate_value values g ∷ []))

-- The inputs and the latches at one position of a run.
pub record Position : Type 0 where
  pub inputs : List Bool
  pub latches : List Bool

-- The values of variables 0..W: false, "inputs, latches, gates, in that order".
unfoldable pub values : Problem → Position → List Bool
values p x = with_gates p.gates (false ∷ (x.inputs ++ x.latches))

-- The latches' next values.
unfoldable pub next_values : Problem → Position → List Bool
next_values p x = map (λ (c : Latch). literal_value (values p x) c.next) p.latches

-- "Reset is 0, 1, or 2 for free."
abbrev pub meets_reset : ℕ → Bool → Bool
meets_reset zero b = not b
meets_reset (suc zero) b = b
meets_reset (suc (suc r)) b = true

-- The constraints, "each true at all positions": they are true at this one.
unfoldable pub meets_constraints : Problem → Position → Bool
meets_constraints p x = all_of (literal_value (values p x)) p.constraints

-- ════════ Runs ════════

-- "position t + 1 holds the next values of position t": the positions of a run from its first latches and its rows of inputs.
abbrev pub run_from : Problem → List Bool → List (List Bool) → List Position
run_from p latches [] = []
run_from p latches (row ∷ rows) =
    let here : Position = record { inputs = row; latches = latches } in
    here ∷ run_from p (next_values p here) rows

-- "latches start by their resets"
abbrev pub StartsRight : Problem → List Bool → Type 0
StartsRight p latches = (i : ℕ) → i < length p.latches → meets_reset (latch p i).reset (get_or latches i false) ≡ true

-- An endless run of the circuit: "inputs are free at each position; latches start by their resets, and position t + 1 holds the next
-- values of position t". Q-6: "'endless run' now means one that meets the constraints at every position".
pub record EndlessRun (p : Problem) (path : ℕ → Position) : Type 0 where
  pub inputs_there : (t : ℕ) → length (path t).inputs ≡ p.inputs
  pub latches_there : length (path 0).latches ≡ length p.latches
  pub starts_right : StartsRight p (path 0).latches
  pub steps_right : (t : ℕ) → (path (suc t)).latches ≡ next_values p (path t)
  pub constraints_met : (t : ℕ) → meets_constraints p (path t) ≡ true
