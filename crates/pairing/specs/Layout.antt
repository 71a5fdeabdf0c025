-- The assignment of a reading: its values in the order of the variables' numbers. Assumes nothing.
use Rattle.std.specs.Prelude.{Bool, List, [], ◌∷◌, ◌++◌, map, ◌≡◌, ℕ, suc, ◌≤◌, ◌<◌, length}
use Rattle.answers.specs.Lists.{numbers, each}
use Rattle.clauses.specs.Clauses.{Assignment}
use Rattle.meaning.specs.Problem.{Problem, W}
use Rattle.meaning.specs.Cnf.{positions}
use Rattle.pairing.specs.ModelLaws.{Reading}

-- ════════ The list ════════

-- Circuit variables 1..W at t.
abbrev pub circuit_values : Problem → Reading → ℕ → List Bool
circuit_values p r t = map (r.circuit t) (numbers 1 (W p))

-- Selectors 0..k.
abbrev pub chosen_values : Problem → Reading → List Bool
chosen_values p r = map r.chosen (positions p)

-- P(n,0..k), Q(n,0..k), E(n).
abbrev pub node_values : Problem → Reading → ℕ → List Bool
node_values p r n = map (r.P n) (positions p) ++ (map (r.Q n) (positions p) ++ (r.E n ∷ []))

unfoldable pub layout : Problem → Reading → Assignment
layout p r =
    r.truth
    ∷ (each (positions p) (circuit_values p r)
    ++ (chosen_values p r
    ++ each (numbers 0 (length p.nodes)) (node_values p r)))

-- ════════ Readings that agree ════════

-- Two readings give each variable of the CNF one value.
pub record Agree (p : Problem) (r s : Reading) : Type 0 where
  pub truth : r.truth ≡ s.truth
  pub circuit : (t v : ℕ) → t ≤ p.bound → v < W p → r.circuit t (suc v) ≡ s.circuit t (suc v)
  pub chosen : (l : ℕ) → l ≤ p.bound → r.chosen l ≡ s.chosen l
  pub P : (n i : ℕ) → n < length p.nodes → i ≤ p.bound → r.P n i ≡ s.P n i
  pub Q : (n i : ℕ) → n < length p.nodes → i ≤ p.bound → r.Q n i ≡ s.Q n i
  pub E : (n : ℕ) → n < length p.nodes → r.E n ≡ s.E n
