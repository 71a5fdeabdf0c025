-- The same problem with another bound, and a problem's witnesses counted by a list of them. Assumes nothing.
use mathlib.Core.List.{List, [], Memᴰ}
use Rattle.std.specs.Prelude.{◌↔◌, ◌≢◌, ◌≡◌, ℕ, ◌<◌, length, get_or}
use Rattle.meaning.specs.Problem.{Problem}
use Rattle.meaning.specs.Witnesses.{Witness}

-- The same problem with another bound.
abbrev pub at_bound : Problem → ℕ → Problem
at_bound p k = record {
  inputs = p.inputs;
  latches = p.latches;
  gates = p.gates;
  constraints = p.constraints;
  nodes = p.nodes;
  bound = k;
}

-- No element stands at two places.
abbrev pub Once : List (List ℕ) → Type 0
Once xs = (i j : ℕ) → i < j → j < length xs → get_or xs i [] ≢ get_or xs j []

-- The problem has n witnesses: those of a list that has each once.
pub record Counted (p : Problem) (n : ℕ) : Type 0 where
  pub list : List (List ℕ)
  pub exactly : (bs : List ℕ) → Memᴰ bs list ↔ Witness p bs
  pub once : Once list
  pub length_is : length list ≡ n
