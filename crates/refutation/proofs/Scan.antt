-- Words read one by one with a state: the first word that is not right, then words cut short, else a count. Assumes nothing.
use mathlib.Core.Bool.{Bool, cond}
use mathlib.Core.List.{List, [], ◌∷◌}
use Prim.Native.Nat.{ℕ, suc}
use lib.IntN.{ℤ}
use lib.ListN.{drop}
use Rattle.answers.specs.Answers.{Answer, granted}

pub record Reader : Type 1 where
  pub State : Type 0
  pub right : State → ℤ → Bool
  pub after : State → ℤ → State
  pub cut_short : State → Bool
  pub count : State → ℕ
  pub bad : ℕ → Answer

-- The answer from a state, at a place, for the words from there on.
abbrev pub answer_from : (r : Reader) → r.State → ℕ → List ℤ → Answer
answer_from r s i [] = cond (r.cut_short s) (r.bad i) (granted (r.count s))
answer_from r s i (w ∷ ws) = cond (r.right s w) (answer_from r (r.after s w) (suc i) ws) (r.bad i)

abbrev pub rest : (r : Reader) → r.State → ℕ → List ℤ → Answer
rest r s i ws = answer_from r s i (drop i ws)
