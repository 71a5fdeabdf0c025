-- A loop that gives the bits of a row from the last one down: those from a place on are right, and all others are as they were. Assumes nothing.
use mathlib.Core.Bool.{Bool, false}
use mathlib.Core.List.{List}
use mathlib.Core.Logic.{⊎_elim}
use mathlib.Core.Path.{◌≡◌, subst, ◌∙◌}
use Prim.Native.Nat.{ℕ, ◌+◌, ◌≤◌, ◌<◌}
use native.Mathlib.Nat.{eq-or-lt_of_le}
use native.Mathlib.Omega.{arith}
use lib.ListN.{length, get_or, set, length-set}
use lib.Seq.{get_or-set_same, get_or-set_other}

-- Those up to the end are to be given.
pub record GivenFrom (right : ℕ → Bool) (from end : ℕ) (before now : List Bool) : Type 0 where
  pub long : length now ≡ length before
  pub there : (k : ℕ) → from ≤ k → k < end → get_or now k false ≡ right k
  pub kept : (k : ℕ) → k < from → get_or now k false ≡ get_or before k false
  pub past : (k : ℕ) → end ≤ k → get_or now k false ≡ get_or before k false

module _ {right : ℕ → Bool} where
  -- The bit before those given.
  pub one_given : {from end : ℕ} {before now : List Bool} {b : Bool} → GivenFrom right from end before now
      → (at : ℕ) → at + 1 ≡ from → at < end → at < length before → b ≡ right at
      → GivenFrom right at end before (set now at b)
  one_given {from} {end} {before} {now} {b} g at e l there is = record {
    long = length-set now at b ∙ g.long;
    there = λ k h m.
        ⊎_elim
        (λ q. subst (λ (x : ℕ). get_or (set now at b) x false ≡ right x) q here)
        (λ q. other k (omega arith) ∙ g.there k (omega arith) m)
        (eq-or-lt_of_le h);
    kept = λ k h. other k (omega arith) ∙ g.kept k (omega arith);
    past = λ k h. other k (omega arith) ∙ g.past k h;
  }
    where
      here : get_or (set now at b) at false ≡ right at
      here = get_or-set_same now at b false (omega (arith, g.long)) ∙ is

      other : (k : ℕ) → ¬ (k ≡ at) → get_or (set now at b) k false ≡ get_or now k false
      other k ne = get_or-set_other now at k b false ne
