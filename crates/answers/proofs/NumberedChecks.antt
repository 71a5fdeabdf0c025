-- Checks that refuse with one number, each at its own place: which is the first that fails. Assumes nothing.
use mathlib.Core.Path.{◌≡◌, refl}
use mathlib.Core.Bool.{Bool, true, false, cond}
use mathlib.Core.List.{List, map}
use mathlib.Core.Logic.{◌↔◌, inl, inr}
use Prim.Native.Nat.{ℕ, zero, suc, ◌+◌, ◌≤◌, ◌<◌, zero-le}
use native.Mathlib.Nat.{eq-or-lt_of_le}
use native.Mathlib.Omega.{arith}
use Rattle.answers.specs.Lists.{numbers}
use Rattle.answers.specs.Answers.{Answer, Check, answer, check, first_failing}
use Rattle.answers.proofs.Answers.{number_of, place_of}

-- Of n places from m on, i is the first whose test fails.
record First (t : ℕ → Bool) (m n i : ℕ) : Type 0 where
  at_or_after : m ≤ i
  among : i < m + n
  fails : t i ≡ false
  passed : (j : ℕ) → m ≤ j → j < i → t j ≡ true

module _ (t : ℕ → Bool) (k : ℕ) where
  abbrev pub checks_from : ℕ → ℕ → List Check
  checks_from m n = map (λ j. check (t j) (answer k j)) (numbers m n)

  first_if_answered : (m n i : ℕ) (after : Answer) → (after.number ≡ k → ⊥) → first_failing (checks_from m n) after ≡ answer k i → First t m n i
  first_if_answered m zero i after other e = absurd (other (number_of e))
  first_if_answered m (suc n) i after other e = go (t m) refl e (first_if_answered (suc m) n i after other)
    where
      go : (b : Bool) → t m ≡ b → cond b (first_failing (checks_from (suc m) n) after) (answer k m) ≡ answer k i
          → (first_failing (checks_from (suc m) n) after ≡ answer k i → First t (suc m) n i) → First t m (suc n) i
      go true q f later =
          let r = later f in
          record {
            at_or_after = omega (arith, r.at_or_after);
            among = omega (arith, r.among);
            fails = r.fails;
            passed = λ j h l. elim (eq-or-lt_of_le h) [
              | inl e ↦ rw (← e) q
              | inr s ↦ r.passed j s l
            ];
          }
      go false q f later =
          let here : m ≡ i = place_of f in
          record { at_or_after = omega arith; among = omega arith; fails = rw (← here) q; passed = λ j h l. absurd (omega arith) }

  answered_if_first : (m n i : ℕ) (after : Answer) → First t m n i → first_failing (checks_from m n) after ≡ answer k i
  answered_if_first m zero i after r = absurd (omega (arith, r.at_or_after, r.among))
  answered_if_first m (suc n) i after r = elim (eq-or-lt_of_le r.at_or_after) [
    | inl e ↦ let fails : t m ≡ false = rw e r.fails in rw (fails, e)
    | inr s ↦
        let passes : t m ≡ true = r.passed m (omega arith) s in
        rw passes
        (answered_if_first (suc m) n i after
        (record { at_or_after = s; among = omega (arith, r.among); fails = r.fails; passed = λ j h l. r.passed j (omega arith) l }))
  ]

  -- The number comes with place i exactly where i is the first that fails, if nothing after the checks has it.
  pub first_fails : (n i : ℕ) (after : Answer) → (after.number ≡ k → ⊥)
      → (first_failing (checks_from 0 n) after ≡ answer k i) ↔ ((i < n) × (t i ≡ false) × ((j : ℕ) → j < i → t j ≡ true))
  first_fails n i after other = (
    λ e. let r = first_if_answered 0 n i after other e in (omega (arith, r.among), r.fails, λ j l. r.passed j zero-le l),
    λ h. answered_if_first 0 n i after (record { at_or_after = zero-le; among = omega (arith, h.0); fails = h.1; passed = λ j z l. h.2 j l }),
  )
