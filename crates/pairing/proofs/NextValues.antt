-- Laws of the next value, and of U and R that unfold to the last position. Assumes nothing.
use mathlib.Core.Path.{◌≡◌, refl, sym, ◌∙◌, ap, subst}
use mathlib.Core.Logic.{◌⊎◌, inl, inr}
use mathlib.Core.Bool.{Bool, true, false, ◌&&◌, ◌||◌, cond}
use mathlib.Core.List.{◌∷◌}
use Prim.Native.Nat.{ℕ, zero, suc, ◌+◌, ◌-◌, ◌≤◌, ◌<◌}
use native.Mathlib.Nat.{eq-or-lt_of_le, sub_self}
use native.Mathlib.Numerals.{add-one}
use native.Mathlib.Omega.{arith}
use borrow.Author.Tests.{leb-true, le-leb, lt-leb}
use lib.Dec.{leb}
use Rattle.answers.specs.Lists.{numbers}
use Rattle.meaning.specs.LassoValue.{until_over, release_over}
use Rattle.pairing.specs.NodeLaws.{at_next}

-- ════════ The next value ════════

module _ (k : ℕ) where
  pub at_next_inside : (f : ℕ → Bool) (end : Bool) (i : ℕ) → i < k → at_next k f end i ≡ f (suc i)
  at_next_inside f end i h = rw (add-one, le-leb (suc i) k h)

  pub at_next_last : (f : ℕ → Bool) (end : Bool) → at_next k f end k ≡ end
  at_next_last f end = rw (lt-leb (k + 1) k (omega arith))

  -- Where f itself has the end past k.
  pub at_next_is : (f : ℕ → Bool) (end : Bool) → f (suc k) ≡ end → (i : ℕ) → i ≤ k → f (suc i) ≡ at_next k f end i
  at_next_is f end e i h = go (eq-or-lt_of_le h)
    where
      go : (i ≡ k) ⊎ (i < k) → f (suc i) ≡ at_next k f end i
      go (inl q) = rw (q, at_next_last f end) e
      go (inr h') = sym (at_next_inside f end i h')

  -- Only the next position is read.
  pub at_next_stays : (f g : ℕ → Bool) (end end' : Bool) (i : ℕ) → (i + 1 ≤ k → f (i + 1) ≡ g (i + 1)) → end ≡ end'
      → at_next k f end i ≡ at_next k g end' i
  at_next_stays f g end end' i same e = go (leb (i + 1) k) refl
    where
      go : (b : Bool) → leb (i + 1) k ≡ b → cond b (f (i + 1)) end ≡ cond b (g (i + 1)) end'
      go true q = same (leb-true (i + 1) k q)
      go false q = e

  pub at_next_same : (f g : ℕ → Bool) (end end' : Bool) → ((j : ℕ) → j ≤ k → f j ≡ g j) → end ≡ end' → (i : ℕ) → at_next k f end i ≡ at_next k g end' i
  at_next_same f g end end' same e i = at_next_stays f g end end' i (same (i + 1)) e

  -- What unfolds to the last position by the same steps, from the same end, is the same.
  pub same_going_down : (step : ℕ → Bool → Bool) (f g : ℕ → Bool) (end end' : Bool) → end ≡ end'
      → ((i : ℕ) → i ≤ k → f i ≡ step i (at_next k f end i)) → ((i : ℕ) → i ≤ k → g i ≡ step i (at_next k g end' i))
      → (i : ℕ) → i ≤ k → f i ≡ g i
  same_going_down step f g end end' e fs gs i h = go (k - i) i (omega arith)
    where
      go : (d j : ℕ) → j + d ≡ k → f j ≡ g j
      go zero j q =
          let last : j ≡ k = omega arith in
          rw (last, fs k (omega arith), gs k (omega arith), at_next_last f end, at_next_last g end', e)
      go (suc d) j q =
          let inside : j < k = omega arith in
          fs j (omega arith)
          ∙ ap (step j) (at_next_inside f end j inside ∙ go d (suc j) (omega arith) ∙ sym (at_next_inside g end' j inside))
          ∙ sym (gs j (omega arith))

-- ════════ U and R to the last position ════════

module _ (k : ℕ) where
  numbers_first : (i : ℕ) → i ≤ k → numbers i (suc k - i) ≡ i ∷ numbers (suc i) (suc k - suc i)
  numbers_first i h =
      let steps : suc (suc k - suc i) ≡ suc k - i = omega arith in
      subst (λ (n : ℕ). numbers i n ≡ i ∷ numbers (suc i) (suc k - suc i)) steps refl

  module _ (f g : ℕ → Bool) (end : Bool) where
    pub until_to_last : (i : ℕ) → i ≤ k
        → until_over f g end (numbers i (suc k - i)) ≡ g i || (f i && at_next k (λ j. until_over f g end (numbers j (suc k - j))) end i)
    until_to_last i h =
        ap (until_over f g end) (numbers_first i h)
        ∙ ap (λ y. g i || (f i && y)) (at_next_is k (λ j. until_over f g end (numbers j (suc k - j))) end (rw sub_self) i h)

    pub release_to_last : (i : ℕ) → i ≤ k
        → release_over f g end (numbers i (suc k - i)) ≡ g i && (f i || at_next k (λ j. release_over f g end (numbers j (suc k - j))) end i)
    release_to_last i h =
        ap (release_over f g end) (numbers_first i h)
        ∙ ap (λ y. g i && (f i || y)) (at_next_is k (λ j. release_over f g end (numbers j (suc k - j))) end (rw sub_self) i h)

  -- What stands on the left is read only up to k.
  module _ (f f' g : ℕ → Bool) (end : Bool) (same : (i : ℕ) → i ≤ k → f i ≡ f' i) where
    pub until_left_same : (i : ℕ) → i ≤ k → until_over f g end (numbers i (suc k - i)) ≡ until_over f' g end (numbers i (suc k - i))
    until_left_same =
        same_going_down k (λ i y. g i || (f' i && y))
        (λ i. until_over f g end (numbers i (suc k - i))) (λ i. until_over f' g end (numbers i (suc k - i))) end end refl
        (λ i h. until_to_last f g end i h ∙ rw (same i h)) (until_to_last f' g end)

    pub release_left_same : (i : ℕ) → i ≤ k → release_over f g end (numbers i (suc k - i)) ≡ release_over f' g end (numbers i (suc k - i))
    release_left_same =
        same_going_down k (λ i y. g i && (f' i || y))
        (λ i. release_over f g end (numbers i (suc k - i))) (λ i. release_over f' g end (numbers i (suc k - i))) end end refl
        (λ i h. release_to_last f g end i h ∙ rw (same i h)) (release_to_last f' g end)
