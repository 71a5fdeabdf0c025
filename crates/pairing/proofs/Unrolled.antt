-- Once round a loop is enough: a walk of k + 1 positions is one to k and then one round. Assumes nothing.
use mathlib.Core.Path.{◌≡◌, refl, sym, ◌∙◌, ap, subst}
use mathlib.Core.Logic.{◌⊎◌, inl, inr}
use mathlib.Core.Bool.{Bool, true, false, not, ◌&&◌, false≢true}
use mathlib.Core.List.Memᴰ
use mathlib.Core.List.{List, [], ◌∷◌, ◌++◌, Memᴰ}
use Prim.Native.Nat.{ℕ, zero, suc, ◌+◌, ◌-◌, ◌≤◌, ◌<◌}
use native.Mathlib.Nat.{zero-add, suc-add, eq-or-lt_of_le}
use native.Mathlib.Decide.{dec_le}
use native.Mathlib.Omega.{arith}
use Rattle.answers.specs.Lists.{numbers}
use Rattle.answers.proofs.Tests.{one_true, second_true}
use Rattle.meaning.specs.Bounded.{after}
use Rattle.meaning.specs.LassoValue.{onward, until_over, release_over}
use Rattle.meaning.proofs.Numbers.{numbers_append, member_of_numbers, numbers_bounds}
use Rattle.pairing.proofs.UntilOnLassos.{release_dual, after_last, after_inside}

-- ════════ Positions already passed add nothing ════════

module _ (f g : ℕ → Bool) where
  pub until_append : (end : Bool) (is js : List ℕ) → until_over f g end (is ++ js) ≡ until_over f g (until_over f g end js) is
  until_append end [] js = refl
  until_append end (i ∷ is) js = rw (until_append end is js)

  -- An until that ends false and is true has g somewhere.
  until_witness : (is : List ℕ) → until_over f g false is ≡ true → (i : ℕ) × Memᴰ i is × (g i ≡ true)
  until_witness [] e = absurd (false≢true e)
  until_witness (i ∷ is) e = go (one_true (g i) _ e) (until_witness is)
    where
      go : (g i ≡ true) ⊎ (f i && until_over f g false is ≡ true)
          → (until_over f g false is ≡ true → (j : ℕ) × Memᴰ j is × (g j ≡ true))
          → (j : ℕ) × Memᴰ j (i ∷ is) × (g j ≡ true)
      go (inl p) later = (i, Memᴰ.head refl, p)
      go (inr q) later = let w = later (second_true (f i) _ q) in (w.0, Memᴰ.tail w.1, w.2)

  -- Where g stands on the way, the end does not matter.
  end_not_met : {i : ℕ} {is : List ℕ} → Memᴰ i is → g i ≡ true → until_over f g true is ≡ until_over f g false is
  end_not_met (Memᴰ.head p) e = rw (rw p at e)
  end_not_met (Memᴰ.tail m) e = rw (end_not_met m e)

  -- Positions that were passed before add nothing.
  pub until_passed : (is js : List ℕ) → ((j : ℕ) → Memᴰ j js → Memᴰ j is)
      → until_over f g (until_over f g false js) is ≡ until_over f g false is
  until_passed is js passed = go (until_over f g false js) refl
    where
      go : (b : Bool) → until_over f g false js ≡ b → until_over f g b is ≡ until_over f g false is
      go true e = let w = until_witness js e in end_not_met (passed w.0 w.1) w.2
      go false e = refl

-- ════════ The positions of a walk ════════

module _ (l k : ℕ) where
  -- So many positions that reach no further than k.
  onward_straight : (n i : ℕ) → i + n ≤ suc k → onward l k n i ≡ numbers i n
  onward_straight zero i h = refl
  onward_straight (suc zero) i h = refl
  onward_straight (suc (suc n)) i h =
      let inside : i < k = omega arith in
      rw (after_inside l k i inside, onward_straight (suc n) (suc i) (omega arith))

  -- Those to k, and then the rest from l on.
  onward_round : (n m i : ℕ) → i + suc n ≡ suc k → onward l k (suc n + m) i ≡ numbers i (suc n) ++ onward l k m l
  onward_round zero m i h =
      let last : i ≡ k = omega arith in
      rw (suc-add, zero-add, last, after_last)
  onward_round (suc n) m i h =
      let inside : i < k = omega arith in
      rw (suc-add, after_inside l k i inside, onward_round n m (suc i) (omega arith))

  pub walk_on : (m i : ℕ) → i ≤ k → onward l k (suc k - i + m) i ≡ numbers i (suc k - i) ++ onward l k m l
  walk_on m i h =
      let steps : suc (k - i) ≡ suc k - i = omega arith in
      subst (λ (n : ℕ). onward l k (n + m) i ≡ numbers i n ++ onward l k m l) steps (onward_round (k - i) m i (omega arith))

  -- k + 1 positions: those to k, and i more.
  pub whole_walk : (i : ℕ) → i ≤ k → onward l k (suc k) i ≡ numbers i (suc k - i) ++ onward l k i l
  whole_walk i h =
      let steps : suc k - i + i ≡ suc k = omega arith in
      subst (λ (n : ℕ). onward l k n i ≡ numbers i (suc k - i) ++ onward l k i l) steps (walk_on i i h)

  after_in_loop : l ≤ k → (i : ℕ) → l ≤ i → i ≤ k → (l ≤ after l k i) × (after l k i ≤ k)
  after_in_loop s i h h' = go (eq-or-lt_of_le h')
    where
      go : (i ≡ k) ⊎ (i < k) → (l ≤ after l k i) × (after l k i ≤ k)
      go (inl e) = rw (e, after_last) (omega arith)
      go (inr h'') = rw (after_inside l k i h'') (omega arith)

  -- A walk that begins in the loop stays there.
  onward_in_loop : l ≤ k → (n i : ℕ) → l ≤ i → i ≤ k → (j : ℕ) → Memᴰ j (onward l k n i) → (l ≤ j) × (j ≤ k)
  onward_in_loop s zero i h h' j m = absurd (Memᴰ.not-nil m)
  onward_in_loop s (suc n) i h h' j m =
      let next = after_in_loop s i h h' in
      go (Memᴰ.cases_cons m) (onward_in_loop s n (after l k i) next.0 next.1 j)
    where
      go : (j ≡ i) ⊎ Memᴰ j (onward l k n (after l k i)) → (Memᴰ j (onward l k n (after l k i)) → (l ≤ j) × (j ≤ k))
          → (l ≤ j) × (j ≤ k)
      go (inl e) later = omega arith
      go (inr m') later = later m'

-- ════════ Until, unrolled ════════

-- The positions from i to k.
abbrev to_last : ℕ → ℕ → List ℕ
to_last k i = numbers i (suc k - i)

module _ (f g : ℕ → Bool) (l k : ℕ) (s : l ≤ k) where
  -- The i positions after k are short of a round: what they leave out of the loop was passed before k.
  short_of_round : (i : ℕ) → l + i ≤ suc k
      → until_over f g (until_over f g false (onward l k i l)) (to_last k i) ≡ until_over f g (until_over f g false (to_last k l)) (to_last k i)
  short_of_round i h =
      rw (onward_straight l k i l h, round, until_append f g false (numbers l i) missing)
      (sym (until_append f g false (to_last k i) (numbers l i))
      ∙ sym (until_passed f g (to_last k i ++ numbers l i) missing passed)
      ∙ until_append f g (until_over f g false missing) (to_last k i) (numbers l i))
    where
      missing : List ℕ
      missing = numbers (l + i) (suc k - l - i)

      round : to_last k l ≡ numbers l i ++ numbers (l + i) (suc k - l - i)
      round =
          let steps : i + (suc k - l - i) ≡ suc k - l = omega arith in
          subst (λ (n : ℕ). numbers l n ≡ numbers l i ++ numbers (l + i) (suc k - l - i)) steps (numbers_append l i (suc k - l - i))

      passed : (j : ℕ) → Memᴰ j missing → Memᴰ j (to_last k i ++ numbers l i)
      passed j m =
          let b = numbers_bounds (l + i) (suc k - l - i) m in
          Memᴰ.append_left (numbers l i) (member_of_numbers i (suc k - i) j (omega arith) (omega arith))

  -- They are a round and more: what is more was passed in the round.
  past_round : (i : ℕ) → suc k ≤ l + i
      → until_over f g (until_over f g false (onward l k i l)) (to_last k i) ≡ until_over f g (until_over f g false (to_last k l)) (to_last k i)
  past_round i h = rw (round, until_append f g false (to_last k l) more, until_passed f g (to_last k l) more passed)
    where
      more : List ℕ
      more = onward l k (i - (suc k - l)) l

      round : onward l k i l ≡ to_last k l ++ onward l k (i - (suc k - l)) l
      round =
          let steps : suc k - l + (i - (suc k - l)) ≡ i = omega arith in
          subst (λ (n : ℕ). onward l k n l ≡ to_last k l ++ onward l k (i - (suc k - l)) l) steps (walk_on l k (i - (suc k - l)) l s)

      passed : (j : ℕ) → Memᴰ j more → Memᴰ j (to_last k l)
      passed j m =
          let b = onward_in_loop l k s (i - (suc k - l)) l (omega arith) s j m in
          member_of_numbers l (suc k - l) j (omega arith) (omega arith)

  pub until_unrolled : (i : ℕ) → i ≤ k
      → until_over f g false (onward l k (suc k) i) ≡ until_over f g (until_over f g false (numbers l (suc k - l))) (numbers i (suc k - i))
  until_unrolled i h =
      ap (until_over f g false) (whole_walk l k i h) ∙ until_append f g false (to_last k i) (onward l k i l) ∙ go (dec_le (l + i) (suc k))
    where
      go : Dec (l + i ≤ suc k)
          → until_over f g (until_over f g false (onward l k i l)) (to_last k i) ≡ until_over f g (until_over f g false (to_last k l)) (to_last k i)
      go (yes h') = short_of_round i h'
      go (no h') = past_round i (omega arith)

  -- From the loop's start on, once round.
  pub until_once_round : until_over f g false (onward l k (suc k) l) ≡ until_over f g false (numbers l (suc k - l))
  until_once_round = until_unrolled l s ∙ until_passed f g (to_last k l) (to_last k l) (λ j m. m)

-- ════════ Release, its dual ════════

abbrev pub negation : (ℕ → Bool) → ℕ → Bool
negation f i = not (f i)

module _ (f g : ℕ → Bool) (l k : ℕ) (s : l ≤ k) where
  pub release_unrolled : (i : ℕ) → i ≤ k
      → release_over f g true (onward l k (suc k) i) ≡ release_over f g (release_over f g true (numbers l (suc k - l))) (numbers i (suc k - i))
  release_unrolled i h =
      release_dual f g false (onward l k (suc k) i)
      ∙ ap not (until_unrolled (negation f) (negation g) l k s i h)
      ∙ sym (release_dual f g (until_over (negation f) (negation g) false (to_last k l)) (to_last k i))
      ∙ ap (λ e. release_over f g e (to_last k i)) (sym (release_dual f g false (to_last k l)))

  pub release_once_round : release_over f g true (onward l k (suc k) l) ≡ release_over f g true (numbers l (suc k - l))
  release_once_round =
      release_dual f g false (onward l k (suc k) l)
      ∙ ap not (until_once_round (negation f) (negation g) l k s)
      ∙ sym (release_dual f g false (to_last k l))
