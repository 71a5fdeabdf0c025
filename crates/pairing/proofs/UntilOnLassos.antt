-- The unfoldings of U and R over positions in a row, and the endless path of a lasso. Assumes nothing.
use mathlib.Core.Path.{◌≡◌, refl, sym, ◌∙◌, ap}
use mathlib.Core.Logic.{◌⊎◌, inl, inr}
use mathlib.Core.Bool.{Bool, true, false, not, ◌&&◌, ◌||◌, false≢true}
use mathlib.Core.List.{List, [], ◌∷◌}
use Prim.Native.Nat.{ℕ, zero, suc, ◌+◌, ◌-◌, ◌<◌, ◌≤◌, zero-le, suc-le-suc}
use native.Mathlib.Nat.{le_of_suc-le-suc, not-suc-le-zero, le_refl, add-zero, add-suc, eq-or-lt_of_le}
use native.Mathlib.Decide.{dec_le}
use native.Mathlib.Omega.{arith}
use borrow.Author.Tests.{not-true, ne_eqb}
use Rattle.answers.proofs.Tests.{both_true, first_true, second_true, one_true, or_first, or_second, not_both, false_if_not_true, eqb_self}
use Rattle.meaning.specs.Bounded.{after, looped, until_for}
use Rattle.meaning.specs.LassoValue.{onward, until_over, release_over}

-- ════════ U over positions in a row ════════

-- g holds j positions after i, and f at those before.
abbrev pub Until : (ℕ → Bool) → (ℕ → Bool) → ℕ → ℕ → Type 0
Until f g i j = (g (i + j) ≡ true) × ((m : ℕ) → m < j → f (i + m) ≡ true)

pub shifted : (i j : ℕ) → suc i + j ≡ i + suc j
shifted i j = omega arith

module _ (f g : ℕ → Bool) where
  until_now : (i : ℕ) → g i ≡ true → Until f g i 0
  until_now i p = (rw add-zero p, λ m h. absurd (not-suc-le-zero h))

  until_next : (i j : ℕ) → f i ≡ true → Until f g (suc i) j → Until f g i (suc j)
  until_next i j p u = (rw shifted at u.0, before)
    where
      before : (m : ℕ) → m < suc j → f (i + m) ≡ true
      before zero h = rw add-zero p
      before (suc m) h = rw shifted at (u.1 m (le_of_suc-le-suc h))

  until_later : (i j : ℕ) → Until f g i (suc j) → Until f g (suc i) j
  until_later i j u = (rw shifted u.0, λ m h. rw shifted (u.1 (suc m) (suc-le-suc h)))

  -- The unfolding over n positions is true where g comes within them, with f before.
  pub until_found : (n i : ℕ) → until_for f g n i ≡ true → (j : ℕ) × (j < n) × Until f g i j
  until_found zero i e = absurd (false≢true e)
  until_found (suc n) i e = go (one_true (g i) _ e) (until_found n (suc i))
    where
      go : (g i ≡ true) ⊎ (f i && until_for f g n (suc i) ≡ true)
          → (until_for f g n (suc i) ≡ true → (j : ℕ) × (j < n) × Until f g (suc i) j)
          → (j : ℕ) × (j < suc n) × Until f g i j
      go (inl p) later = (0, suc-le-suc zero-le, until_now i p)
      go (inr q) later =
          let w = later (second_true (f i) _ q) in
          (suc w.0, suc-le-suc w.1, until_next i w.0 (first_true (f i) _ q) w.2)

  pub until_if_found : (n i j : ℕ) → j < n → Until f g i j → until_for f g n i ≡ true
  until_if_found zero i j h u = absurd (not-suc-le-zero h)
  until_if_found (suc n) i zero h u = or_first _ (rw add-zero at u.0)
  until_if_found (suc n) i (suc j) h u =
      or_second (g i) (both_true (rw add-zero at (u.1 0 (suc-le-suc zero-le)))
      (until_if_found n (suc i) j (le_of_suc-le-suc h) (until_later i j u)))

-- ════════ R by U ════════

module _ (f g : ℕ → Bool) where
  -- R is the dual of U.
  pub release_dual : (end : Bool) (is : List ℕ)
      → release_over f g (not end) is ≡ not (until_over (λ i. not (f i)) (λ i. not (g i)) end is)
  release_dual end [] = refl
  release_dual end (i ∷ is) = rw (release_dual end is) (law (f i) (g i) _)
    where
      law : (a b c : Bool) → b && (a || not c) ≡ not (not b || (not a && c))
      law true true c = refl
      law true false c = refl
      law false true c = refl
      law false false c = refl

-- The first below n at which f holds, or none.
pub first_or_none : (f : ℕ → Bool) (n : ℕ)
    → ((l : ℕ) → l < n → f l ≡ false) ⊎ ((l : ℕ) × (l < n) × (f l ≡ true) × ((m : ℕ) → m < l → f m ≡ false))
first_or_none f zero = inl (λ l h. absurd (not-suc-le-zero h))
first_or_none f (suc n) = go (first_or_none f n) (f n) refl
  where
    go : ((l : ℕ) → l < n → f l ≡ false) ⊎ ((l : ℕ) × (l < n) × (f l ≡ true) × ((m : ℕ) → m < l → f m ≡ false))
        → (b : Bool) → f n ≡ b
        → ((l : ℕ) → l < suc n → f l ≡ false) ⊎ ((l : ℕ) × (l < suc n) × (f l ≡ true) × ((m : ℕ) → m < l → f m ≡ false))
    go (inr w) b e = inr (w.0, omega arith, w.2, w.3)
    go (inl none) true e = inr (n, omega arith, e, none)
    go (inl none) false e = inl (λ l h. last l (eq-or-lt_of_le (le_of_suc-le-suc h)))
      where
        last : (l : ℕ) → (l ≡ n) ⊎ (l < n) → f l ≡ false
        last l (inl q) = rw q e
        last l (inr h) = none l h

-- Among j positions from i on f holds at one, or at none.
some_or_none : (f : ℕ → Bool) (i j : ℕ)
    → ((m : ℕ) × (m < j) × (f (i + m) ≡ true)) ⊎ ((m : ℕ) → m < j → not (f (i + m)) ≡ true)
some_or_none f i j = go (first_or_none (λ m. f (i + m)) j)
  where
    go : ((m : ℕ) → m < j → f (i + m) ≡ false) ⊎ ((m : ℕ) × (m < j) × (f (i + m) ≡ true) × ((n : ℕ) → n < m → f (i + n) ≡ false))
        → ((m : ℕ) × (m < j) × (f (i + m) ≡ true)) ⊎ ((m : ℕ) → m < j → not (f (i + m)) ≡ true)
    go (inl none) = inr (λ m h. rw (none m h))
    go (inr w) = inl (w.0, w.1, w.2)

-- ════════ The endless path of a lasso ════════

module _ (l k : ℕ) where
  pub after_last : after l k k ≡ l
  after_last = rw eqb_self

  pub after_inside : (i : ℕ) → i < k → after l k i ≡ suc i
  after_inside i h = rw (ne_eqb i k (λ e. omega arith))

  -- After k stands l, after any other position the next one.
  pub after_cases : (i : ℕ) → i ≤ k → ((i ≡ k) × (after l k i ≡ l)) ⊎ ((i < k) × (after l k i ≡ suc i))
  after_cases i h = go (eq-or-lt_of_le h)
    where
      go : (i ≡ k) ⊎ (i < k) → ((i ≡ k) × (after l k i ≡ l)) ⊎ ((i < k) × (after l k i ≡ suc i))
      go (inl e) = inl (e, rw (e, after_last))
      go (inr q) = inr (q, after_inside i q)

  pub looped_early : (t : ℕ) → t ≤ k → looped l k t ≡ t
  looped_early zero h = refl
  looped_early (suc t) h = rw (looped_early t (omega arith)) (go (after_cases t (omega arith)))
    where
      go : ((t ≡ k) × (after l k t ≡ l)) ⊎ ((t < k) × (after l k t ≡ suc t)) → after l k t ≡ suc t
      go (inl p) = absurd (omega arith)
      go (inr q) = q.1

module _ (l k : ℕ) (fits : l ≤ k) where
  pub looped_within : (t : ℕ) → looped l k t ≤ k
  looped_within zero = zero-le
  looped_within (suc t) = go (after_cases l k (looped l k t) (looped_within t))
    where
      go : ((looped l k t ≡ k) × (after l k (looped l k t) ≡ l)) ⊎ ((looped l k t < k) × (after l k (looped l k t) ≡ suc (looped l k t)))
          → after l k (looped l k t) ≤ k
      go (inl p) = rw p.1 fits
      go (inr q) = rw q.1 q.0

  -- From l on the path comes round.
  looped_round : (d : ℕ) → looped l k (suc k + d) ≡ looped l k (l + d)
  looped_round zero = rw (add-zero, add-zero, looped_early l k k (omega arith), looped_early l k l fits, eqb_self)
  looped_round (suc d) = rw (add-suc, add-suc) (ap (after l k) (looped_round d))

-- ════════ U and R round a loop ════════

-- What holds at positions of the run, at the places of the endless path.
abbrev pub along : ℕ → ℕ → (ℕ → Bool) → ℕ → Bool
along l k f t = f (looped l k t)

module _ (l k : ℕ) (f g : ℕ → Bool) where
  -- The unfolding from a place of the path goes along the path.
  until_onward : (n t : ℕ) → until_over f g false (onward l k n (looped l k t)) ≡ until_for (along l k f) (along l k g) n t
  until_onward zero t = refl
  until_onward (suc n) t = rw (until_onward n (suc t))

module _ (l k : ℕ) (fits : l ≤ k) (f g : ℕ → Bool) where
  -- What comes at all comes within k + 1 positions.
  sooner : (n t j : ℕ) → j ≤ n → Until (along l k f) (along l k g) t j
      → (m : ℕ) × (m < suc k) × Until (along l k f) (along l k g) t m
  sooner zero t j h u = (j, omega arith, u)
  sooner (suc n) t j h u = go (dec_le j k) (sooner n t)
    where
      go : Dec (j ≤ k)
          → ((i : ℕ) → i ≤ n → Until (along l k f) (along l k g) t i → (m : ℕ) × (m < suc k) × Until (along l k f) (along l k g) t m)
          → (m : ℕ) × (m < suc k) × Until (along l k f) (along l k g) t m
      go (yes p) earlier = (j, suc-le-suc p, u)
      go (no p) earlier =
          let d : ℕ = t + j - suc k in
          let i : ℕ = j - (suc k - l) in
          let there : t + j ≡ suc k + d = omega arith in
          let here : t + i ≡ l + d = omega arith in
          earlier i (omega arith) (
            ap (along l k g) here ∙ ap g (sym (looped_round l k fits d)) ∙ ap (along l k g) (sym there) ∙ u.0,
            λ m q. u.1 m (omega arith),
          )

  pub until_round : (t : ℕ) → until_over f g false (onward l k (suc k) (looped l k t)) ≡ true
      → (j : ℕ) × Until (along l k f) (along l k g) t j
  until_round t e =
      let w = until_found (along l k f) (along l k g) (suc k) t (sym (until_onward l k f g (suc k) t) ∙ e) in
      (w.0, w.2)

  pub until_if_round : (t j : ℕ) → Until (along l k f) (along l k g) t j
      → until_over f g false (onward l k (suc k) (looped l k t)) ≡ true
  until_if_round t j u =
      let w = sooner j t j (le_refl j) u in
      until_onward l k f g (suc k) t ∙ until_if_found (along l k f) (along l k g) (suc k) t w.0 w.1 w.2

-- g holds j positions after i, or f before.
abbrev pub Release : (ℕ → Bool) → (ℕ → Bool) → ℕ → ℕ → Type 0
Release f g i j = (g (i + j) ≡ true) ⊎ ((m : ℕ) × (m < j) × (f (i + m) ≡ true))

module _ (l k : ℕ) (fits : l ≤ k) (f g : ℕ → Bool) where
  pub release_round : (t : ℕ) → release_over f g true (onward l k (suc k) (looped l k t)) ≡ true
      → (j : ℕ) → Release (along l k f) (along l k g) t j
  release_round t e j = go (g (looped l k (t + j))) refl (some_or_none (along l k f) t j)
    where
      go : (b : Bool) → g (looped l k (t + j)) ≡ b
          → ((m : ℕ) × (m < j) × (f (looped l k (t + m)) ≡ true)) ⊎ ((m : ℕ) → m < j → not (f (looped l k (t + m))) ≡ true)
          → Release (along l k f) (along l k g) t j
      go true p d = inl p
      go false p (inl w) = inr w
      go false p (inr none) =
          absurd (not_both e (release_dual f g false (onward l k (suc k) (looped l k t))
          ∙ ap not (until_if_round l k fits (λ i. not (f i)) (λ i. not (g i)) t j (rw p, none))))

  pub release_if_round : (t : ℕ) → ((j : ℕ) → Release (along l k f) (along l k g) t j)
      → release_over f g true (onward l k (suc k) (looped l k t)) ≡ true
  release_if_round t r = release_dual f g false (onward l k (suc k) (looped l k t)) ∙ ap not (false_if_not_true _ never)
    where
      never : until_over (λ i. not (f i)) (λ i. not (g i)) false (onward l k (suc k) (looped l k t)) ≡ true → ⊥
      never e =
          let w = until_round l k fits (λ i. not (f i)) (λ i. not (g i)) t e in
          go w.0 w.1 (r w.0)
        where
          go : (j : ℕ) → Until (along l k (λ i. not (f i))) (along l k (λ i. not (g i))) t j → Release (along l k f) (along l k g) t j → ⊥
          go j u (inl p) = not_both p (not-true _ u.0)
          go j u (inr v) = not_both v.2 (not-true _ (u.1 v.0 v.1))
