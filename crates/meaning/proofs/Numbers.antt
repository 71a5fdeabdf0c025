-- Laws of the lists of numbers, and of the lists made for each element. Assumes nothing.
use mathlib.Core.Path.{◌≡◌, refl, sym, ◌∙◌, ap}
use mathlib.Core.Bool.{Bool, true}
use mathlib.Core.List.Memᴰ
use mathlib.Core.List.{List, [], ◌∷◌, ◌++◌, map, append_assoc, Memᴰ}
use mathlib.Core.Logic.{◌⊎◌, inl, inr}
use Prim.Native.Nat.{ℕ, zero, suc, ◌+◌, ◌<◌, zero-le, suc-le-suc, ◌≤◌}
use native.Mathlib.Nat.{add-zero, add-suc, zero-add, suc-add, not-suc-le-zero, le_of_suc-le-suc, eq-or-lt_of_le}
use native.Mathlib.Omega.{arith}
use lib.ListN.{length, get_or, length-map}
use Rattle.answers.specs.Lists.{numbers, each, all_of}
use Rattle.answers.proofs.Tests.{both_true, all_of_append, all_of_first, all_of_second, all_of_member, all_of_if_member}

-- ════════ Numbers ════════

pub length_numbers : (i n : ℕ) → length (numbers i n) ≡ n
length_numbers i zero = refl
length_numbers i (suc n) = ap suc (length_numbers (suc i) n)

pub get_or_numbers : (i n j d : ℕ) → j < n → get_or (numbers i n) j d ≡ i + j
get_or_numbers i zero j d l = absurd (not-suc-le-zero l)
get_or_numbers i (suc n) zero d l = sym (add-zero i)
get_or_numbers i (suc n) (suc j) d l = get_or_numbers (suc i) n j d (le_of_suc-le-suc l) ∙ simp (suc-add, add-suc)

pub numbers_append : (i m n : ℕ) → numbers i (m + n) ≡ numbers i m ++ numbers (i + m) n
numbers_append i zero n = rw (zero-add, add-zero)
numbers_append i (suc m) n = rw (suc-add m n, add-suc i m, ← suc-add i m) (ap (λ (is : List ℕ). i ∷ is) (numbers_append (suc i) m n))

pub numbers_suc : (i n : ℕ) → numbers i (suc n) ≡ numbers i n ++ ((i + n) ∷ [])
numbers_suc i zero = rw add-zero
numbers_suc i (suc n) = rw (add-suc i n, ← suc-add i n) (ap (λ (is : List ℕ). i ∷ is) (numbers_suc (suc i) n))

-- The numbers that stand there are those from i on.
pub member_of_numbers : (i n j : ℕ) → i ≤ j → j < i + n → Memᴰ j (numbers i n)
member_of_numbers i zero j h l = absurd (omega arith)
member_of_numbers i (suc n) j h l = go (eq-or-lt_of_le h) (λ h'. member_of_numbers (suc i) n j h' (omega arith))
  where
    go : (i ≡ j) ⊎ (i < j) → (i < j → Memᴰ j (numbers (suc i) n)) → Memᴰ j (i ∷ numbers (suc i) n)
    go (inl e) later = Memᴰ.head (sym e)
    go (inr h') later = Memᴰ.tail (later h')

pub numbers_bounds : (i n : ℕ) {j : ℕ} → Memᴰ j (numbers i n) → (i ≤ j) × (j < i + n)
numbers_bounds i zero m = absurd (Memᴰ.not-nil m)
numbers_bounds i (suc n) {j} m = go (Memᴰ.cases_cons m) (numbers_bounds (suc i) n)
  where
    go : (j ≡ i) ⊎ Memᴰ j (numbers (suc i) n) → (Memᴰ j (numbers (suc i) n) → (suc i ≤ j) × (j < suc i + n))
        → (i ≤ j) × (j < i + suc n)
    go (inl e) later = omega arith
    go (inr m') later = let b = later m' in omega arith

module _ (f : ℕ → Bool) (n : ℕ) where
  pub all_of_numbers : all_of f (numbers 0 n) ≡ true → (j : ℕ) → j < n → f j ≡ true
  all_of_numbers e j h = all_of_member f (member_of_numbers 0 n j zero-le (omega arith)) e

  pub all_of_numbers_if : ((j : ℕ) → j < n → f j ≡ true) → all_of f (numbers 0 n) ≡ true
  all_of_numbers_if h = all_of_if_member f (numbers 0 n) (λ j m. h j (omega (arith, (numbers_bounds 0 n m).1)))

-- ════════ What is made of each element ════════

-- The default of a place within a list does not matter.
pub get_or_map_within : {A B : Type 0} (f : A → B) (xs : List A) (i : ℕ) (d : A) (e : B) → i < length xs → get_or (map f xs) i e ≡ f (get_or xs i d)
get_or_map_within f [] i d e h = absurd (not-suc-le-zero h)
get_or_map_within f (x ∷ xs) zero d e h = refl
get_or_map_within f (x ∷ xs) (suc i) d e h = get_or_map_within f xs i d e (le_of_suc-le-suc h)

module _ {A : Type 0} (f : ℕ → A) where
  pub length_map_numbers : (i n : ℕ) → length (map f (numbers i n)) ≡ n
  length_map_numbers i n = length-map (numbers i n) f ∙ length_numbers i n

  pub get_or_map_numbers_from : (i n j : ℕ) (d : A) → j < n → get_or (map f (numbers i n)) j d ≡ f (i + j)
  get_or_map_numbers_from i n j d l =
      get_or_map_within f (numbers i n) j 0 d (rw length_numbers l) ∙ ap f (get_or_numbers i n j 0 l)

  pub get_or_map_numbers : (n j : ℕ) (d : A) → j < n → get_or (map f (numbers 0 n)) j d ≡ f j
  get_or_map_numbers n j d l = get_or_map_numbers_from 0 n j d l ∙ rw zero-add

-- ════════ The lists of each element ════════

module _ {A B : Type 0} where
  pub each_append : (xs ys : List A) (f : A → List B) → each (xs ++ ys) f ≡ each xs f ++ each ys f
  each_append [] ys f = refl
  each_append (x ∷ xs) ys f = rw (each_append xs ys f, append_assoc)

  module _ (t : B → Bool) (g : A → List B) where
    pub all_of_each : (xs : List A) → ((x : A) → all_of t (g x) ≡ true) → all_of t (each xs g) ≡ true
    all_of_each [] h = refl
    all_of_each (x ∷ xs) h = rw all_of_append (both_true (h x) (all_of_each xs h))

module _ {B : Type 0} (t : B → Bool) (g : ℕ → List B) where
  pub all_of_each_number : (i n : ℕ) → ((j : ℕ) → j < n → all_of t (g (i + j)) ≡ true) → all_of t (each (numbers i n) g) ≡ true
  all_of_each_number i zero h = refl
  all_of_each_number i (suc n) h =
      rw all_of_append (both_true (rw add-zero at (h 0 (suc-le-suc zero-le)))
      (all_of_each_number (suc i) n (λ j l. rw (suc-add, ← add-suc) (h (suc j) (suc-le-suc l)))))

  pub all_of_number : (i n : ℕ) → all_of t (each (numbers i n) g) ≡ true → (j : ℕ) → j < n → all_of t (g (i + j)) ≡ true
  all_of_number i zero e j l = absurd (not-suc-le-zero l)
  all_of_number i (suc n) e zero l = rw add-zero (all_of_first t (g i) (each (numbers (suc i) n) g) e)
  all_of_number i (suc n) e (suc j) l =
      rw (add-suc, ← suc-add)
      (all_of_number (suc i) n (all_of_second t (g i) (each (numbers (suc i) n) g) e) j (le_of_suc-le-suc l))

  -- Counted from 0.
  pub all_of_each_below : (n : ℕ) → ((j : ℕ) → j < n → all_of t (g j) ≡ true) → all_of t (each (numbers 0 n) g) ≡ true
  all_of_each_below n h = all_of_each_number 0 n (λ j l. rw zero-add (h j l))

  pub all_of_below : (n : ℕ) → all_of t (each (numbers 0 n) g) ≡ true → (j : ℕ) → j < n → all_of t (g j) ≡ true
  all_of_below n e j l = rw zero-add at (all_of_number 0 n e j l)
