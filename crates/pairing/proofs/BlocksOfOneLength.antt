-- Laws of the lists made for each number, where all have one length. Assumes nothing.
use mathlib.Core.Path.{◌≡◌, refl, ◌∙◌}
use mathlib.Core.List.{List, [], ◌∷◌, ◌++◌, map}
use Prim.Native.Nat.{ℕ, zero, suc, ◌+◌, ◌*◌, ◌≤◌, ◌<◌, zero-le, suc-le-suc}
use native.Mathlib.Nat.{add-zero, add-suc, zero-add, suc-add, zero-mul, suc-mul, not-suc-le-zero, le_of_suc-le-suc}
use native.Mathlib.Omega.{arith}
use lib.ListN.{length, get_or, take, drop, length-append, length-drop, get_or-append}
use lib.Seq.{get_or-append-add, drop-cons, take-add, take_all, drop-drop}
use Rattle.answers.specs.Lists.{numbers, each}

-- ════════ Two lists, one behind the other ════════

module _ {A : Type 0} where
  -- Past the first list.
  pub get_or_second : (xs ys : List A) (w n : ℕ) (d : A) → length xs ≡ w → get_or (xs ++ ys) (w + n) d ≡ get_or ys n d
  get_or_second xs ys w n d e = rw (← e) (get_or-append-add xs ys n d)

  pub get_or_first : (xs ys : List A) (w n : ℕ) (d : A) → length xs ≡ w → n < w → get_or (xs ++ ys) n d ≡ get_or xs n d
  get_or_first xs ys w n d e l = get_or-append xs ys d n (rw e l)

-- ════════ Lists of one length ════════

module _ {A : Type 0} (g : ℕ → List A) (w : ℕ) (wide : (j : ℕ) → length (g j) ≡ w) where
  pub length_each : (i n : ℕ) → length (each (numbers i n) g) ≡ n * w
  length_each i zero = rw zero-mul
  length_each i (suc n) = rw (length-append, wide i, length_each (suc i) n, suc-mul) (omega arith)

  pub get_or_each_from : (i n j m : ℕ) (d : A) → j < n → m < w → get_or (each (numbers i n) g) (j * w + m) d ≡ get_or (g (i + j)) m d
  get_or_each_from i zero j m d l h = absurd (not-suc-le-zero l)
  get_or_each_from i (suc n) zero m d l h =
      rw (zero-mul, zero-add, add-zero) (get_or_first (g i) (each (numbers (suc i) n) g) w m d (wide i) h)
  get_or_each_from i (suc n) (suc j) m d l h =
      let e : suc j * w + m ≡ w + (j * w + m) = rw suc-mul (omega arith) in
      rw (e, get_or_second (g i) (each (numbers (suc i) n) g) w (j * w + m) d (wide i), add-suc, ← suc-add)
      (get_or_each_from (suc i) n j m d (le_of_suc-le-suc l) h)

  pub get_or_each : (n j m : ℕ) (d : A) → j < n → m < w → get_or (each (numbers 0 n) g) (j * w + m) d ≡ get_or (g j) m d
  get_or_each n j m d l h = get_or_each_from 0 n j m d l h ∙ rw zero-add

-- ════════ Lists that agree ════════

module _ {A : Type 0} where
  pub map_numbers_same : (f g : ℕ → A) (i n : ℕ) → ((j : ℕ) → j < n → f (i + j) ≡ g (i + j)) → map f (numbers i n) ≡ map g (numbers i n)
  map_numbers_same f g i zero h = refl
  map_numbers_same f g i (suc n) h =
      rw (rw add-zero at (h 0 (suc-le-suc zero-le)), map_numbers_same f g (suc i) n (λ j l. rw (suc-add, ← add-suc) (h (suc j) (suc-le-suc l))))

  pub each_numbers_same : (f g : ℕ → List A) (i n : ℕ) → ((j : ℕ) → j < n → f (i + j) ≡ g (i + j)) → each (numbers i n) f ≡ each (numbers i n) g
  each_numbers_same f g i zero h = refl
  each_numbers_same f g i (suc n) h =
      rw (rw add-zero at (h 0 (suc-le-suc zero-le)), each_numbers_same f g (suc i) n (λ j l. rw (suc-add, ← add-suc) (h (suc j) (suc-le-suc l))))

-- ════════ Lists cut from one list ════════

-- The n elements from place s on.
abbrev pub cut : {A : Type 0} → List A → ℕ → ℕ → List A
cut a s n = take n (drop s a)

module _ {A : Type 0} (a : List A) where
  pub cut_cut : (s m n : ℕ) → cut a s m ++ cut a (s + m) n ≡ cut a s (m + n)
  cut_cut s m n = rw (take-add m n (drop s a), drop-drop)

  pub cut_one : (d : A) (s : ℕ) → s < length a → get_or a s d ∷ [] ≡ cut a s 1
  cut_one d s l = rw (drop-cons a s d l)

  -- To the end.
  pub cut_end : (s n : ℕ) → length a ≡ s + n → cut a s n ≡ drop s a
  cut_end s n e = take_all n (drop s a) (rw length-drop (omega arith))

  pub cut_map : (f : ℕ → A) (d : A) (s i n : ℕ) → s + n ≤ length a → ((j : ℕ) → j < n → f (i + j) ≡ get_or a (s + j) d)
      → map f (numbers i n) ≡ cut a s n
  cut_map f d s i zero l h = refl
  cut_map f d s i (suc n) l h =
      let e : f i ≡ get_or a s d = rw (add-zero i, add-zero s) at (h 0 (suc-le-suc zero-le)) in
      rw (
        drop-cons a s d (omega arith),
        e,
        cut_map f d (suc s) (suc i) n (omega arith) (λ j m. rw (suc-add i j, suc-add s j, ← add-suc i j, ← add-suc s j) (h (suc j) (suc-le-suc m))),
      )

  pub cut_each : (g : ℕ → List A) (w s i n : ℕ) → ((j : ℕ) → j < n → g (i + j) ≡ cut a (s + j * w) w)
      → each (numbers i n) g ≡ cut a s (n * w)
  cut_each g w s i zero h = rw zero-mul
  cut_each g w s i (suc n) h =
      let e : g i ≡ cut a s w = rw (add-zero i, zero-mul w, add-zero s) at (h 0 (suc-le-suc zero-le)) in
      let next : (j : ℕ) → s + w + j * w ≡ s + suc j * w = λ j. rw suc-mul (omega arith) in
      let whole : suc n * w ≡ w + n * w = rw suc-mul (omega arith) in
      rw (
        e,
        cut_each g w (s + w) (suc i) n (λ j m. rw (suc-add, ← add-suc, next j) (h (suc j) (suc-le-suc m))),
        whole,
      )
      (cut_cut s w (n * w))
