-- Laws of tests, and of tests on lists. Assumes nothing.
use mathlib.Core.Path.{◌≡◌, refl, sym, ◌∙◌}
use mathlib.Core.Logic.{◌⊎◌, inl, inr}
use mathlib.Core.Bool.{Bool, true, false, ◌&&◌, ◌||◌, false≢true, true≢false, and_assoc, or_assoc, cond}
use mathlib.Core.List.Memᴰ
use mathlib.Core.List.{List, [], ◌∷◌, ◌++◌, map, Memᴰ}
use Prim.Native.Nat.{ℕ, zero, suc, ◌≤◌, ◌<◌, zero-le, suc-le-suc}
use native.Mathlib.Nat.{le_of_suc-le-suc, not-suc-le-zero}
use native.Mathlib.Omega.{arith}
use borrow.Author.Tests.{eq-eqb, ne_eqb}
use lib.Dec.{eqb}
use lib.ListN.{get_or, length}
use Rattle.answers.specs.Lists.{some_of, all_of, those, numbered, empty}

-- ════════ Tests ════════

pub both_true : {a b : Bool} → a ≡ true → b ≡ true → a && b ≡ true
both_true p q = rw (p, q)

pub first_true : (a b : Bool) → a && b ≡ true → a ≡ true
first_true true b e = refl
first_true false b e = e

pub second_true : (a b : Bool) → a && b ≡ true → b ≡ true
second_true true b e = e
second_true false b e = absurd (false≢true e)

pub one_true : (a b : Bool) → a || b ≡ true → (a ≡ true) ⊎ (b ≡ true)
one_true true b e = inl refl
one_true false b e = inr e

pub or_first : {a : Bool} (b : Bool) → a ≡ true → a || b ≡ true
or_first b p = rw p

pub or_second : (a : Bool) {b : Bool} → b ≡ true → a || b ≡ true
or_second true p = refl
or_second false p = p

pub not_both : {b : Bool} → b ≡ true → b ≡ false → ⊥
not_both p q = true≢false (sym p ∙ q)

pub false_if_not_true : (b : Bool) → (b ≡ true → ⊥) → b ≡ false
false_if_not_true true h = absurd (h refl)
false_if_not_true false h = refl

pub eqb_self : (n : ℕ) → eqb n n ≡ true
eqb_self n = eq-eqb n n refl

-- ════════ Tests on lists ════════

pub no_elements : {A : Type 0} (xs : List A) → eqb (length xs) 0 ≡ empty xs
no_elements [] = eqb_self 0
no_elements (x ∷ xs) = ne_eqb (suc (length xs)) 0 (λ e. omega arith)

module _ {A : Type 0} (f : A → Bool) where
  pub all_of_append : (xs ys : List A) → all_of f (xs ++ ys) ≡ all_of f xs && all_of f ys
  all_of_append [] ys = refl
  all_of_append (x ∷ xs) ys = rw (all_of_append xs ys, and_assoc (f x))

  pub some_of_append : (xs ys : List A) → some_of f (xs ++ ys) ≡ some_of f xs || some_of f ys
  some_of_append [] ys = refl
  some_of_append (x ∷ xs) ys = rw (some_of_append xs ys, or_assoc (f x))

  pub all_of_first : (xs ys : List A) → all_of f (xs ++ ys) ≡ true → all_of f xs ≡ true
  all_of_first xs ys e = first_true (all_of f xs) (all_of f ys) (rw all_of_append at e)

  pub all_of_second : (xs ys : List A) → all_of f (xs ++ ys) ≡ true → all_of f ys ≡ true
  all_of_second xs ys e = second_true (all_of f xs) (all_of f ys) (rw all_of_append at e)

  -- By place.
  pub all_of_at : (xs : List A) (i : ℕ) (d : A) → all_of f xs ≡ true → i < length xs → f (get_or xs i d) ≡ true
  all_of_at [] i d e l = absurd (not-suc-le-zero l)
  all_of_at (x ∷ xs) zero d e l = first_true (f x) (all_of f xs) e
  all_of_at (x ∷ xs) (suc i) d e l = all_of_at xs i d (second_true (f x) (all_of f xs) e) (le_of_suc-le-suc l)

  pub all_of_if_at : (xs : List A) (d : A) → ((i : ℕ) → i < length xs → f (get_or xs i d) ≡ true) → all_of f xs ≡ true
  all_of_if_at [] d h = refl
  all_of_if_at (x ∷ xs) d h = both_true (h 0 (suc-le-suc zero-le)) (all_of_if_at xs d (λ i l. h (suc i) (suc-le-suc l)))

  pub some_of_at : (xs : List A) (i : ℕ) (d : A) → i < length xs → f (get_or xs i d) ≡ true → some_of f xs ≡ true
  some_of_at [] i d l e = absurd (not-suc-le-zero l)
  some_of_at (x ∷ xs) zero d l e = or_first (some_of f xs) e
  some_of_at (x ∷ xs) (suc i) d l e = or_second (f x) (some_of_at xs i d (le_of_suc-le-suc l) e)

  pub some_of_place : (xs : List A) (d : A) → some_of f xs ≡ true → (i : ℕ) × (i < length xs) × (f (get_or xs i d) ≡ true)
  some_of_place [] d e = absurd (false≢true e)
  some_of_place (x ∷ xs) d e = go (one_true (f x) (some_of f xs) e) (some_of_place xs d)
    where
      go : (f x ≡ true) ⊎ (some_of f xs ≡ true) → (some_of f xs ≡ true → (i : ℕ) × (i < length xs) × (f (get_or xs i d) ≡ true))
          → (i : ℕ) × (i < suc (length xs)) × (f (get_or (x ∷ xs) i d) ≡ true)
      go (inl p) later = (0, suc-le-suc zero-le, p)
      go (inr q) later = let w = later q in (suc w.0, suc-le-suc w.1, w.2)

  -- By element.
  pub all_of_member : {x : A} {xs : List A} → Memᴰ x xs → all_of f xs ≡ true → f x ≡ true
  all_of_member (Memᴰ.head {x = y} {xs = ys} p) e = rw p (first_true (f y) (all_of f ys) e)
  all_of_member (Memᴰ.tail {x = y} {xs = ys} m) e = all_of_member m (second_true (f y) (all_of f ys) e)

  pub all_of_if_member : (xs : List A) → ((x : A) → Memᴰ x xs → f x ≡ true) → all_of f xs ≡ true
  all_of_if_member [] h = refl
  all_of_if_member (x ∷ xs) h =
      both_true (h x (Memᴰ.head refl)) (all_of_if_member xs (λ y m. h y (Memᴰ.tail m)))

  pub some_of_member : {x : A} {xs : List A} → Memᴰ x xs → f x ≡ true → some_of f xs ≡ true
  some_of_member (Memᴰ.head {x = y} {xs = ys} p) e = or_first (some_of f ys) (rw p at e)
  some_of_member (Memᴰ.tail {x = y} {xs = ys} m) e = or_second (f y) (some_of_member m e)

  pub some_of_witness : (xs : List A) → some_of f xs ≡ true → (x : A) × Memᴰ x xs × (f x ≡ true)
  some_of_witness [] e = absurd (false≢true e)
  some_of_witness (x ∷ xs) e = go (one_true (f x) (some_of f xs) e) (some_of_witness xs)
    where
      go : (f x ≡ true) ⊎ (some_of f xs ≡ true) → (some_of f xs ≡ true → (y : A) × Memᴰ y xs × (f y ≡ true))
          → (y : A) × Memᴰ y (x ∷ xs) × (f y ≡ true)
      go (inl p) later = (x, Memᴰ.head refl, p)
      go (inr q) later = let w = later q in (w.0, Memᴰ.tail w.1, w.2)

  -- An element that passes one test passes the other.
  pub all_of_weaker : (g : A → Bool) → ((x : A) → f x ≡ true → g x ≡ true) → (xs : List A) → all_of f xs ≡ true → all_of g xs ≡ true
  all_of_weaker g h [] e = refl
  all_of_weaker g h (x ∷ xs) e =
      both_true (h x (first_true (f x) (all_of f xs) e)) (all_of_weaker g h xs (second_true (f x) (all_of f xs) e))

  pub none_of_member : {x : A} {xs : List A} → Memᴰ x xs → some_of f xs ≡ false → f x ≡ false
  none_of_member {x} m e = false_if_not_true (f x) (λ p. not_both (some_of_member m p) e)

  -- An element that passes is one of those that do.
  pub those_member : {x : A} {xs : List A} → Memᴰ x xs → f x ≡ true → Memᴰ x (those f xs)
  those_member (Memᴰ.head p) e = rw (rw p at e) (Memᴰ.head p)
  those_member (Memᴰ.tail {x = y} m) e = in_either (f y) (those_member m e)
    where
      in_either : (b : Bool) {x : A} {xs : List A} → Memᴰ x xs → Memᴰ x (cond b (y ∷ xs) xs)
      in_either true m' = Memᴰ.tail m'
      in_either false m' = m'

  pub of_those : {x : A} (xs : List A) → Memᴰ x (those f xs) → Memᴰ x xs
  of_those [] m = m
  of_those {x} (y ∷ xs) m = go (f y) m (λ (q : Memᴰ x (those f xs)). of_those xs q)
    where
      there : (Memᴰ x (those f xs) → Memᴰ x xs) → (x ≡ y) ⊎ Memᴰ x (those f xs) → Memᴰ x (y ∷ xs)
      there later (inl e) = Memᴰ.head e
      there later (inr q) = Memᴰ.tail (later q)

      go : (b : Bool) → Memᴰ x (cond b (y ∷ those f xs) (those f xs)) → (Memᴰ x (those f xs) → Memᴰ x xs)
          → Memᴰ x (y ∷ xs)
      go true q later = there later (Memᴰ.cases_cons q)
      go false q later = Memᴰ.tail (later q)

  -- No more elements pass a test than there are.
  pub those_few : (xs : List A) → length (those f xs) ≤ length xs
  those_few [] = omega arith
  those_few (x ∷ xs) = go (f x) (those_few xs)
    where
      go : (b : Bool) → length (those f xs) ≤ length xs → length (cond b (x ∷ those f xs) (those f xs)) ≤ length (x ∷ xs)
      go true h = omega arith
      go false h = omega arith

  pub those_append : (xs ys : List A) → those f (xs ++ ys) ≡ those f xs ++ those f ys
  those_append [] ys = refl
  those_append (x ∷ xs) ys = rw (those_append xs ys) (go (f x))
    where
      go : (b : Bool) → cond b (x ∷ (those f xs ++ those f ys)) (those f xs ++ those f ys) ≡ cond b (x ∷ those f xs) (those f xs) ++ those f ys
      go true = refl
      go false = refl

  pub those_pass : (xs : List A) → all_of f (those f xs) ≡ true
  those_pass [] = refl
  those_pass (x ∷ xs) = go (f x) refl (those_pass xs)
    where
      go : (b : Bool) → f x ≡ b → all_of f (those f xs) ≡ true → all_of f (cond b (x ∷ those f xs) (those f xs)) ≡ true
      go true p rest = both_true p rest
      go false p rest = rest

  -- Each of the elements made from numbered ones passes.
  pub all_of_numbered : {B : Type 0} (i : ℕ) (xs : List B) (g : ℕ → B → A) → ((j : ℕ) (x : B) → f (g j x) ≡ true)
      → all_of f (numbered i xs g) ≡ true
  all_of_numbered i [] g h = refl
  all_of_numbered i (x ∷ xs) g h = both_true (h i x) (all_of_numbered (suc i) xs g h)

  pub all_of_map : {B : Type 0} (g : B → A) (xs : List B) → all_of f (map g xs) ≡ all_of (λ x. f (g x)) xs
  all_of_map g [] = refl
  all_of_map g (x ∷ xs) = rw (all_of_map g xs)

  pub some_of_map : {B : Type 0} (g : B → A) (xs : List B) → some_of f (map g xs) ≡ some_of (λ x. f (g x)) xs
  some_of_map g [] = refl
  some_of_map g (x ∷ xs) = rw (some_of_map g xs)

  pub all_of_each : {B : Type 0} (g : B → A) (xs : List B) → ((x : B) → f (g x) ≡ true) → all_of f (map g xs) ≡ true
  all_of_each g [] h = refl
  all_of_each g (x ∷ xs) h = both_true (h x) (all_of_each g xs h)
