-- Lists that the other definitions are written with. Assumes nothing.
use Rattle.std.specs.Prelude.{Bool, true, false, ◌&&◌, ◌||◌, cond, List, [], ◌∷◌, ◌++◌, ℕ, zero, suc, ◌+◌, drop, length}

-- The n numbers from i on: i, i + 1, ..
abbrev pub numbers : ℕ → ℕ → List ℕ
numbers i zero = []
numbers i (suc n) = i ∷ numbers (suc i) n

abbrev pub sum : List ℕ → ℕ
sum [] = 0
sum (n ∷ ns) = n + sum ns

module _ {A : Type 0} where
  -- For each element, in order, its list.
  abbrev pub each : {B : Type 0} → List A → (A → List B) → List B
  each [] f = []
  each (x ∷ xs) f = f x ++ each xs f

  -- Lists one after the other.
  abbrev pub joined : List (List A) → List A
  joined [] = []
  joined (xs ∷ xss) = xs ++ joined xss

  -- Each element with its number, counted from i.
  abbrev pub numbered : {B : Type 0} → ℕ → List A → (ℕ → A → B) → List B
  numbered i [] f = []
  numbered i (x ∷ xs) f = f i x ∷ numbered (suc i) xs f

  abbrev pub some_of : (A → Bool) → List A → Bool
  some_of f [] = false
  some_of f (x ∷ xs) = f x || some_of f xs

  abbrev pub all_of : (A → Bool) → List A → Bool
  all_of f [] = true
  all_of f (x ∷ xs) = f x && all_of f xs

  -- The elements that pass a test.
  abbrev pub those : (A → Bool) → List A → List A
  those f [] = []
  those f (x ∷ xs) = cond (f x) (x ∷ those f xs) (those f xs)

  abbrev pub empty : List A → Bool
  empty [] = true
  empty (x ∷ xs) = false

  -- A lent buffer whose first words are written; what stands past them stays.
  abbrev pub written : List A → List A → List A
  written new old = new ++ drop (length new) old
