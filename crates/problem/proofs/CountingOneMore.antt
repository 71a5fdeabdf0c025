-- What is counted in a list, one element after the other. Assumes nothing.
use mathlib.Core.Path.{◌≡◌, refl, sym, ◌∙◌, ap}
use mathlib.Core.Bool.{Bool, true, false, cond}
use mathlib.Core.List.{List, [], ◌∷◌, ◌++◌}
use Prim.Native.Nat.{ℕ, ◌+◌, ◌≤◌, ◌<◌}
use native.Mathlib.Numerals.{add-one}
use native.Mathlib.Omega.{arith}
use mir.Val.{bool_byte}
use lib.ListN.{length, length-append, length-take, get_or, take}
use lib.Seq.{take-suc, take_all}
use Rattle.answers.specs.Lists.{those}
use Rattle.answers.proofs.Tests.{those_few, those_append}

as_number : (b : Bool) → bool_byte b ≡ cond b 1 0
as_number true = refl
as_number false = refl

module _ {A : Type 0} (t : A → Bool) where
  -- One element more.
  pub those_more : (xs : List A) (x : A) → length (those t (xs ++ (x ∷ []))) ≡ length (those t xs) + cond (t x) 1 0
  those_more xs x = ap length (those_append t xs (x ∷ [])) ∙ length-append (those t xs) (those t (x ∷ [])) ∙ go (t x)
    where
      go : (b : Bool) → length (those t xs) + length (cond b (x ∷ []) []) ≡ length (those t xs) + cond b 1 0
      go true = refl
      go false = refl

  -- Among the first i of a list: at most i, one element more, and in the end all.
  module _ (xs : List A) (i : ℕ) where
    pub few_taken : length (those t (take i xs)) ≤ i
    few_taken = omega (arith, those_few t (take i xs), length-take i xs)

    pub taken_more : (d : A) → i < length xs → length (those t (take (i + 1) xs)) ≡ length (those t (take i xs)) + cond (t (get_or xs i d)) 1 0
    taken_more d l = rw (add-one, take-suc xs i d l) (those_more (take i xs) (get_or xs i d))

    -- .. by the number that a test is as.
    pub taken_by : (d : A) → i < length xs → {n m : ℕ} {b : Bool} → n ≡ length (those t (take i xs)) → m ≡ bool_byte b → b ≡ t (get_or xs i d)
        → n + m ≡ length (those t (take (i + 1) xs))
    taken_by d l {b} e f g = rw (e, f, as_number b, g) (sym (taken_more d l))

    pub taken_all : length xs ≤ i → length (those t (take i xs)) ≡ length (those t xs)
    taken_all l = rw (take_all i xs l)

pub ruleset counting = (few_taken, taken_more, taken_all)
