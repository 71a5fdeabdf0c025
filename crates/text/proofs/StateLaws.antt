-- Laws of the state of a word: what it says of the word, and which tests of it are tests of the word's number. Assumes nothing.
use mathlib.Core.Path.{◌≡◌, refl, sym, ◌∙◌, ap}
use mathlib.Core.Bool.{Bool, true, false}
use mathlib.Core.List.{List, [], ◌∷◌}
use Prim.Native.Nat.{ℕ, suc, ◌+◌, ◌≤◌, ◌<◌}
use native.Mathlib.Omega.{arith}
use Rattle.answers.specs.Lists.{empty}
use Rattle.text.specs.Numbers.{decimal, value, is_number}
use Rattle.answers.specs.Limits.{largest_number}
use Rattle.text.specs.Promise.{no_number, scanned}
use Rattle.text.proofs.NumberLaws.{none_is_no_number, decimal_value, decimal_is_number, number_within, number_not_empty}

-- ════════ What a state says ════════

pub scanned_none : scanned [] ≡ 0
unfolding scanned
scanned_none = refl

pub scanned_number : (w : List ℕ) → is_number w ≡ true → scanned w ≡ suc (value w)
unfolding scanned
scanned_number w e = rw (number_not_empty w e, e)

pub scanned_other : (w : List ℕ) → empty w ≡ false → is_number w ≡ false → scanned w ≡ no_number
unfolding scanned
scanned_other w some e = rw (some, e)

pub scanned_decimal : (n : ℕ) → n ≤ largest_number → scanned (decimal n) ≡ suc n
scanned_decimal n h = scanned_number (decimal n) (decimal_is_number n h) ∙ ap suc (decimal_value n)

-- The three kinds of words, with their states.
pub data Scanned (w : List ℕ) : Type 0 where
  as_none : w ≡ [] → scanned w ≡ 0 → is_number w ≡ false → Scanned w
  as_number : is_number w ≡ true → value w ≤ largest_number → scanned w ≡ suc (value w) → Scanned w
  as_other : is_number w ≡ false → scanned w ≡ no_number → Scanned w

pub scanned_as : (w : List ℕ) → Scanned w
scanned_as [] = as_none refl scanned_none none_is_no_number
scanned_as (b ∷ w) = go (is_number (b ∷ w)) refl
  where
    go : (t : Bool) → is_number (b ∷ w) ≡ t → Scanned (b ∷ w)
    go true e = as_number e (number_within (b ∷ w) e) (scanned_number (b ∷ w) e)
    go false e = as_other e (scanned_other (b ∷ w) refl e)

-- A state below the last, other than the first, is one more than the word's number.
pub scanned_suc : (w : List ℕ) (n : ℕ) → scanned w ≡ suc n → n + 1 < no_number → (is_number w ≡ true) × (value w ≡ n)
scanned_suc w n s h = go (scanned_as w)
  where
    go : Scanned w → (is_number w ≡ true) × (value w ≡ n)
    go (as_none e z m) = absurd (omega arith)
    go (as_number m l z) = (m, omega arith)
    go (as_other m z) = absurd (omega arith)

-- ════════ Tests of a state ════════

same_tests : {a b : Bool} → (a ≡ true → b ≡ true) → (b ≡ true → a ≡ true) → a ≡ b
same_tests {a = true} {b = true} p q = refl
same_tests {a = true} {b = false} p q = sym (p refl)
same_tests {a = false} {b = true} p q = q refl
same_tests {a = false} {b = false} p q = refl
