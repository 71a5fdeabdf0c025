-- Laws of decimal digits. Assumes nothing.
use mathlib.Core.Path.{◌≡◌, refl, sym, ◌∙◌, ap}
use mathlib.Core.Bool.{Bool, true, false}
use mathlib.Core.List.{List, [], ◌∷◌, ◌++◌}
use Prim.Native.Nat.{ℕ, zero, suc, ◌+◌, ◌*◌, ◌/◌, ◌%◌, ◌^◌, ◌≤◌, ◌<◌}
use native.Mathlib.Nat.{pow-suc, one-le-pow}
use native.Mathlib.Omega.{arith}
use borrow.Author.Tests.{lt-ltb, le-ltb, ltb-true, ltb-false, leb-true, leb-false}
use lib.Dec.{leb, ltb}
use lib.ListN.{length, length-append}
use Rattle.std.proofs.Common.{⊎_elim}
use Rattle.std.proofs.lemmas.Bool.{cases_lt}
use Rattle.std.specs.Int.{from_bool}
use Rattle.text.specs.Numbers.{digit, digits_within, decimal}

-- ════════ By the last digit ════════

within_one : (m n : ℕ) → n < 10 → digits_within (suc m) n ≡ digit n ∷ []
within_one m n h = rw (lt-ltb n 10 h, digits_within)

within_more : (m n : ℕ) → 10 ≤ n → digits_within (suc m) n ≡ digits_within m (n / 10) ++ (digit (n % 10) ∷ [])
within_more m n h = rw (le-ltb n 10 h, digits_within)

-- As many digits as the number are enough, and more give the same.
within_enough : (m k n : ℕ) → n ≤ m → n ≤ k → digits_within m n ≡ digits_within k n
within_enough zero zero n h l = refl
within_enough zero (suc k) n h l = let e : n ≡ 0 = omega arith in rw e
within_enough (suc m) zero n h l = let e : n ≡ 0 = omega arith in rw e
within_enough (suc m) (suc k) n h l = go (ltb n 10) refl (within_enough m k (n / 10))
  where
    go : (b : Bool) → ltb n 10 ≡ b → (n / 10 ≤ m → n / 10 ≤ k → digits_within m (n / 10) ≡ digits_within k (n / 10))
        → digits_within (suc m) n ≡ digits_within (suc k) n
    go true e below = within_one m n (ltb-true n 10 e) ∙ sym (within_one k n (ltb-true n 10 e))
    go false e below =
        let large : 10 ≤ n = ltb-false n 10 e in
        within_more m n large
        ∙ ap (λ (ds : List ℕ). ds ++ (digit (n % 10) ∷ [])) (below (omega arith) (omega arith))
        ∙ sym (within_more k n large)

pub decimal_one : (n : ℕ) → n < 10 → decimal n ≡ digit n ∷ []
unfolding decimal
decimal_one zero h = refl
decimal_one (suc n) h = within_one n (suc n) h

pub decimal_more : (n : ℕ) → 10 ≤ n → decimal n ≡ decimal (n / 10) ++ (digit (n % 10) ∷ [])
unfolding decimal
decimal_more zero h = absurd (omega arith)
decimal_more (suc n) h =
    within_more n (suc n) h
    ∙ ap (λ (ds : List ℕ). ds ++ (digit (suc n % 10) ∷ [])) (within_enough n (suc n / 10) (suc n / 10) (omega arith) (omega arith))

-- ════════ How many ════════

pub length_one : (n : ℕ) → n < 10 → length (decimal n) ≡ 1
length_one n h = rw (decimal_one n h)

pub length_more : (n : ℕ) → 10 ≤ n → length (decimal n) ≡ length (decimal (n / 10)) + 1
length_more n h = rw (decimal_more n h, length-append)

pub some_digit : (n : ℕ) → 0 < length (decimal n)
some_digit n = ⊎_elim (λ l. omega (arith, length_one n l)) (λ l. omega (arith, length_more n l)) (cases_lt n 10)

pub digit_if_one : (n : ℕ) → length (decimal n) ≤ 1 → n < 10
digit_if_one n h = ⊎_elim (λ l. l) (λ l. absurd (omega (arith, length_more n l, some_digit (n / 10)))) (cases_lt n 10)

pub large_if_more : (n : ℕ) → 1 < length (decimal n) → 10 ≤ n
large_if_more n h = ⊎_elim (λ l. absurd (omega (arith, length_one n l))) (λ l. l) (cases_lt n 10)

-- Below 10,000 by three tests.
pub length_few : (n : ℕ) → n < 10_000 → length (decimal n) ≡ 1 + from_bool (leb 10 n) + from_bool (leb 100 n) + from_bool (leb 1_000 n)
length_few n h = go (leb 10 n) (leb 100 n) (leb 1_000 n) refl refl refl
  where
    go : (a b c : Bool) → leb 10 n ≡ a → leb 100 n ≡ b → leb 1_000 n ≡ c → length (decimal n) ≡ 1 + from_bool a + from_bool b + from_bool c
    go true true true e f g =
        let l = leb-true 1_000 n g in
        omega (arith, length_more n (omega arith), length_more (n / 10) (omega arith), length_more (n / 10 / 10) (omega arith), length_one (n / 10 / 10 / 10) (omega arith))
    go true true false e f g =
        let l = leb-true 100 n f in
        let m = leb-false 1_000 n g in
        omega (arith, length_more n (omega arith), length_more (n / 10) (omega arith), length_one (n / 10 / 10) (omega arith))
    go true false false e f g =
        let l = leb-true 10 n e in
        let m = leb-false 100 n f in
        omega (arith, length_more n (omega arith), length_one (n / 10) (omega arith))
    go false false false e f g = let m = leb-false 10 n e in omega (arith, length_one n (omega arith))
    go false true c e f g = absurd (omega (arith, leb-false 10 n e, leb-true 100 n f))
    go false false true e f g = absurd (omega (arith, leb-false 10 n e, leb-true 1_000 n g))
    go true false true e f g = absurd (omega (arith, leb-false 100 n f, leb-true 1_000 n g))

pub length_within : (k n : ℕ) → n < 10 ^ suc k → length (decimal n) ≤ suc k
length_within zero n h = omega (arith, length_one n h)
length_within (suc k) n h = go (ltb n 10) refl (length_within k (n / 10) (omega (arith, pow-suc 10 (suc k))))
  where
    go : (b : Bool) → ltb n 10 ≡ b → length (decimal (n / 10)) ≤ suc k → length (decimal n) ≤ suc (suc k)
    go true e below = omega (arith, length_one n (ltb-true n 10 e))
    go false e below = omega (arith, length_more n (ltb-false n 10 e))

-- By the power of ten below it.
pub length_by_power : (k n : ℕ) → 10 ^ k ≤ n → n < 10 * 10 ^ k → length (decimal n) ≡ k + 1
length_by_power zero n l h = omega (arith, length_one n (omega arith))
length_by_power (suc k) n l h =
    let power = pow-suc 10 k in
    let some : 1 ≤ 10 ^ k = one-le-pow k 10 (omega arith) in
    omega (arith, length_more n (omega arith), length_by_power k (n / 10) (omega arith) (omega arith))
