-- Laws of numbers and of words: a number is read as it was printed, only what is printed is a number, and no byte of it parts words.
-- Assumes nothing.
use mathlib.Core.Path.{◌≡◌, refl, sym, ◌∙◌, ap}
use mathlib.Core.Bool.{Bool, true, false, not, false≢true}
use mathlib.Core.List.{List, [], ◌∷◌, ◌++◌}
use Prim.Native.Nat.{ℕ, zero, suc, ◌+◌, ◌*◌, ◌-◌, ◌/◌, ◌%◌, ◌≤◌, ◌<◌}
use native.Mathlib.Omega.{arith}
use borrow.Author.Tests.{ltb-true, ltb-false, leb-true, le-leb, eqb-true, ne_eqb, not-true}
use lib.Dec.{leb, ltb, eqb}
use Rattle.answers.specs.Lists.{all_of, empty}
use Rattle.answers.proofs.Tests.{both_true, first_true, second_true, eqb_self, all_of_append, all_of_weaker}
use Rattle.text.specs.Numbers.{digit, decimal, value_after, value, same, is_number}
use Rattle.answers.specs.Limits.{largest_number}
use Rattle.text.specs.Readings.{parts, word_of, past_word}
use Rattle.text.specs.Promise.{is_digit}
use Rattle.text.proofs.Decimals.{decimal_one, decimal_more}

-- ════════ The same bytes ════════

pub same_self : (xs : List ℕ) → same xs xs ≡ true
same_self [] = refl
same_self (x ∷ xs) = both_true (eqb_self x) (same_self xs)

pub same_true : (xs ys : List ℕ) → same xs ys ≡ true → xs ≡ ys
same_true [] [] e = refl
same_true [] (y ∷ ys) e = absurd (false≢true e)
same_true (x ∷ xs) [] e = absurd (false≢true e)
same_true (x ∷ xs) (y ∷ ys) e =
    let head : x ≡ y = eqb-true x y (first_true (eqb x y) (same xs ys) e) in
    let tail : xs ≡ ys = same_true xs ys (second_true (eqb x y) (same xs ys) e) in
    cc

-- ════════ By the last byte ════════

pub value_after_more : (n : ℕ) (w : List ℕ) (b : ℕ) → value_after n (w ++ (b ∷ [])) ≡ 10 * value_after n w + (b - 48)
value_after_more n [] b = refl
value_after_more n (c ∷ w) b = value_after_more (10 * n + (c - 48)) w b

pub value_more : (w : List ℕ) (b : ℕ) → value (w ++ (b ∷ [])) ≡ 10 * value w + (b - 48)
value_more w b = value_after_more 0 w b

pub not_empty_more : (w : List ℕ) (b : ℕ) → empty (w ++ (b ∷ [])) ≡ false
not_empty_more [] b = refl
not_empty_more (c ∷ w) b = refl

-- ════════ A number as it is printed ════════

pub is_digit_digit : (d : ℕ) → d < 10 → is_digit (digit d) ≡ true
is_digit_digit d h = both_true (le-leb 48 (48 + d) (omega arith)) (le-leb (48 + d) 57 (omega arith))

-- What holds of one digit, and of a number where it holds of what stands before its last digit, holds of every number.
pub by_last_digit : (P : ℕ → Type 0) → ((n : ℕ) → n < 10 → P n) → ((n : ℕ) → 10 ≤ n → P (n / 10) → P n) → (n : ℕ) → P n
by_last_digit P one more n = within n n (omega arith)
  where
    within : (m k : ℕ) → k ≤ m → P k
    within zero k h = one k (omega arith)
    within (suc m) k h = go (ltb k 10) refl (within m (k / 10))
      where
        go : (b : Bool) → ltb k 10 ≡ b → (k / 10 ≤ m → P (k / 10)) → P k
        go true e below = one k (ltb-true k 10 e)
        go false e below = let large : 10 ≤ k = ltb-false k 10 e in more k large (below (omega arith))

pub decimal_value : (n : ℕ) → value (decimal n) ≡ n
decimal_value = by_last_digit (λ n. value (decimal n) ≡ n) one more
  where
    one : (n : ℕ) → n < 10 → value (decimal n) ≡ n
    one n h = rw (decimal_one n h) (omega arith)

    more : (n : ℕ) → 10 ≤ n → value (decimal (n / 10)) ≡ n / 10 → value (decimal n) ≡ n
    more n h e = rw (decimal_more n h, value_more (decimal (n / 10)) (digit (n % 10)), e) (omega arith)

pub decimal_digits : (n : ℕ) → all_of is_digit (decimal n) ≡ true
decimal_digits = by_last_digit (λ n. all_of is_digit (decimal n) ≡ true) one more
  where
    one : (n : ℕ) → n < 10 → all_of is_digit (decimal n) ≡ true
    one n h = rw (decimal_one n h) (both_true (is_digit_digit n h) refl)

    more : (n : ℕ) → 10 ≤ n → all_of is_digit (decimal (n / 10)) ≡ true → all_of is_digit (decimal n) ≡ true
    more n h e =
        rw (decimal_more n h, all_of_append is_digit (decimal (n / 10)) (digit (n % 10) ∷ []))
        (both_true e (both_true (is_digit_digit (n % 10) (omega arith)) refl))

pub decimal_not_empty : (n : ℕ) → empty (decimal n) ≡ false
decimal_not_empty = by_last_digit (λ n. empty (decimal n) ≡ false) one more
  where
    one : (n : ℕ) → n < 10 → empty (decimal n) ≡ false
    one n h = rw (decimal_one n h)

    more : (n : ℕ) → 10 ≤ n → empty (decimal (n / 10)) ≡ false → empty (decimal n) ≡ false
    more n h e = rw (decimal_more n h) (not_empty_more (decimal (n / 10)) (digit (n % 10)))

-- ════════ Which words are numbers ════════

pub decimal_is_number : (n : ℕ) → n ≤ largest_number → is_number (decimal n) ≡ true
unfolding is_number
decimal_is_number n h = rw (decimal_value n) (both_true (same_self (decimal n)) (le-leb n largest_number h))

pub number_printed : (w : List ℕ) → is_number w ≡ true → w ≡ decimal (value w)
unfolding is_number
number_printed w e =
    same_true w (decimal (value w)) (first_true (same w (decimal (value w))) (leb (value w) largest_number) e)

pub number_within : (w : List ℕ) → is_number w ≡ true → value w ≤ largest_number
unfolding is_number
number_within w e =
    leb-true (value w) largest_number (second_true (same w (decimal (value w))) (leb (value w) largest_number) e)

pub none_is_no_number : is_number [] ≡ false
unfolding is_number decimal
none_is_no_number = refl

pub number_not_empty : (w : List ℕ) → is_number w ≡ true → empty w ≡ false
number_not_empty w e = rw (number_printed w e) (decimal_not_empty (value w))

-- ════════ Words ════════

-- No byte parts words.
abbrev pub one_word : List ℕ → Bool
one_word = all_of (λ b. not (parts b))

pub digit_parts_not : (b : ℕ) → is_digit b ≡ true → not (parts b) ≡ true
digit_parts_not b e =
    let low : 48 ≤ b = leb-true 48 b (first_true (leb 48 b) (leb b 57) e) in
    rw (ne_eqb b 32 (λ q. omega arith), ne_eqb b 10 (λ q. omega arith))

pub decimal_one_word : (n : ℕ) → one_word (decimal n) ≡ true
decimal_one_word n =
    all_of_weaker is_digit (λ b. not (parts b)) digit_parts_not (decimal n) (decimal_digits n)

pub word_and_past : (t : List ℕ) → word_of t ++ past_word t ≡ t
word_and_past [] = refl
word_and_past (b ∷ t) = go (parts b) refl (word_and_past t)
  where
    go : (p : Bool) → parts b ≡ p → word_of t ++ past_word t ≡ t → word_of (b ∷ t) ++ past_word (b ∷ t) ≡ b ∷ t
    go true e below = rw e
    go false e below = rw e (ap (λ (l : List ℕ). b ∷ l) below)

-- A word comes back from before anything that begins with no word: nothing, a space, a newline.
module _ (rest : List ℕ) (ends : word_of rest ≡ []) where
  pub past_none : past_word rest ≡ rest
  past_none = ap (λ (l : List ℕ). l ++ past_word rest) (sym ends) ∙ word_and_past rest

  pub word_of_joined : (w : List ℕ) → one_word w ≡ true → word_of (w ++ rest) ≡ w
  word_of_joined [] e = ends
  word_of_joined (b ∷ w) e =
      rw (not-true (parts b) (first_true (not (parts b)) (one_word w) e))
      (ap (λ (l : List ℕ). b ∷ l) (word_of_joined w (second_true (not (parts b)) (one_word w) e)))

  pub past_joined : (w : List ℕ) → one_word w ≡ true → past_word (w ++ rest) ≡ rest
  past_joined [] e = past_none
  past_joined (b ∷ w) e =
      rw (not-true (parts b) (first_true (not (parts b)) (one_word w) e))
      (past_joined w (second_true (not (parts b)) (one_word w) e))

  pub word_of_decimal : (n : ℕ) → word_of (decimal n ++ rest) ≡ decimal n
  word_of_decimal n = word_of_joined (decimal n) (decimal_one_word n)

  pub past_decimal : (n : ℕ) → past_word (decimal n ++ rest) ≡ rest
  past_decimal n = past_joined (decimal n) (decimal_one_word n)

-- A word has no byte that parts words.
pub word_is_one_word : (t : List ℕ) → one_word (word_of t) ≡ true
word_is_one_word [] = refl
word_is_one_word (b ∷ t) = go (parts b) refl (word_is_one_word t)
  where
    go : (p : Bool) → parts b ≡ p → one_word (word_of t) ≡ true → one_word (word_of (b ∷ t)) ≡ true
    go true e below = rw e
    go false e below = rw (e, e) below
