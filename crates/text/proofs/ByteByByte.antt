-- Reading a word byte by byte, from its state on, is reading it whole, wherever it is cut. Assumes nothing.
use mathlib.Core.Path.{◌≡◌, refl, sym, ◌∙◌, ap}
use mathlib.Core.Bool.{Bool, true, false, not, ◌&&◌}
use mathlib.Core.List.{List, [], ◌∷◌, ◌++◌, append-nil, append_assoc}
use Prim.Native.Nat.{ℕ, suc, ◌+◌, ◌*◌, ◌-◌, ◌/◌, ◌%◌, ◌≤◌, ◌<◌}
use native.Mathlib.Omega.{arith}
use borrow.Author.Tests.{ltb-true, ltb-false, lt-ltb, leb-true, le-leb, eqb-false, ne_eqb, not-true}
use lib.Dec.{leb, ltb, eqb}
use Rattle.answers.specs.Lists.{empty}
use Rattle.answers.proofs.Tests.{first_true, second_true, false_if_not_true, not_both}
use Rattle.text.specs.Numbers.{digit, decimal, value, is_number}
use Rattle.answers.specs.Limits.{largest_number}
use Rattle.text.specs.Promise.{no_number, scanned, is_digit, longer, state_after}
use Rattle.text.proofs.Decimals.{decimal_one, decimal_more}
use Rattle.text.proofs.NumberLaws.{decimal_is_number, number_printed, number_within, not_empty_more}
use Rattle.text.proofs.StateLaws.{Scanned, as_none, as_number, as_other, scanned_none, scanned_number, scanned_other, scanned_decimal, scanned_as}

-- ════════ One more byte ════════

-- A byte makes a longer number of a state.
pub record GoesOn (s b : ℕ) : Type 0 where
  pub low : 48 ≤ b
  pub high : b ≤ 57
  pub not_zero : s ≡ 1 → ⊥
  pub below : s < no_number
  pub fits : longer s b ≤ largest_number

pub after_number : (s b : ℕ) → GoesOn s b → state_after s b ≡ suc (longer s b)
unfolding state_after
after_number s b g =
    rw (le-leb 48 b g.low, le-leb b 57 g.high, ne_eqb s 1 g.not_zero, lt-ltb s no_number g.below, le-leb (longer s b) largest_number g.fits)

pub after_other : (s b : ℕ) → (GoesOn s b → ⊥) → state_after s b ≡ no_number
unfolding state_after
after_other s b h = rw (false_if_not_true test (λ t. h (goes_on t)))
  where
    test : Bool
    test = is_digit b && not (eqb s 1) && ltb s no_number && leb (longer s b) largest_number

    goes_on : test ≡ true → GoesOn s b
    goes_on t =
        let t3 = first_true (is_digit b && not (eqb s 1) && ltb s no_number) (leb (longer s b) largest_number) t in
        let t2 = first_true (is_digit b && not (eqb s 1)) (ltb s no_number) t3 in
        let t1 = first_true (is_digit b) (not (eqb s 1)) t2 in
        record {
          low = leb-true 48 b (first_true (leb 48 b) (leb b 57) t1);
          high = leb-true b 57 (second_true (leb 48 b) (leb b 57) t1);
          not_zero = eqb-false s 1 (not-true (eqb s 1) (second_true (is_digit b) (not (eqb s 1)) t2));
          below = ltb-true s no_number (second_true (is_digit b && not (eqb s 1)) (ltb s no_number) t3);
          fits =
              leb-true (longer s b) largest_number
              (second_true (is_digit b && not (eqb s 1) && ltb s no_number) (leb (longer s b) largest_number) t);
        }

-- Two words with a last byte each are the same by their parts.
more_same : (v w : List ℕ) (a b : ℕ) → v ++ (a ∷ []) ≡ w ++ (b ∷ []) → (v ≡ w) × (a ≡ b)
more_same [] [] a b e = (refl, (cc))
more_same [] (y ∷ w) a b e =
    let tail : [] ≡ w ++ (b ∷ []) = cc in absurd (not_both (sym (ap empty tail)) (not_empty_more w b))
more_same (x ∷ v) [] a b e =
    let tail : [] ≡ v ++ (a ∷ []) = cc in absurd (not_both (sym (ap empty tail)) (not_empty_more v a))
more_same (x ∷ v) (y ∷ w) a b e =
    let tail : v ++ (a ∷ []) ≡ w ++ (b ∷ []) = cc in
    let below = more_same v w a b tail in
    let head : x ≡ y = cc in
    let front : v ≡ w = below.0 in
    ((cc), below.1)

-- A number with one more digit.
number_more : (n b : ℕ) → 1 ≤ n → 48 ≤ b → b ≤ 57 → decimal (10 * n + (b - 48)) ≡ decimal n ++ (b ∷ [])
number_more n b h low high =
    let m = 10 * n + (b - 48) in
    let front : m / 10 ≡ n = omega arith in
    let last : digit (m % 10) ≡ b = omega arith in
    decimal_more m (omega arith) ∙ rw (front, last)

-- A digit alone.
number_alone : (b : ℕ) → 48 ≤ b → b ≤ 57 → decimal (b - 48) ≡ b ∷ []
number_alone b low high = let last : digit (b - 48) ≡ b = omega arith in decimal_one (b - 48) (omega arith) ∙ rw last

-- A number whose last byte is b: a digit that stands alone, or after a number other than 0.
module _ (w : List ℕ) (b m : ℕ) (within : m ≤ largest_number) (e : w ++ (b ∷ []) ≡ decimal m) where
  more_one : m < 10 → state_after (scanned w) b ≡ suc m
  more_one h =
      let parted : (w ≡ []) × (b ≡ digit m) = more_same w [] b (digit m) (e ∙ decimal_one m h) in
      let last : b ≡ 48 + m = parted.1 in
      let none : scanned w ≡ 0 = ap scanned parted.0 ∙ scanned_none in
      let g : GoesOn (scanned w) b =
      record { low = omega arith; high = omega arith; not_zero = λ q. omega arith; below = omega arith; fits = omega arith } in
      after_number (scanned w) b g ∙ omega arith

  more_more : 10 ≤ m → state_after (scanned w) b ≡ suc m
  more_more h =
      let parted : (w ≡ decimal (m / 10)) × (b ≡ digit (m % 10)) = more_same w (decimal (m / 10)) b (digit (m % 10)) (e ∙ decimal_more m h) in
      let last : b ≡ 48 + m % 10 = parted.1 in
      let front : scanned w ≡ suc (m / 10) = ap scanned parted.0 ∙ scanned_decimal (m / 10) (omega arith) in
      let g : GoesOn (scanned w) b =
      record { low = omega arith; high = omega arith; not_zero = λ q. omega arith; below = omega arith; fits = omega arith } in
      after_number (scanned w) b g ∙ omega arith

  more_is : state_after (scanned w) b ≡ suc m
  more_is = go (ltb m 10) refl
    where
      go : (t : Bool) → ltb m 10 ≡ t → state_after (scanned w) b ≡ suc m
      go true q = more_one (ltb-true m 10 q)
      go false q = more_more (ltb-false m 10 q)

-- Where the state goes on, the longer word is a number.
goes_on_number : (w : List ℕ) (b : ℕ) → GoesOn (scanned w) b → is_number (w ++ (b ∷ [])) ≡ true
goes_on_number w b g = go (scanned_as w)
  where
    go : Scanned w → is_number (w ++ (b ∷ [])) ≡ true
    go (as_none e z n) =
        rw (e, ← number_alone b g.low g.high) (decimal_is_number (b - 48) (omega arith))
    go (as_number n l z) =
        let some : value w ≡ 0 → ⊥ = λ q. g.not_zero (omega arith) in
        rw (number_printed w n, ← number_more (value w) b (omega arith) g.low g.high)
        (decimal_is_number (10 * value w + (b - 48)) (omega arith))
    go (as_other n z) = absurd (omega arith)

pub scanned_more : (w : List ℕ) (b : ℕ) → scanned (w ++ (b ∷ [])) ≡ state_after (scanned w) b
scanned_more w b = go (is_number v) refl
  where
    v : List ℕ
    v = w ++ (b ∷ [])

    go : (t : Bool) → is_number v ≡ t → scanned v ≡ state_after (scanned w) b
    go true e = scanned_number v e ∙ sym (more_is w b (value v) (number_within v e) (number_printed v e))
    go false e =
        scanned_other v (not_empty_more w b) e
        ∙ sym (after_other (scanned w) b (λ g. not_both (goes_on_number w b g) e))

-- ════════ A word in pieces ════════

-- The state after further bytes.
abbrev pub states_after : ℕ → List ℕ → ℕ
states_after s [] = s
states_after s (b ∷ bs) = states_after (state_after s b) bs

-- A word may be cut anywhere.
pub scanned_from : (v w : List ℕ) → scanned (v ++ w) ≡ states_after (scanned v) w
scanned_from v [] = ap scanned (append-nil v)
scanned_from v (b ∷ w) =
    ap scanned (sym (append_assoc v (b ∷ []) w))
    ∙ scanned_from (v ++ (b ∷ [])) w
    ∙ ap (λ (s : ℕ). states_after s w) (scanned_more v b)

pub states_after_append : (s : ℕ) (v w : List ℕ) → states_after s (v ++ w) ≡ states_after (states_after s v) w
states_after_append s [] w = refl
states_after_append s (b ∷ v) w = states_after_append (state_after s b) v w
