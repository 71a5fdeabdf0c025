-- The runs by their numbers are, in this order, the bit strings that meet the resets. Assumes nothing.
use mathlib.Core.Path.{◌≡◌, refl, sym, ◌∙◌, ap, ap₂}
use mathlib.Core.Bool.{Bool, true, false, ◌&&◌, cond}
use mathlib.Core.List.{List, [], ◌∷◌, ◌++◌, map, map-map, map-append, append-nil}
use Prim.Native.Nat.{ℕ, zero, suc, ◌+◌, ◌*◌, ◌^◌, ◌≤◌, ◌<◌, zero-le, suc-le-suc}
use native.Mathlib.Nat.{zero-add, add-zero, add-suc, mul_assoc, one-mul, pow-succ', two-pow-succ, one-le-pow, div-eq_of_lt, add-div_left, mul-add-div_right, mul-add-mod_self_right}
use native.Mathlib.Omega.{arith}
use lib.Dec.{eqb}
use lib.ListN.{length, get_or, replicate}
use Rattle.answers.specs.Lists.{numbers, those}
use Rattle.answers.proofs.Tests.{those_append}
use Rattle.meaning.specs.Problem.{Problem, Latch}
use Rattle.meaning.specs.Proper.{Proper}
use Rattle.meaning.specs.Runs.{meets_reset}
use Rattle.meaning.specs.Witnesses.{all_bits}
use Rattle.finder.specs.Calls.{is_free, open_bytes}
use Rattle.meaning.proofs.Numbers.{numbers_append}
use Rattle.pairing.proofs.BlocksOfOneLength.{map_numbers_same}
use Rattle.finder.specs.Runs.{resets, slots, free_in, digit, bytes_by}
use Rattle.finder.proofs.Digits.{free_in_joined, free_in_inputs}

-- Each byte meets its reset.
abbrev pub meets : List ℕ → List ℕ → Bool
meets [] bs = true
meets (r ∷ rs) [] = true
meets (r ∷ rs) (b ∷ bs) = meets_reset r (eqb b 1) && meets rs bs

-- ════════ Those of a list ════════

pub those_map : {A B : Type 0} (f : B → Bool) (g : A → B) (xs : List A) → those f (map g xs) ≡ map g (those (λ x. f (g x)) xs)
those_map f g [] = refl
those_map {A} {B} f g (x ∷ xs) = rw (those_map f g xs) (go (f (g x)) (those (λ y. f (g y)) xs))
  where
    go : (b : Bool) (ys : List A) → cond b (g x ∷ map g ys) (map g ys) ≡ map g (cond b (x ∷ ys) ys)
    go true ys = refl
    go false ys = refl

those_nothing : {A : Type 0} (xs : List A) → those (λ x. false) xs ≡ []
those_nothing [] = refl
those_nothing (x ∷ xs) = those_nothing xs

-- Numbers counted from 0.
map_shifted : {A : Type 0} (f : ℕ → A) (h i n : ℕ) → map f (numbers (h + i) n) ≡ map (λ m. f (h + m)) (numbers i n)
map_shifted f h i zero = refl
map_shifted f h i (suc n) = rw (← add-suc h i) (ap (λ l. f (h + i) ∷ l) (map_shifted f h (suc i) n))

-- ════════ The digits of both halves ════════

power_some : (j : ℕ) → 0 < 2 ^ j
power_some j = one-le-pow j 2 (omega arith)

digit_first_half : (m j : ℕ) → m < 2 ^ j → digit m j ≡ 0
digit_first_half m j l = rw (div-eq_of_lt l)

digit_second_half : (m j : ℕ) → m < 2 ^ j → digit (2 ^ j + m) j ≡ 1
digit_second_half m j l = rw (add-div_left m (power_some j), div-eq_of_lt l)

twice : (q j : ℕ) → q * 2 ^ suc j ≡ q * 2 * 2 ^ j
twice q j = rw (pow-succ', mul_assoc)

-- What is added above a digit does not change it.
digit_past : (q m j : ℕ) → digit (q * 2 ^ suc j + m) j ≡ digit m j
digit_past q m j = rw (twice q j, mul-add-div_right (power_some j) (q * 2) m, mul-add-mod_self_right)

-- Nor does what is added above all the free bytes' digits change the bytes.
bytes_past : (rs : List ℕ) (q m : ℕ) → bytes_by rs (q * 2 ^ free_in rs + m) ≡ bytes_by rs m
bytes_past [] q m = refl
bytes_past (zero ∷ rs) q m = ap (λ (bs : List ℕ). 0 ∷ bs) (bytes_past rs q m)
bytes_past (suc zero ∷ rs) q m = ap (λ (bs : List ℕ). 1 ∷ bs) (bytes_past rs q m)
bytes_past (suc (suc r) ∷ rs) q m =
    ap₂ (λ (b : ℕ) (bs : List ℕ). b ∷ bs) (digit_past q m (free_in rs)) (rw (twice q (free_in rs)) (bytes_past rs (q * 2) m))

bytes_second_half : (rs : List ℕ) (m : ℕ) → bytes_by rs (2 ^ free_in rs + m) ≡ bytes_by rs m
bytes_second_half rs m = rw one-mul at (bytes_past rs 1 m)

-- ════════ In order ════════

-- The runs by number.
abbrev by_number : List ℕ → List (List ℕ)
by_number rs = map (bytes_by rs) (numbers 0 (2 ^ free_in rs))

-- With one free byte more: those with 0 there, then those with 1.
module _ (r : ℕ) (rs : List ℕ) where
  abbrev half : ℕ
  half = 2 ^ free_in rs

  abbrev longer : ℕ → List ℕ
  longer = bytes_by (suc (suc r) ∷ rs)

  first_half : map longer (numbers 0 half) ≡ map (λ bs. 0 ∷ bs) (by_number rs)
  first_half =
      map_numbers_same longer (λ m. 0 ∷ bytes_by rs m) 0 half (λ m l. rw (zero-add, digit_first_half m (free_in rs) l))
      ∙ sym (map-map (λ bs. 0 ∷ bs) (bytes_by rs) (numbers 0 half))

  second_half : map longer (numbers half half) ≡ map (λ bs. 1 ∷ bs) (by_number rs)
  second_half =
      ap (λ i. map longer (numbers i half)) (sym (add-zero half))
      ∙ map_shifted longer half 0 half
      ∙ map_numbers_same (λ m. longer (half + m)) (λ m. 1 ∷ bytes_by rs m) 0 half (λ m l. rw (zero-add, digit_second_half m (free_in rs) l, bytes_second_half rs m))
      ∙ sym (map-map (λ bs. 1 ∷ bs) (bytes_by rs) (numbers 0 half))

  both_halves : by_number (suc (suc r) ∷ rs) ≡ map (λ bs. 0 ∷ bs) (by_number rs) ++ map (λ bs. 1 ∷ bs) (by_number rs)
  both_halves =
      rw (two-pow-succ (free_in rs), numbers_append 0 half half, zero-add half, map-append longer (numbers 0 half) (numbers half half), first_half, second_half)

-- Those of the bit strings: of those with 0 first, then of those with 1.
those_bits : (f : List ℕ → Bool) (n : ℕ) {xs ys : List (List ℕ)} → those (λ bs. f (0 ∷ bs)) (all_bits n) ≡ xs → those (λ bs. f (1 ∷ bs)) (all_bits n) ≡ ys
    → those f (all_bits (suc n)) ≡ map (λ bs. 0 ∷ bs) xs ++ map (λ bs. 1 ∷ bs) ys
those_bits f n e d =
    those_append f (map (λ bs. 0 ∷ bs) (all_bits n)) (map (λ bs. 1 ∷ bs) (all_bits n))
    ∙ rw (those_map f (λ bs. 0 ∷ bs) (all_bits n), those_map f (λ bs. 1 ∷ bs) (all_bits n), e, d)

pub runs_in_order : (rs : List ℕ) → those (meets rs) (all_bits (length rs)) ≡ map (bytes_by rs) (numbers 0 (2 ^ free_in rs))
runs_in_order [] = refl
runs_in_order (zero ∷ rs) =
    those_bits (meets (0 ∷ rs)) (length rs) (runs_in_order rs) (those_nothing (all_bits (length rs)))
    ∙ append-nil (map (λ bs. 0 ∷ bs) (by_number rs))
    ∙ map-map (λ bs. 0 ∷ bs) (bytes_by rs) (numbers 0 (2 ^ free_in rs))
runs_in_order (suc zero ∷ rs) =
    those_bits (meets (1 ∷ rs)) (length rs) (those_nothing (all_bits (length rs))) (runs_in_order rs)
    ∙ map-map (λ bs. 1 ∷ bs) (bytes_by rs) (numbers 0 (2 ^ free_in rs))
runs_in_order (suc (suc r) ∷ rs) =
    those_bits (meets (suc (suc r) ∷ rs)) (length rs) (runs_in_order rs) (runs_in_order rs) ∙ sym (both_halves r rs)

-- ════════ The open bytes ════════

free_resets : (ls : List Latch) → ((i : ℕ) → i < length ls → (get_or ls i (record { next = 0; reset = 2 })).reset ≤ 2)
    → length (those is_free ls) ≡ free_in (map (λ (c : Latch). c.reset) ls)
free_resets [] small = refl
free_resets (c ∷ ls) small = go c.reset (small 0 (suc-le-suc zero-le)) (free_resets ls (λ i l. small (suc i) (suc-le-suc l)))
  where
    go : (r : ℕ) → r ≤ 2 → length (those is_free ls) ≡ free_in (map (λ (c : Latch). c.reset) ls)
        → length (cond (eqb r 2) (c ∷ those is_free ls) (those is_free ls)) ≡ free_in (r ∷ map (λ (c : Latch). c.reset) ls)
    go zero l e = e
    go (suc zero) l e = e
    go (suc (suc zero)) l e = ap suc e
    go (suc (suc (suc r))) l e = absurd (omega arith)

pub open_is_free : {p : Problem} → Proper p → open_bytes p ≡ free_in (slots p)
open_is_free {p} good =
    rw (free_resets p.latches good.reset_in_range, free_in_joined (resets p) (replicate (p.inputs * (p.bound + 1)) 2), free_in_inputs)
