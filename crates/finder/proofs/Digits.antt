-- The digits of a run's number, and the bytes that they make. Assumes nothing.
use mathlib.Core.List.{List, [], ◌∷◌, ◌++◌}
use mathlib.Core.Path.{◌≡◌, refl, sym, ap, ap₂, ◌∙◌}
use Prim.Native.Nat.{ℕ, zero, suc, ◌+◌, ◌-◌, ◌/◌, ◌%◌, ◌^◌, ◌<◌, ◌≤◌, zero-le}
use native.Mathlib.Nat.{zero-add, add_comm, suc-add, div-div-eq-div-mul, le_of_suc-le-suc, not-suc-le-zero}
use native.Mathlib.Numerals.{add-one}
use native.Mathlib.Omega.{arith}
use lib.ListN.{length, get_or, drop, replicate, length-append, length-map, length-replicate, get_or-map}
use lib.Pow.{pow-add}
use lib.Seq.{drop-cons}
use Rattle.meaning.specs.Problem.{Problem, Latch, latch}
use Rattle.meaning.specs.Witnesses.{witness_length}
use Rattle.finder.specs.Runs.{resets, digit, free_in, bytes_by, run_bytes}

-- ════════ Digits ════════

pub shifted : (m n j : ℕ) → m / 2 ^ n / 2 ^ j ≡ m / 2 ^ (n + j)
shifted m n j = div-div-eq-div-mul m (2 ^ n) (2 ^ j) ∙ ap (λ (x : ℕ). m / x) (sym (pow-add 2 n j))

pub digit_shifted : (m n j : ℕ) → digit (m / 2 ^ n) j ≡ digit m (n + j)
digit_shifted m n j = ap (λ (x : ℕ). x % 2) (shifted m n j)

pub halved : (m j : ℕ) → m / 2 ^ j / 2 ≡ m / 2 ^ (j + 1)
halved m j = shifted m j 1

-- A loop that takes the digits one by one, the lowest first.
module _ (m j : ℕ) {rest : ℕ} (left : rest ≡ m / 2 ^ j) where
  pub next_digit : {k : ℕ} → k ≡ j → rest % 2 ≡ digit m k
  next_digit e = rw (e, left)

  pub one_taken : {k : ℕ} → k ≡ j + 1 → rest / 2 ≡ m / 2 ^ k
  one_taken e = rw (e, left) (halved m j)

pub digit_below_2 : (m j : ℕ) → digit m j ≤ 1
digit_below_2 m j = omega arith

-- ════════ All bytes ════════

pub length_bytes_by : (rs : List ℕ) (m : ℕ) → length (bytes_by rs m) ≡ length rs
length_bytes_by [] m = refl
length_bytes_by (zero ∷ rs) m = ap suc (length_bytes_by rs m)
length_bytes_by (suc zero ∷ rs) m = ap suc (length_bytes_by rs m)
length_bytes_by (suc (suc r) ∷ rs) m = ap suc (length_bytes_by rs m)

pub bytes_below_2 : (rs : List ℕ) (m i : ℕ) → get_or (bytes_by rs m) i 0 ≤ 1
bytes_below_2 [] m i = zero-le
bytes_below_2 (zero ∷ rs) m zero = zero-le
bytes_below_2 (zero ∷ rs) m (suc i) = bytes_below_2 rs m i
bytes_below_2 (suc zero ∷ rs) m zero = omega arith
bytes_below_2 (suc zero ∷ rs) m (suc i) = bytes_below_2 rs m i
bytes_below_2 (suc (suc r) ∷ rs) m zero = digit_below_2 m (free_in rs)
bytes_below_2 (suc (suc r) ∷ rs) m (suc i) = bytes_below_2 rs m i

-- ════════ First the latches, then the inputs ════════

pub free_in_joined : (rs qs : List ℕ) → free_in (rs ++ qs) ≡ free_in rs + free_in qs
free_in_joined [] qs = sym (zero-add (free_in qs))
free_in_joined (zero ∷ rs) qs = free_in_joined rs qs
free_in_joined (suc zero ∷ rs) qs = free_in_joined rs qs
free_in_joined (suc (suc r) ∷ rs) qs = ap suc (free_in_joined rs qs) ∙ sym (suc-add (free_in rs) (free_in qs))

pub free_in_inputs : (n : ℕ) → free_in (replicate n 2) ≡ n
free_in_inputs zero = refl
free_in_inputs (suc n) = ap suc (free_in_inputs n)

-- The inputs take the lowest digits.
digit_before : (rs : List ℕ) (n m : ℕ) → digit m (free_in (rs ++ replicate n 2)) ≡ digit (m / 2 ^ n) (free_in rs)
digit_before rs n m =
    ap (digit m) (free_in_joined rs (replicate n 2) ∙ rw free_in_inputs (add_comm (free_in rs) n)) ∙ sym (digit_shifted m n (free_in rs))

pub bytes_by_joined : (rs : List ℕ) (n m : ℕ) → bytes_by (rs ++ replicate n 2) m ≡ bytes_by rs (m / 2 ^ n) ++ bytes_by (replicate n 2) m
bytes_by_joined [] n m = refl
bytes_by_joined (zero ∷ rs) n m = ap (λ (bs : List ℕ). 0 ∷ bs) (bytes_by_joined rs n m)
bytes_by_joined (suc zero ∷ rs) n m = ap (λ (bs : List ℕ). 1 ∷ bs) (bytes_by_joined rs n m)
bytes_by_joined (suc (suc r) ∷ rs) n m = ap₂ (λ (b : ℕ) (bs : List ℕ). b ∷ bs) (digit_before rs n m) (bytes_by_joined rs n m)

pub input_byte : (n m i : ℕ) → i < n → get_or (bytes_by (replicate n 2) m) i 0 ≡ digit m (n - 1 - i)
input_byte zero m i l = absurd (not-suc-le-zero l)
input_byte (suc n) m zero l = ap (digit m) (free_in_inputs n ∙ omega arith)
input_byte (suc n) m (suc i) l = input_byte n m i (le_of_suc-le-suc l) ∙ ap (digit m) (omega arith)

-- ════════ One byte by its reset ════════

fixed_first : (r : ℕ) (rs : List ℕ) → r < 2 → free_in (r ∷ rs) ≡ free_in rs
fixed_first zero rs l = refl
fixed_first (suc zero) rs l = refl
fixed_first (suc (suc r)) rs l = absurd (omega arith)

-- How many are free from a byte on.
module _ (rs : List ℕ) (i : ℕ) (l : i < length rs) where
  pub free_left : get_or rs i 2 ≡ 2 → free_in (drop i rs) ≡ free_in (drop (i + 1) rs) + 1
  free_left e = rw (add-one i, add-one (free_in (drop (suc i) rs)), drop-cons rs i 2 l, e)

  pub fixed_left : get_or rs i 2 < 2 → free_in (drop i rs) ≡ free_in (drop (i + 1) rs)
  fixed_left h = rw (add-one i, drop-cons rs i 2 l) (fixed_first (get_or rs i 2) (drop (suc i) rs) h)

later_byte : (r : ℕ) (rs : List ℕ) (m i : ℕ) → get_or (bytes_by (r ∷ rs) m) (suc i) 0 ≡ get_or (bytes_by rs m) i 0
later_byte zero rs m i = refl
later_byte (suc zero) rs m i = refl
later_byte (suc (suc r)) rs m i = refl

-- A free byte is the digit with so many below it as are free after it.
pub free_byte : (rs : List ℕ) (m i : ℕ) → i < length rs → get_or rs i 2 ≡ 2 → get_or (bytes_by rs m) i 0 ≡ digit m (free_in (drop (i + 1) rs))
free_byte [] m i l e = absurd (not-suc-le-zero l)
free_byte (r ∷ rs) m zero l e = rw e
free_byte (r ∷ rs) m (suc i) l e = later_byte r rs m i ∙ free_byte rs m i (le_of_suc-le-suc l) e ∙ simp add-one

-- Any other is its reset.
pub fixed_byte : (rs : List ℕ) (m i : ℕ) → i < length rs → get_or rs i 2 < 2 → get_or (bytes_by rs m) i 0 ≡ get_or rs i 2
fixed_byte [] m i l h = absurd (not-suc-le-zero l)
fixed_byte (zero ∷ rs) m zero l h = refl
fixed_byte (suc zero ∷ rs) m zero l h = refl
fixed_byte (suc (suc r) ∷ rs) m zero l h = absurd (omega arith)
fixed_byte (r ∷ rs) m (suc i) l h = later_byte r rs m i ∙ fixed_byte rs m i (le_of_suc-le-suc l) h

-- ════════ The resets of a problem ════════

pub length_resets : (p : Problem) → length (resets p) ≡ length p.latches
length_resets p = length-map p.latches (λ (c : Latch). c.reset)

pub reset_of : (p : Problem) (i : ℕ) → get_or (resets p) i 2 ≡ (latch p i).reset
reset_of p i = get_or-map (λ (c : Latch). c.reset) p.latches i (record { next = 0; reset = 2 })

-- ════════ The bytes of a run ════════

-- Behind a first byte they are as long as a witness.
pub length_run : (p : Problem) (b m : ℕ) → length (b ∷ run_bytes p m) ≡ witness_length p
unfolding run_bytes
length_run p b m = rw length_bytes_by (simp (length-append, length-map, length-replicate) (omega arith))
