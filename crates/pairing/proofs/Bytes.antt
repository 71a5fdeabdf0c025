-- The bytes of a reading: their length and range, the latches, inputs and shape read from them; and bytes in range come back. Assumes nothing.
use mathlib.Core.Path.{◌≡◌, refl, sym, ◌∙◌, ap, ap₂}
use mathlib.Core.Bool.{Bool, true, false, cond}
use mathlib.Core.List.{List, [], ◌∷◌, ◌++◌, map}
use Prim.Native.Nat.{ℕ, zero, suc, ◌+◌, ◌*◌, ◌<◌, ◌≤◌, zero-le, suc-le-suc}
use native.Mathlib.Nat.{le_of_suc-le-suc, not-suc-le-zero, add-zero, zero-add, mul-zero, mul-suc, mul_comm, mul-le-mul_left}
use native.Mathlib.Omega.{arith}
use borrow.Author.Tests.{leb-true, ne_eqb}
use lib.Dec.{eqb, leb}
use lib.ListN.{length, get_or, take, drop, length-append, length-drop, get_or-map, take-append-drop}
use lib.Seq.{get_or-take, get_or-drop, take_at, drop_at, drop-drop, length-take-le, ext_get_or}
use Rattle.answers.specs.Lists.{numbers, each, all_of}
use Rattle.answers.proofs.Tests.{both_true, eqb_self, all_of_append, all_of_at, all_of_map, all_of_if_member}
use Rattle.meaning.specs.Problem.{Problem, latch_variable}
use Rattle.meaning.specs.Bounded.{prefix, lasso}
use Rattle.meaning.specs.Witnesses.{witness_length, byte, shape_of, shape, bits, first_latches, inputs_at}
use Rattle.meaning.specs.Cnf.{positions}
use Rattle.meaning.proofs.Numbers.{length_map_numbers, get_or_map_numbers, all_of_each}
use Rattle.pairing.specs.ModelLaws.{Reading}
use Rattle.pairing.proofs.UntilOnLassos.{shifted}
use Rattle.pairing.proofs.BlocksOfOneLength.{length_each, cut, cut_each, cut_end}
use Rattle.pairing.specs.Bytes.{first_chosen, chosen_of, bit_byte, latch_bytes, input_bytes, bytes_of_reading}

-- ════════ Lists of the same length, one after another ════════

module _ {B : Type 0} (f : ℕ → List B) (n : ℕ) (as_long : (t : ℕ) → length (f t) ≡ n) where
  drop_each : (i m t : ℕ) → drop (n * suc t) (each (numbers i (suc m)) f) ≡ drop (n * t) (each (numbers (suc i) m) f)
  drop_each i m t =
      let place : n * suc t ≡ n + n * t = omega (arith, mul-suc n t) in
      rw (place, ← drop-drop, drop_at (f i) _ n (as_long i))

  part_of_each : (i m t : ℕ) → t < m → take n (drop (n * t) (each (numbers i m) f)) ≡ f (i + t)
  part_of_each i zero t h = absurd (not-suc-le-zero h)
  part_of_each i (suc m) zero h = rw (mul-zero, add-zero) (take_at (f i) _ n (as_long i))
  part_of_each i (suc m) (suc t) h = rw drop_each (part_of_each (suc i) m t (le_of_suc-le-suc h) ∙ ap f (omega arith))

-- ════════ Bits and bytes ════════

bit_of_byte : (b : Bool) → eqb (bit_byte b) 1 ≡ b
bit_of_byte true = refl
bit_of_byte false = refl

bits_of_bytes : (f : ℕ → Bool) (is : List ℕ) → bits (map (λ i. bit_byte (f i)) is) ≡ map f is
bits_of_bytes f [] = refl
bits_of_bytes f (i ∷ is) = ap₂ ◌∷◌ (bit_of_byte (f i)) (bits_of_bytes f is)

abbrev is_bit : ℕ → Bool
is_bit b = leb b 1

bytes_are_bits : (f : ℕ → Bool) (is : List ℕ) → all_of is_bit (map (λ i. bit_byte (f i)) is) ≡ true
bytes_are_bits f is = rw all_of_map (all_of_if_member _ is (λ i m. either (f i)))
  where
    either : (b : Bool) → is_bit (bit_byte b) ≡ true
    either true = refl
    either false = refl

byte_of_bit : (b : ℕ) → b ≤ 1 → bit_byte (eqb b 1) ≡ b
byte_of_bit zero h = refl
byte_of_bit (suc zero) h = refl
byte_of_bit (suc (suc b)) h = absurd (not-suc-le-zero (le_of_suc-le-suc h))

-- Small bytes come back from their bits.
bytes_of_bits : (f : ℕ → Bool) (n : ℕ) (bs : List ℕ) → length bs ≡ n → ((i : ℕ) → i < n → get_or bs i 0 ≤ 1)
    → ((i : ℕ) → i < n → f i ≡ get_or (bits bs) i false) → map (λ i. bit_byte (f i)) (numbers 0 n) ≡ bs
bytes_of_bits f n bs l small same =
    ext_get_or 0 _ bs (length_map_numbers _ 0 n ∙ sym l) (λ i h. at i (omega (arith, length_map_numbers (λ i. bit_byte (f i)) 0 n)))
  where
    at : (i : ℕ) → i < n → get_or (map (λ i. bit_byte (f i)) (numbers 0 n)) i 0 ≡ get_or bs i 0
    at i h =
        get_or_map_numbers _ n i 0 h
        ∙ ap bit_byte (same i h ∙ get_or-map (λ b. eqb b 1) bs i 0)
        ∙ byte_of_bit (get_or bs i 0) (small i h)

-- ════════ The first byte ════════

module _ (f : ℕ → Bool) where
  first_chosen_none : (i n : ℕ) → ((j : ℕ) → j < n → f (i + j) ≡ false) → first_chosen f (numbers i n) ≡ 0
  first_chosen_none i zero h = refl
  first_chosen_none i (suc n) h =
      rw (rw add-zero at (h 0 (suc-le-suc zero-le)))
      (first_chosen_none (suc i) n (λ j q. rw (shifted i j) (h (suc j) (suc-le-suc q))))

  first_chosen_one : (i n l : ℕ) → l < n → f (i + l) ≡ true → ((j : ℕ) → j < l → f (i + j) ≡ false)
      → first_chosen f (numbers i n) ≡ suc (i + l)
  first_chosen_one i zero l h c before = absurd (not-suc-le-zero h)
  first_chosen_one i (suc n) zero h c before = rw (rw add-zero at c, add-zero)
  first_chosen_one i (suc n) (suc l) h c before =
      rw (rw add-zero at (before 0 (suc-le-suc zero-le)), ← shifted i l)
      (first_chosen_one (suc i) n l (le_of_suc-le-suc h) (rw shifted c)
      (λ j q. rw shifted (before (suc j) (suc-le-suc q))))

  first_chosen_most : (i n : ℕ) → first_chosen f (numbers i n) ≤ i + n
  first_chosen_most i zero = zero-le
  first_chosen_most i (suc n) = either (f i) (omega (arith, first_chosen_most (suc i) n))
    where
      either : (b : Bool) → first_chosen f (numbers (suc i) n) ≤ i + suc n
          → cond b (suc i) (first_chosen f (numbers (suc i) n)) ≤ i + suc n
      either true h = omega arith
      either false h = h

-- ════════ The bytes of a reading ════════

module _ (p : Problem) (r : Reading) where
  length_latch_bytes : length (latch_bytes p r) ≡ length p.latches
  length_latch_bytes = length_map_numbers _ 0 (length p.latches)

  length_input_bytes : (t : ℕ) → length (input_bytes p r t) ≡ p.inputs
  length_input_bytes t = length_map_numbers _ 0 p.inputs

  pub bytes_length : length (bytes_of_reading p r) ≡ witness_length p
  unfolding bytes_of_reading
  bytes_length =
      simp length-append
      (omega (arith, length_latch_bytes, length_each (input_bytes p r) p.inputs length_input_bytes 0 (p.bound + 1), mul_comm (p.bound + 1) p.inputs))

  pub bytes_start : byte (bytes_of_reading p r) 0 ≤ p.bound + 1
  unfolding bytes_of_reading
  bytes_start = omega (arith, first_chosen_most r.chosen 0 (p.bound + 1))

  pub bytes_bits : (i : ℕ) → 1 ≤ i → i < length (bytes_of_reading p r) → byte (bytes_of_reading p r) i ≤ 1
  unfolding bytes_of_reading
  bytes_bits zero l h = absurd (not-suc-le-zero l)
  bytes_bits (suc i) l h =
      leb-true _ 1 (all_of_at is_bit (latch_bytes p r ++ each (positions p) (input_bytes p r)) i 0
      (rw all_of_append
      (both_true (bytes_are_bits (λ j. r.circuit 0 (latch_variable p j)) (numbers 0 (length p.latches)))
      (all_of_each is_bit (input_bytes p r) (positions p) (λ t. bytes_are_bits (λ j. r.circuit t (suc j)) (numbers 0 p.inputs)))))
      (le_of_suc-le-suc h))

  pub bytes_latches : first_latches p (bytes_of_reading p r) ≡ map (λ i. r.circuit 0 (latch_variable p i)) (numbers 0 (length p.latches))
  unfolding bytes_of_reading
  bytes_latches = ap bits (take_at (latch_bytes p r) _ _ length_latch_bytes) ∙ bits_of_bytes _ (numbers 0 (length p.latches))

  pub bytes_inputs : (t : ℕ) → t ≤ p.bound
      → inputs_at p (bytes_of_reading p r) t ≡ map (λ i. r.circuit t (suc i)) (numbers 0 p.inputs)
  unfolding bytes_of_reading
  bytes_inputs t h =
      let place : 1 + length p.latches + p.inputs * t ≡ suc (length p.latches + p.inputs * t) = omega arith in
      rw (place, ← drop-drop, drop_at (latch_bytes p r) _ _ length_latch_bytes)
      (ap bits (part_of_each (input_bytes p r) p.inputs length_input_bytes 0 (p.bound + 1) t (omega arith) ∙ ap (input_bytes p r) (zero-add t))
      ∙ bits_of_bytes _ (numbers 0 p.inputs))

  -- Where no l is chosen, a prefix.
  pub bytes_prefix : ((l : ℕ) → l ≤ p.bound → r.chosen l ≡ false) → shape (bytes_of_reading p r) ≡ prefix
  unfolding bytes_of_reading
  bytes_prefix none =
      ap shape_of (first_chosen_none r.chosen 0 (p.bound + 1) (λ l h. rw zero-add (none l (omega arith))))

  -- Where l is chosen and none before it, a lasso with start l.
  pub bytes_lasso : (l : ℕ) → l ≤ p.bound → r.chosen l ≡ true → ((m : ℕ) → m < l → r.chosen m ≡ false)
      → shape (bytes_of_reading p r) ≡ lasso l
  unfolding bytes_of_reading
  bytes_lasso l h c before =
      ap shape_of (first_chosen_one r.chosen 0 (p.bound + 1) l (omega arith) (rw zero-add c) (λ m q. rw zero-add (before m q)))
      ∙ ap lasso (zero-add l)

-- ════════ Bytes in range come back ════════

first_byte_back : (f : ℕ → Bool) (k b : ℕ) → b ≤ k + 1 → ((l : ℕ) → l ≤ k → f l ≡ chosen_of (shape_of b) l)
    → first_chosen f (numbers 0 (k + 1)) ≡ b
first_byte_back f k zero h same = first_chosen_none f 0 (k + 1) (λ l q. rw zero-add (same l (omega arith)))
first_byte_back f k (suc m) h same =
    first_chosen_one f 0 (k + 1) m (omega arith) (rw zero-add (same m (omega arith) ∙ eqb_self m))
    (λ l q. rw zero-add (same l (omega arith) ∙ ne_eqb l m (λ e. omega arith)))
    ∙ ap suc (zero-add m)

pub bytes_back : (p : Problem) (r : Reading) (bs : List ℕ) → length bs ≡ witness_length p → byte bs 0 ≤ p.bound + 1
    → ((i : ℕ) → 1 ≤ i → i < length bs → byte bs i ≤ 1)
    → ((l : ℕ) → l ≤ p.bound → r.chosen l ≡ chosen_of (shape bs) l)
    → ((i : ℕ) → i < length p.latches → r.circuit 0 (latch_variable p i) ≡ get_or (first_latches p bs) i false)
    → ((t i : ℕ) → t ≤ p.bound → i < p.inputs → r.circuit t (suc i) ≡ get_or (inputs_at p bs t) i false)
    → bytes_of_reading p r ≡ bs
unfolding bytes_of_reading
bytes_back p r [] l start small chosen latches inputs = absurd (omega arith)
bytes_back p r (b ∷ bs) l start small chosen latches inputs =
    ap₂ ◌∷◌ (first_byte_back r.chosen p.bound b start chosen)
    (rw (latches_back, inputs_back) (take-append-drop L bs))
  where
    L : ℕ
    L = length p.latches

    I : ℕ
    I = p.inputs

    latches_back : latch_bytes p r ≡ take L bs
    latches_back =
        bytes_of_bits _ L (take L bs) (length-take-le L bs (omega arith))
        (λ i h. rw get_or-take (small (suc i) (omega arith) (omega arith))) latches

    fits : (t : ℕ) → t < p.bound + 1 → L + (I * t + I) ≤ length bs
    fits t h = omega (arith, mul-suc I t, mul-le-mul_left {m = suc t} {n = p.bound + 1} I h)

    part_back : (t : ℕ) → t < p.bound + 1 → input_bytes p r t ≡ cut bs (L + I * t) I
    part_back t h =
        bytes_of_bits (λ i. r.circuit t (suc i)) I _ (length-take-le I _ (simp length-drop (omega (arith, fits t h))))
        (λ i q. rw (get_or-take, get_or-drop) (small (suc (L + I * t + i)) (omega arith) (omega (arith, fits t h))))
        (λ i q.
        let place : 1 + L + I * t ≡ suc (L + I * t) = omega arith in
        rw place at (inputs t i (omega arith) q))

    inputs_back : each (positions p) (input_bytes p r) ≡ drop L bs
    inputs_back =
        cut_each bs (input_bytes p r) I L 0 (p.bound + 1) (λ t h. rw (zero-add, mul_comm) (part_back t h))
        ∙ cut_end bs L ((p.bound + 1) * I) (omega (arith, mul_comm (p.bound + 1) I))
