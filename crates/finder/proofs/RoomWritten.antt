-- What the bits of a run put into the room, part after part: the first bytes of the witness, and behind them the room as it was. Assumes nothing.
use mir.Val.{bool_byte}
use mathlib.Core.Bool.{Bool, true, false}
use mathlib.Core.List.{List, [], ◌∷◌, ◌++◌, map}
use mathlib.Core.Path.{◌≡◌, refl, sym, ◌∙◌, ap, ap₂}
use Prim.Native.Nat.{ℕ, zero, suc, ◌+◌, ◌*◌, ◌≤◌, ◌<◌, zero-le}
use native.Mathlib.Nat.{mul-suc, mul-zero, add-zero, zero-add, mul-le-mul_left, not-suc-le-zero}
use native.Mathlib.Numerals.{add-one}
use native.Mathlib.Omega.{arith}
use lib.Dec.{eqb}
use lib.ListN.{length, get_or, take, drop, set, length-map, length-drop, get_or-map}
use lib.Seq.{length-take-le, take-length, take_at, drop_at, take-add, drop-drop, get_or-take, get_or-drop, ext_get_or, paste, paste-suc}
use Rattle.answers.specs.Lists.{written}
use Rattle.answers.specs.Limits.{inputs_limit, latches_limit, bound_limit}
use Rattle.meaning.specs.Problem.{Problem}
use Rattle.meaning.specs.Proper.{Proper}
use Rattle.meaning.specs.Witnesses.{witness_length, byte}
use Rattle.finder.specs.Runs.{run_bytes, slots, byte_of, Held, Filled}
use Rattle.finder.proofs.Digits.{bytes_below_2, length_run}

-- ════════ Bits as bytes ════════

byte_passed : (bits : List Bool) (from i : ℕ) → get_or (map byte_of (drop from bits)) i 0 ≡ byte_of (get_or bits (from + i) false)
byte_passed bits from i = get_or-map byte_of (drop from bits) i false ∙ ap byte_of (get_or-drop from bits i false)

-- The conversion's byte is the witness's.
pub byte_is : (b : Bool) → bool_byte b ≡ byte_of b
byte_is false = refl
byte_is true = refl

-- One bit more.
pub one_byte : (before : List ℕ) (at : ℕ) (bits : List Bool) (from i : ℕ) {room : List ℕ} {b : ℕ} → room ≡ paste before at (map byte_of (drop from bits)) i
    → b ≡ byte_of (get_or bits (from + i) false) → at + i < length before → from + i < length bits
    → set room (at + i) b ≡ paste before at (map byte_of (drop from bits)) (i + 1)
one_byte before at bits from i so_far is room_there bit-there =
    rw (so_far, is, ← (byte_passed bits from i), add-one)
    (paste-suc before at (map byte_of (drop from bits)) i 0 room_there (simp (length-map, length-drop) (omega arith)))

-- Bits that are the bytes from a place on, one by one.
same_bytes : (bits : List Bool) (from : ℕ) (bs : List ℕ) (at count : ℕ) → from + count ≤ length bits → at + count ≤ length bs
    → ((i : ℕ) → i < count → byte_of (get_or bits (from + i) false) ≡ byte bs (at + i))
    → take count (map byte_of (drop from bits)) ≡ take count (drop at bs)
same_bytes bits from bs at count bits_there bytes_there same =
    ext_get_or 0 (take count (map byte_of (drop from bits))) (take count (drop at bs))
    (long ∙ sym (length-take-le count (drop at bs) (simp length-drop (omega arith)))) (λ i h. each i (omega (arith, long)))
  where
    long : length (take count (map byte_of (drop from bits))) ≡ count
    long = length-take-le count (map byte_of (drop from bits)) (simp (length-map, length-drop) (omega arith))

    each : (i : ℕ) → i < count → byte (take count (map byte_of (drop from bits))) i ≡ byte (take count (drop at bs)) i
    each i h =
        get_or-take count (map byte_of (drop from bits)) i 0 h ∙ byte_passed bits from i ∙ same i h ∙ sym (get_or-take count (drop at bs) i 0 h ∙ get_or-drop at bs i 0)

-- ════════ The room's first bytes ════════

-- The first n bytes stand in the room, and behind them the room is as it was.
abbrev begun : List ℕ → List ℕ → ℕ → List ℕ
begun bs room n = take n bs ++ drop n room

module _ (bs room : List ℕ) (fits : length bs ≤ length room) where
  more_begun : (n count : ℕ) (new : List ℕ) → n + count ≤ length bs → take count new ≡ take count (drop n bs)
      → paste (begun bs room n) n new count ≡ begun bs room (n + count)
  more_begun n count new h same =
      let head : length (take n bs) ≡ n = length-take-le n bs (omega arith) in
      ap₂ (λ (xs ys : List ℕ). xs ++ ys)
      (ap₂ (λ (xs ys : List ℕ). xs ++ ys) (take_at (take n bs) (drop n room) n head) same ∙ sym (take-add n count bs))
      (sym (drop-drop count n (begun bs room n)) ∙ ap (drop count) (drop_at (take n bs) (drop n room) n head) ∙ drop-drop count n room)

  all_begun : begun bs room (length bs) ≡ written bs room
  all_begun = ap (λ (xs : List ℕ). xs ++ drop (length bs) room) (take-length bs)

-- ════════ The parts of a witness ════════

-- Where the inputs of a position stand.
abbrev inputs_from : Problem → ℕ → ℕ
inputs_from p t = 1 + length p.latches + p.inputs * t

-- The room after the inputs of the first t positions.
abbrev pub inputs_put : List (List Bool) → ℕ → ℕ → List ℕ → ℕ → List ℕ
inputs_put run inputs latches room zero = room
inputs_put run inputs latches room (suc t) =
    paste (inputs_put run inputs latches room t) (1 + latches + inputs * t) (map byte_of (get_or run t [])) inputs

-- The rows of a run have its inputs and its latches.
pub row_fits : {p : Problem} {run : List (List Bool)} → Proper p → Held run → (t : ℕ) → t ≤ p.bound
    → p.inputs + length p.latches ≤ length (get_or run t [])
unfolding inputs_limit latches_limit bound_limit
row_fits proper held t h =
    omega (arith, held.bits_there t (omega (arith, proper.bound_within)), proper.inputs_within, proper.latches_within)

bit_byte : (n : ℕ) → n ≤ 1 → byte_of (eqb n 1) ≡ n
bit_byte zero h = refl
bit_byte (suc zero) h = refl
bit_byte (suc (suc n)) h = absurd (omega arith)

module _ (p : Problem) (b m : ℕ) where
  abbrev bytes : List ℕ
  bytes = b ∷ run_bytes p m

  -- A bit of the run as the byte at its place.
  as_byte : {x : Bool} (i j : ℕ) → x ≡ eqb (byte (run_bytes p m) i) 1 → j ≡ suc i → byte_of x ≡ byte bytes j
  unfolding run_bytes
  as_byte i j e q = rw (e, q) (bit_byte (byte (run_bytes p m) i) (bytes_below_2 (slots p) m i))

  within : (t : ℕ) → t ≤ p.bound + 1 → inputs_from p t ≤ length bytes
  within t h = omega (arith, length_run p b m, mul-le-mul_left {m = t} {n = p.bound + 1} p.inputs h)

-- One part after the other: the first byte, the first latches, and the inputs of each position.
module _ {p : Problem} (proper : Proper p) {m : ℕ} {run : List (List Bool)} (filled : Filled p m run) (b : ℕ) (room : List ℕ)
    (fits : witness_length p ≤ length room) where
  fit : length (bytes p b m) ≤ length room
  fit = omega (arith, length_run p b m)

  first_begun : set room 0 b ≡ begun (bytes p b m) room 1
  first_begun = first room (omega (arith, fits))
    where
      first : (xs : List ℕ) → 0 < length xs → set xs 0 b ≡ b ∷ drop 1 xs
      first [] h = absurd (not-suc-le-zero h)
      first (x ∷ xs) h = refl

  latches_begun : paste (set room 0 b) 1 (map byte_of (drop p.inputs (get_or run 0 []))) (length p.latches)
      ≡ begun (bytes p b m) room (1 + length p.latches)
  latches_begun =
      let there : 1 + length p.latches ≤ length (bytes p b m) = omega (arith, length_run p b m) in
      rw first_begun
      (more_begun (bytes p b m) room fit 1 (length p.latches) _ there
      (same_bytes (get_or run 0 []) p.inputs (bytes p b m) 1 (length p.latches) (row_fits proper filled.held 0 zero-le) there
      (λ i h. as_byte p b m i (1 + i) (filled.latches_right i h) (omega arith))))

  position_begun : (t : ℕ) → t ≤ p.bound
      → paste (begun (bytes p b m) room (inputs_from p t)) (inputs_from p t) (map byte_of (get_or run t [])) p.inputs
      ≡ begun (bytes p b m) room (inputs_from p (suc t))
  position_begun t h =
      let more : inputs_from p (suc t) ≡ inputs_from p t + p.inputs = omega (arith, mul-suc p.inputs t) in
      let there : inputs_from p t + p.inputs ≤ length (bytes p b m) = omega (arith, within p b m (suc t) (omega arith)) in
      rw more
      (more_begun (bytes p b m) room fit (inputs_from p t) p.inputs _ there
      (same_bytes (get_or run t []) 0 (bytes p b m) (inputs_from p t) p.inputs (omega (arith, row_fits proper filled.held t h)) there
      (λ i l. rw zero-add (as_byte p b m (length p.latches + p.inputs * t + i) (inputs_from p t + i) (filled.inputs_right t i h l) (omega arith)))))

  positions_begun : (t : ℕ) → t ≤ p.bound + 1
      → inputs_put run p.inputs (length p.latches) (begun (bytes p b m) room (1 + length p.latches)) t
      ≡ begun (bytes p b m) room (inputs_from p t)
  positions_begun zero h = rw (mul-zero, add-zero)
  positions_begun (suc t) h = rw (positions_begun t (omega arith)) (position_begun t (omega arith))

  -- When the inputs of the first t positions are put.
  module _ {begin now : List ℕ} {t : ℕ}
      (latches_in : begin ≡ paste (set room 0 b) 1 (map byte_of (drop p.inputs (get_or run 0 []))) (length p.latches))
      (inputs_in : now ≡ inputs_put run p.inputs (length p.latches) begin t) (h : t ≤ p.bound + 1) where
    put_so_far : now ≡ begun (bytes p b m) room (inputs_from p t)
    put_so_far = inputs_in ∙ rw (latches_in, latches_begun) (positions_begun t h)

    pub room_written : t ≡ p.bound + 1 → now ≡ written (b ∷ run_bytes p m) room
    room_written last =
        let all : inputs_from p t ≡ length (bytes p b m) = rw last (sym (length_run p b m)) in
        put_so_far ∙ rw all (all_begun (bytes p b m) room fit)
