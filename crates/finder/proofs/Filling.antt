-- The bits of a run put into its table: the inputs position by position from the last down, and then the latches. Assumes nothing.
use Rattle.finder.specs.declared.run.TheConstants.{GIVEN}
use Rattle.values.specs.declared.rows.TheConstants.{POSITIONS}
use mathlib.Core.Bool.{Bool, false}
use mathlib.Core.List.{List, [], ◌++◌}
use mathlib.Core.Logic.{⊎_elim}
use mathlib.Core.Path.{◌≡◌, ap, subst, ◌∙◌}
use Prim.Native.Nat.{ℕ, zero, suc, ◌+◌, ◌-◌, ◌*◌, ◌/◌, ◌^◌, ◌≤◌, ◌<◌}
use native.Mathlib.Nat.{eq-or-lt_of_le, mul-le-mul_left, sub-zero}
use native.Mathlib.Decide.{ℕ_discrete}
use native.Mathlib.Omega.{arith}
use lib.Dec.{eqb}
use lib.ListN.{length, get_or, set, replicate, length-set, get_or-append}
use lib.Seq.{get_or-set_same, get_or-set_other, get_or-append-add}
use Rattle.answers.specs.Limits.{bound_limit}
use Rattle.meaning.specs.Problem.{Problem}
use Rattle.meaning.specs.Witnesses.{byte}
use Rattle.finder.specs.Runs.{Held, Filled, digit, resets, bytes_by, run_bytes, bit}
use Rattle.finder.proofs.Digits.{shifted, digit_shifted, length_bytes_by, bytes_by_joined, input_byte, length_resets}

-- ════════ Rows ════════

-- A row of the same length in the place of another.
module _ {run : List (List Bool)} (held : Held run) (t : ℕ) (row : List Bool) (long : length row ≡ length (get_or run t [])) (l : t < POSITIONS) where
  row_there : get_or (set run t row) t [] ≡ row
  row_there = get_or-set_same run t row [] (omega (arith, held.rows_there))

  pub held_set : Held (set run t row)
  held_set = record {
    rows_there = length-set run t row ∙ held.rows_there;
    bits_there = λ u h. at_row u h (ℕ_discrete u t);
  }
    where
      at_row : (u : ℕ) → u < POSITIONS → Dec (u ≡ t) → length (get_or (set run t row) u []) ≡ GIVEN
      at_row u h (yes e) = rw (e, row_there) (long ∙ held.bits_there t l)
      at_row u h (no ne) = rw (get_or-set_other run t u row [] ne) (held.bits_there u h)

  pub bit_set : (i : ℕ) → bit (set run t row) t i ≡ get_or row i false
  bit_set i = ap (λ (r : List Bool). get_or r i false) row_there

pub bit_other : (run : List (List Bool)) (t : ℕ) (row : List Bool) (u i : ℕ) → (u ≡ t → ⊥) → bit (set run t row) u i ≡ bit run u i
bit_other run t row u i ne = ap (λ (r : List Bool). get_or r i false) (get_or-set_other run t u row [] ne)

-- ════════ The inputs ════════

-- Those of the positions from t on are right, and the digits that are left are the ones above theirs.
pub record InputsFrom (inputs bound m t rest : ℕ) (run : List (List Bool)) : Type 0 where
  pub within : t ≤ bound + 1
  pub left : rest ≡ m / 2 ^ (inputs * (bound + 1 - t))
  pub held : Held run
  pub there : (u i : ℕ) → t ≤ u → u ≤ bound → i < inputs → bit run u i ≡ eqb (digit m (inputs * (bound + 1) - 1 - (inputs * u + i))) 1

-- Which digit has a bit that so many positions come after.
digit_by_position : (inputs after t i k : ℕ) → k ≡ t + 1 + after → i < inputs → inputs * after + (inputs - 1 - i) ≡ inputs * k - 1 - (inputs * t + i)
digit_by_position inputs after t i k e l = rw e (omega arith)

-- The digits of one position more.
one_more : (inputs n k : ℕ) → k ≡ n + 1 → inputs * n + inputs ≡ inputs * k
one_more inputs n k e = rw e (omega arith)

module _ {inputs bound m : ℕ} where
  -- The position before them.
  module _ {t rest result : ℕ} {run : List (List Bool)} (from : InputsFrom inputs bound m t rest run) (small : bound ≤ bound_limit) (at : ℕ) (last : at + 1 ≡ t)
      (row : List Bool) (long : length row ≡ length (get_or run at []))
      (above : result ≡ rest / 2 ^ inputs) (bits : (i : ℕ) → i < inputs → get_or row i false ≡ eqb (digit rest (inputs - 1 - i)) 1)
    where
      within_limit : at < POSITIONS
      unfolding bound_limit
      within_limit = omega (arith, from.within)

      bit_right : (i : ℕ) → i < inputs → bit (set run at row) at i ≡ eqb (digit m (inputs * (bound + 1) - 1 - (inputs * at + i))) 1
      bit_right i l =
          let after = bound + 1 - t in
          let one = bit_set from.held at row long within_limit i ∙ bits i l in
          let shift = digit_shifted m (inputs * after) (inputs - 1 - i) in
          rw (from.left, shift, digit_by_position inputs after at i (bound + 1) (omega (arith, from.within)) l) at one

      pub one_position : InputsFrom inputs bound m at result (set run at row)
      one_position = record {
        within = omega (arith, from.within);
        left =
            let after = bound + 1 - t in
            rw (above, from.left, shifted m (inputs * after) inputs, one_more inputs after (bound + 1 - at) (omega (arith, from.within)));
        held = held_set from.held at row long within_limit;
        there = λ u i h k l.
            ⊎_elim
            (λ e. subst (λ (x : ℕ). bit (set run at row) x i ≡ eqb (digit m (inputs * (bound + 1) - 1 - (inputs * x + i))) 1) e (bit_right i l))
            (λ e. bit_other run at row u i (omega arith) ∙ from.there u i (omega arith) k l)
            (eq-or-lt_of_le h);
      }

  -- All of them.
  pub all_above : {t rest : ℕ} {run : List (List Bool)} → InputsFrom inputs bound m t rest run → t ≤ 0 → rest ≡ m / 2 ^ (inputs * (bound + 1))
  all_above {t} from l = let e : t ≡ 0 = omega arith in rw (e, sub-zero) at from.left

-- ════════ The bytes of a run ════════

abbrev pub latch_bytes : Problem → ℕ → List ℕ
latch_bytes p m = bytes_by (resets p) (m / 2 ^ (p.inputs * (p.bound + 1)))

abbrev input_bytes : Problem → ℕ → List ℕ
input_bytes p m = bytes_by (replicate (p.inputs * (p.bound + 1)) 2) m

-- The latches come first, by the digits above those of the inputs.
module _ (p : Problem) (m : ℕ) where
  parted : run_bytes p m ≡ latch_bytes p m ++ input_bytes p m
  unfolding run_bytes
  parted = bytes_by_joined (resets p) (p.inputs * (p.bound + 1)) m

  many : length (latch_bytes p m) ≡ length p.latches
  many = length_bytes_by (resets p) (m / 2 ^ (p.inputs * (p.bound + 1))) ∙ length_resets p

  pub latch_byte : (i : ℕ) → i < length p.latches → byte (run_bytes p m) i ≡ byte (latch_bytes p m) i
  latch_byte i l = rw parted (get_or-append (latch_bytes p m) (input_bytes p m) 0 i (omega (arith, many)))

  pub byte_of_input : (t i : ℕ) → t ≤ p.bound → i < p.inputs
      → byte (run_bytes p m) (length p.latches + p.inputs * t + i) ≡ digit m (p.inputs * (p.bound + 1) - 1 - (p.inputs * t + i))
  byte_of_input t i h l =
      let at : length p.latches + p.inputs * t + i ≡ length (latch_bytes p m) + (p.inputs * t + i) = omega (arith, many) in
      rw (at, parted, get_or-append-add (latch_bytes p m) (input_bytes p m) (p.inputs * t + i) 0)
      (input_byte (p.inputs * (p.bound + 1)) m (p.inputs * t + i) (omega (arith, mul-le-mul_left p.inputs h)))

-- ════════ The table ════════

-- The latches of the first position, put beside its inputs.
pub filled : {p : Problem} (m : ℕ) {digits : ℕ} {run : List (List Bool)} → Held run
    → ((t i : ℕ) → t ≤ p.bound → i < p.inputs → bit run t i ≡ eqb (digit m (p.inputs * (p.bound + 1) - 1 - (p.inputs * t + i))) 1)
    → digits ≡ m / 2 ^ (p.inputs * (p.bound + 1))
    → (row : List Bool) → length row ≡ length (get_or run 0 [])
    → ((i : ℕ) → i < length p.latches → get_or row (p.inputs + i) false ≡ eqb (byte (bytes_by (resets p) digits) i) 1)
    → ((i : ℕ) → i < p.inputs → get_or row i false ≡ bit run 0 i)
    → Filled p m (set run 0 row)
filled {p} m {run = run} held right above row long latches kept = record {
  held = held_set held 0 row long first;
  inputs_right = λ t i h l.
      rw (byte_of_input p m t i h l) (same t i l ∙ right t i h l);
  latches_right = λ i l.
      bit_set held 0 row long first (p.inputs + i)
      ∙ rw (latch_byte p m i l, ← above) (latches i l);
}
  where
    first : 0 < POSITIONS
    first = omega arith

    same : (t i : ℕ) → i < p.inputs → bit (set run 0 row) t i ≡ bit run t i
    same zero i l = bit_set held 0 row long first i ∙ kept i l
    same (suc t) i l = bit_other run 0 row (suc t) i (omega arith)
