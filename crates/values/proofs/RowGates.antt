-- Laws of the gates of a row, put there one after another: over a row with room they are those of a run. Assumes nothing.
use Rattle.std.proofs.Common.{◌≡◌, ℕ, suc, ◌+◌, ◌-◌, ◌*◌, ◌<◌, ◌≤◌, min, Bool, false, List, [], ◌∷◌, ◌++◌, length, get_or, take, drop, set, sym, refl, ap, ◌∙◌, suc-le-suc, zero-le, add-one, arith, length-drop, length-set, drop_of_length-le, length-take-le, drop-cons, get_or-take, take-take, take-suc-set}
use native.Mathlib.Decide.{dec_le}
use lib.Seq.{take-append-le, take-append-add, set_out}
use Rattle.meaning.specs.Problem.{Problem, Gate, W}
use Rattle.meaning.specs.Proper.{Proper}
use Rattle.meaning.specs.Runs.{gate_value, with_gates}
use Rattle.pairing.proofs.Gates.{same_gate}
use Rattle.values.specs.Tables.{given_width, row_width}
use Rattle.values.specs.Values.{gates_put}
use Rattle.values.proofs.RowLaws.{beginning_stays, put_there, wide_enough}

abbrev gate_in : List Gate → ℕ → Gate
gate_in gs j = get_or gs j (record { left = 0; right = 0 })

pub length_gates_put : (gs : List Gate) (at : ℕ) (row : List Bool) → length (gates_put gs at row) ≡ length row
length_gates_put [] at row = refl
length_gates_put (g ∷ gs) at row = length_gates_put gs (suc at) (set row at (gate_value row g)) ∙ simp length-set

-- Past the row's end nothing is put.
gates_out : (gs : List Gate) (at : ℕ) (row : List Bool) → length row ≤ at → gates_put gs at row ≡ row
gates_out [] at row h = refl
gates_out (g ∷ gs) at row h = rw (set_out row at (gate_value row g) h) (gates_out gs (suc at) row (omega arith))

-- ════════ One after another ════════

-- From gate j₀ up to gate j: those after j make of the row what those after j₀ make of the row before.
pub record GatesTo (gs : List Gate) (at : ℕ) (j₀ : ℕ) (row₀ : List Bool) (j : ℕ) (row : List Bool) : Type 0 where
  pub long : length row ≡ length row₀
  pub rest : gates_put (drop j gs) (at + j) row ≡ gates_put (drop j₀ gs) (at + j₀) row₀

module _ {gs : List Gate} {at : ℕ} where
  pub no_gates : {j : ℕ} {row : List Bool} → GatesTo gs at j row j row
  no_gates = record { long = refl; rest = refl }

  module _ {j₀ : ℕ} {row₀ : List Bool} {j : ℕ} {row : List Bool} (to : GatesTo gs at j₀ row₀ j row) where
    pub one_gate : j < length gs → {row' : List Bool} → row' ≡ set row (at + j) (gate_value row (gate_in gs j))
        → GatesTo gs at j₀ row₀ (j + 1) row'
    one_gate l put = record {
      long = rw put (simp length-set to.long);
      rest =
          let next : at + (j + 1) ≡ suc (at + j) = omega arith in
          rw (put, next, add-one j) (rw (drop-cons gs j (record { left = 0; right = 0 }) l) at to.rest);
    }

  -- Those that have room are all that change something.
  pub all_gates : {row₀ : List Bool} {j : ℕ} {row : List Bool} → GatesTo gs at 0 row₀ j row → min (length gs) (length row₀ - at) ≤ j
      → row ≡ gates_put gs at row₀
  all_gates {row₀} {j} {row} to e = by_room (dec_le (length gs) j) ∙ whole
    where
      by_room : Dec (length gs ≤ j) → row ≡ gates_put (drop j gs) (at + j) row
      by_room (yes h) = let none : drop j gs ≡ [] = drop_of_length-le gs {i = j} h in rw none
      by_room (no h) = sym (gates_out (drop j gs) (at + j) row (omega (arith, to.long)))

      whole : gates_put (drop j gs) (at + j) row ≡ gates_put gs at row₀
      whole = let none : at + 0 ≡ at = omega arith in rw none at to.rest

-- ════════ The gates of a run ════════

-- Each gate's literals are of variables before it, where the first gate's variable is n.
record Earlier (gs : List Gate) (n : ℕ) : Type 0 where
  left_earlier : (j : ℕ) → j < length gs → (gate_in gs j).left < 2 * (n + j)
  right_earlier : (j : ℕ) → j < length gs → (gate_in gs j).right < 2 * (n + j)

earlier_rest : {g : Gate} {gs : List Gate} {n : ℕ} → Earlier (g ∷ gs) n → Earlier gs (suc n)
earlier_rest e = record {
  left_earlier = λ j h. omega (arith, e.left_earlier (suc j) (suc-le-suc h));
  right_earlier = λ j h. omega (arith, e.right_earlier (suc j) (suc-le-suc h));
}

-- A gate reads only what stands before it, so where all have room each has the value that it has in a run.
put_right : (gs : List Gate) (at : ℕ) (row : List Bool) → Earlier gs at → at + length gs ≤ length row
    → take (at + length gs) (gates_put gs at row) ≡ with_gates gs (take at row)
put_right [] at row e fits = let none : at + 0 ≡ at = omega arith in rw none
put_right (g ∷ gs) at row e fits =
    let next : at + suc (length gs) ≡ suc at + length gs = omega arith in
    let same : gate_value row g ≡ gate_value (take at row) g =
    same_gate row (take at row) g at (λ v q. sym (get_or-take at row v false q))
    (omega (arith, e.left_earlier 0 (suc-le-suc zero-le))) (omega (arith, e.right_earlier 0 (suc-le-suc zero-le))) in
    rw next
    (put_right gs (suc at) (set row at (gate_value row g)) (earlier_rest e) (simp length-set (omega arith))
    ∙ rw (take-suc-set row at (gate_value row g) (omega arith), same))

pub gates_right : {p : Problem} → Proper p → (row : List Bool) → W p + 1 ≤ length row
    → take (W p + 1) (gates_put p.gates (given_width p) row) ≡ with_gates p.gates (take (given_width p) row)
gates_right {p} proper row fits =
    let end : W p + 1 ≡ given_width p + length p.gates = omega arith in
    rw end (put_right p.gates (given_width p) row earlier (omega arith))
  where
    earlier : Earlier p.gates (given_width p)
    earlier = record {
      left_earlier = λ j h. omega (arith, proper.left_below j h);
      right_earlier = λ j h. omega (arith, proper.right_below j h);
    }

-- ════════ The gates of a row of the table ════════

-- What a row begins with stands in the table, and the row's part of it is lent to the gates.
module _ {p : Problem} (proper : Proper p) (at : ℕ) (given table table' : List Bool) (room : at + row_width ≤ length table)
    (long : length table' ≡ length table) (there : take (at + given_width p) table' ≡ take at table ++ given) where
  abbrev lent : List Bool
  lent = take row_width (drop at table')

  wide : W p + 1 ≤ length lent
  wide = rw (length-take-le row_width (drop at table') (simp length-drop (omega arith))) (wide_enough proper)

  begins : take (given_width p) lent ≡ given
  begins =
      take-take (given_width p) row_width (drop at table') (omega (arith, wide_enough proper))
      ∙ put_there at (given_width p) table table' given (omega arith) there

  pub gates_there : (row rest : List Bool) → row ≡ gates_put p.gates (given_width p) (take row_width (drop at table'))
      → take (at + (W p + 1)) (take at table' ++ (row ++ rest)) ≡ take at table ++ with_gates p.gates given
  gates_there row rest gates =
      let before : length (take at table') ≡ at = length-take-le at table' (omega arith) in
      let same : take at table' ≡ take at table = beginning_stays at (given_width p) table table' given (omega arith) there in
      let inside : take (W p + 1) (row ++ rest) ≡ with_gates p.gates given =
      take-append-le (W p + 1) row rest (rw (gates, length_gates_put) wide)
      ∙ ap (take (W p + 1)) gates ∙ gates_right proper lent wide ∙ ap (with_gates p.gates) begins in
      rw before at (take-append-add (take at table') (row ++ rest) (W p + 1)) ∙ rw (same, inside)
