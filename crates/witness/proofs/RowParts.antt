-- The parts of a position's row, and what they come to one after another. Assumes nothing.
use Rattle.std.proofs.Common.{◌≡◌, ℕ, suc, ◌+◌, ◌*◌, ◌-◌, ◌<◌, ◌≤◌, Bool, false, List, ◌∷◌, ◌++◌, length, get_or, take, drop, set, length-set, sym, ◌∙◌, ap, arith, length-append, length-drop, take-suc-set, length-take-le, take_at, mul-le-mul_right}
use lib.Seq.{take-length, take-append-le, take-append-add}
use borrow.Rule.Slice.PartMut.{put_mid}
use lib.Dec.{eqb}
use lib.ListN.{length-map, get_or-map}
use lib.Seq.{ext_get_or}
use Rattle.std.proofs.lemmas.List.Edits.{sets}
use Rattle.std.proofs.lemmas.Slice.{take-put_mid}
use Rattle.answers.specs.Limits.{inputs_limit, latches_limit, gates_limit, bound_limit}
use Rattle.meaning.specs.Problem.{Problem, W}
use Rattle.meaning.specs.Proper.{Proper}
use Rattle.meaning.specs.Runs.{values}
use Rattle.meaning.specs.Witnesses.{bits, inputs_at, first_latches, position, rows}
use Rattle.pairing.proofs.Runs.{position_first, position_inputs, position_next, length_inputs_at, length_latches}
use Rattle.values.specs.Tables.{RowsRight, row_width, given_width, next_in}
use Rattle.values.specs.Values.{gates_put}
use Rattle.values.proofs.Copies.{sets_there}
use Rattle.values.proofs.RowGates.{gates_right}
use Rattle.values.proofs.RowLaws.{wide_enough, row_kept, one_more_row, length_next_in, next_are}
use Rattle.witness.specs.ShownRun.{RowReady, RowsBefore}

pub bits_if : (bs : List ℕ) (vs : List Bool) → length vs ≡ length bs → ((k : ℕ) → k < length bs → get_or vs k false ≡ eqb (get_or bs k 0) 1) → vs ≡ bits bs
bits_if bs vs long same =
    ext_get_or false vs (bits bs) (long ∙ sym (length-map bs (λ b. eqb b 1)))
    (λ i q. same i (omega (arith, long)) ∙ sym (get_or-map (λ b. eqb b 1) bs i 0))

-- What is lent from a place on has its length.
pub part_long : (from n : ℕ) → (from + n) - from ≡ n
part_long from n = omega arith

-- A row with values put in the middle, up to their end.
put_up_to : (row zs xs : List Bool) (a k n : ℕ) → zs ≡ xs → n ≡ a + length xs → a ≤ length row → take n (put_mid a k row zs) ≡ take a row ++ xs
put_up_to row zs xs a k n e long h = rw e (take-put_mid a k row xs n long h)

module _ {p : Problem} {bs : List ℕ} {t : ℕ} (proper : Proper p) {row : List Bool} (ready : RowReady p bs t row) where
  wide : W p + 1 ≤ length row
  wide = rw ready.row_long (wide_enough proper)

  -- Variable 0, then the inputs.
  pub inputs_there : (zs : List Bool) (k : ℕ) → zs ≡ inputs_at p bs t → take (1 + p.inputs) (put_mid 1 k (set row 0 false) zs) ≡ false ∷ inputs_at p bs t
  inputs_there zs k e =
      let some : 0 < length row = omega (arith, wide) in
      put_up_to (set row 0 false) zs (inputs_at p bs t) 1 k (1 + p.inputs) e (omega (arith, length_inputs_at p bs ready.long t ready.within))
      (simp length-set (omega arith))
      ∙ ap (λ (vs : List Bool). vs ++ inputs_at p bs t) (take-suc-set row 0 false some)

  -- The first latches are the witness's.
  pub first_there : (zs : List Bool) (k : ℕ) → t ≡ 0 → zs ≡ first_latches p bs
      → take (given_width p) (put_mid (1 + p.inputs) k row zs) ≡ take (1 + p.inputs) row ++ (position p bs t).latches
  first_there zs k zero e =
      put_up_to row zs (position p bs t).latches (1 + p.inputs) k (given_width p) (e ∙ rw zero (sym (position_first p bs)))
      (omega (arith, length_latches p bs ready.long t ready.within)) (omega (arith, wide))

  -- The others are the next values of the position before.
  pub next_there : (u : ℕ) (last : List Bool) → t ≡ suc u → take (W p + 1) last ≡ rows p bs u
      → take (given_width p) (sets row (1 + p.inputs) (next_in p last)) ≡ take (1 + p.inputs) row ++ (position p bs t).latches
  next_there u last e right =
      let latches : (position p bs t).latches ≡ next_in p last = rw e (position_next p bs u (omega (arith, ready.within))) ∙ sym (next_are p bs u last right proper) in
      rw latches (sets_there row (1 + p.inputs) (next_in p last) (length_next_in p last) (omega (arith, wide)))

  -- The gates over both.
  pub row_there : (row' : List Bool) → length row' ≡ length row → take (given_width p) row' ≡ (false ∷ inputs_at p bs t) ++ (position p bs t).latches
      → take (W p + 1) (gates_put p.gates (given_width p) row') ≡ rows p bs t
  unfolding values
  row_there row' long given = gates_right proper row' (omega (arith, wide, long)) ∙ rw (given, position_inputs p bs t ready.within)

-- ════════ One row after another ════════

-- The table is lent as the rows before and the rest, of which the row is the beginning.
module _ {p : Problem} {bs : List ℕ} {t : ℕ} (proper : Proper p) {table : List Bool} (right : RowsRight p bs t table) (before rest : List Bool)
    (parts : table ≡ before ++ rest) (long : length before ≡ t * row_width) (within : t ≤ p.bound) where
  row_fits : row_width ≤ length rest
  unfolding inputs_limit latches_limit gates_limit row_width bound_limit
  row_fits = omega (arith, simp length-append at (ap length parts), right.room, proper.bound_within)

  pub row_lent : length (take row_width rest) ≡ row_width
  row_lent = length-take-le row_width rest row_fits

  pub rows_before : RowsBefore p bs t before
  rows_before = record {
    room = long;
    right = λ u h.
        let same : take (t * row_width) before ≡ take (t * row_width) table =
        rw (parts, take_at before rest (t * row_width) long, ← long) (take-length before) in
        rw (row_kept u (t * row_width) table before (mul-le-mul_right {m = u + 1} {n = t} row_width (omega arith)) same) (right.right u h);
  }

  pub one_row : (row : List Bool) → length row ≡ row_width → take (W p + 1) row ≡ rows p bs t
      → RowsRight p bs (t + 1) (before ++ (row ++ drop row_width rest))
  one_row row row_long is =
      one_more_row right proper
      (rw parts (simp (length-append, length-drop) (omega (arith, row_fits, row_long)))) (omega (arith, proper.bound_within)) begins
    where
      begins : take (t * row_width + (W p + 1)) (before ++ (row ++ drop row_width rest)) ≡ take (t * row_width) table ++ rows p bs t
      begins =
          rw (parts, take_at before rest (t * row_width) long, ← long)
          (take-append-add before (row ++ drop row_width rest) (W p + 1)
          ∙ ap (λ (vs : List Bool). before ++ vs)
          (take-append-le (W p + 1) row (drop row_width rest) (rw row_long (wide_enough proper)) ∙ is))
