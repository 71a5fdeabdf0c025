-- The text of a good circuit is no longer than a text may be. Assumes nothing.
use mathlib.Core.Path.{◌≡◌}
use mathlib.Core.Bool.{Bool, true, false, cond}
use mathlib.Core.List.{List, [], ◌∷◌, ◌++◌}
use Prim.Native.Nat.{ℕ, zero, suc, ◌+◌, ◌*◌, ◌^◌, ◌≤◌, ◌<◌}
use native.Mathlib.Omega.{arith}
use lib.Dec.{eqb}
use lib.ListN.{length, length-append}
use Rattle.answers.specs.Lists.{numbers, each}
use Rattle.text.specs.Numbers.{bytes_of, decimal}
use Rattle.answers.specs.Limits.{longest_text, inputs_limit, latches_limit, gates_limit, outputs_limit}
use Rattle.text.specs.Readings.{space_byte, newline_byte}
use Rattle.text.proofs.Decimals.{length_within}
use Rattle.meaning.specs.Problem.{word, latch_place, gate_place}
use Rattle.meaning.specs.Check.{largest_literal}
use Rattle.aiger.specs.declared.sizes.Kind.{Kind}
use Rattle.aiger.specs.declared.sizes.Kind.TheVariants.{Input, Latch, Output, Gate}
use Rattle.aiger.specs.Circuits.{Sizes, sizes, circuit, output_place}
use Rattle.aiger.specs.Texts.{input_literal, latch_literal, gate_literal, largest_variable, ended, header_line, reset_text, next_text, circuit_text}
use Rattle.aiger.specs.Reads.{Fitting, count_of}
use Rattle.aiger.specs.Writes.{line_of}
use Rattle.aiger.proofs.CheckedCircuit.{GoodCircuit}
use Rattle.aiger.proofs.LaidTexts.{lines}

-- ════════ Numbers of 32 bits ════════

ended_within : (n b : ℕ) → n < 2 ^ 32 → length (ended n b) ≤ 11
ended_within n b h = omega (arith, length-append (decimal n) (b ∷ []), length_within 9 n (omega arith))

reset_small : (own r : ℕ) → own < 2 ^ 32 → reset_text own r < 2 ^ 32
reset_small own r h = go (eqb r 1)
  where
    go : (b : Bool) → cond b 1 own < 2 ^ 32
    go true = omega arith
    go false = h

next_within : (own next r : ℕ) → own < 2 ^ 32 → next < 2 ^ 32 → length (next_text own next r) ≤ 22
next_within own next r h l = go (eqb r 0)
  where
    go : (b : Bool) → length (cond b (ended next newline_byte) (ended next space_byte ++ ended (reset_text own r) newline_byte)) ≤ 22
    go true = omega (arith, ended_within next newline_byte l)
    go false =
        omega (
          arith,
          length-append (ended next space_byte) (ended (reset_text own r) newline_byte),
          ended_within next space_byte l,
          ended_within (reset_text own r) newline_byte (reset_small own r h),
        )

-- ════════ A line has at most three numbers ════════

latch_within : (own next r : ℕ) → own < 2 ^ 32 → next < 2 ^ 32 → length (ended own space_byte ++ next_text own next r) ≤ 33
latch_within own next r h l =
    omega (arith, length-append (ended own space_byte) (next_text own next r), ended_within own space_byte h, next_within own next r h l)

gate_within : (own a b : ℕ) → own < 2 ^ 32 → a < 2 ^ 32 → b < 2 ^ 32
    → length (ended own space_byte ++ ended a space_byte ++ ended b newline_byte) ≤ 33
gate_within own a b h l m =
    omega (
      arith,
      length-append (ended own space_byte) (ended a space_byte),
      length-append (ended own space_byte ++ ended a space_byte) (ended b newline_byte),
      ended_within own space_byte h,
      ended_within a space_byte l,
      ended_within b newline_byte m,
    )

each_within : (f : ℕ → List ℕ) (i n : ℕ) → ((j : ℕ) → j < i + n → length (f j) ≤ 33) → length (each (numbers i n) f) ≤ 33 * n
each_within f i zero h = omega arith
each_within f i (suc n) h =
    omega (arith, length-append (f i) (each (numbers (suc i) n) f), h i (omega arith), each_within f (suc i) n (λ j l. h j (omega arith)))

-- ════════ The whole text ════════

length_header : (a b c d e f : List ℕ) → length (a ++ b ++ c ++ d ++ e ++ f) ≡ length a + length b + length c + length d + length e + length f
length_header a b c d e f = simp length-append

length_text : (a b c d e : List ℕ) → length (a ++ b ++ c ++ d ++ e) ≡ length a + length b + length c + length d + length e
length_text a b c d e = simp length-append

module _ (ws : List ℕ) (good : GoodCircuit ws) where
  abbrev s : Sizes
  s = sizes ws

  fits : Fitting s
  fits = good.fitting

  -- A literal, and so every number of the text, has 32 bits.
  literal_small : (n : ℕ) → n ≤ largest_literal (circuit s) → n < 2 ^ 32
  unfolding inputs_limit latches_limit gates_limit
  literal_small n h = omega (arith, fits.inputs_within, fits.latches_within, fits.gates_within)

  header_within : length (header_line s) ≤ 59
  unfolding inputs_limit latches_limit gates_limit outputs_limit
  header_within =
      omega (
        arith,
        length_header (bytes_of "aag ") (ended (largest_variable s) space_byte) (ended s.inputs space_byte) (ended s.latches space_byte)
            (ended s.outputs space_byte) (ended s.gates newline_byte),
        ended_within (largest_variable s) space_byte (omega (arith, fits.inputs_within, fits.latches_within, fits.gates_within)),
        ended_within s.inputs space_byte (omega (arith, fits.inputs_within)),
        ended_within s.latches space_byte (omega (arith, fits.latches_within)),
        ended_within s.outputs space_byte (omega (arith, fits.outputs_within)),
        ended_within s.gates newline_byte (omega (arith, fits.gates_within)),
      )

  line_within : (kind : Kind) (i : ℕ) → i < count_of kind s → length (line_of kind s ws i) ≤ 33
  line_within Input i l = omega (arith, ended_within (input_literal i) newline_byte (literal_small (input_literal i) (omega arith)))
  line_within Latch i l =
      let at = latch_place (circuit s) i in
      latch_within (latch_literal s i) (word ws at) (word ws (at + 1)) (literal_small (latch_literal s i) (omega arith))
      (literal_small (word ws at) (good.latches_right i l).next_in_range)
  line_within Output i l =
      let at = output_place s i in
      omega (arith, ended_within (word ws at) newline_byte (literal_small (word ws at) (good.outputs_right i l)))
  line_within Gate i l =
      let at = gate_place (circuit s) i in
      let right = good.gates_right i l in
      gate_within (gate_literal s i) (word ws at) (word ws (at + 1)) (literal_small (gate_literal s i) (omega arith))
      (literal_small (word ws at) (omega (arith, right.left_below))) (literal_small (word ws (at + 1)) (omega (arith, right.right_below)))

  lines_within : (kind : Kind) → length (lines s ws kind) ≤ 33 * count_of kind s
  lines_within kind = each_within (line_of kind s ws) 0 (count_of kind s) (λ i l. line_within kind i (omega arith))

  pub text_within : length (circuit_text ws) ≤ longest_text
  unfolding inputs_limit latches_limit gates_limit outputs_limit longest_text circuit_text
  text_within =
      omega (
        arith,
        length_text (header_line s) (lines s ws Input) (lines s ws Latch) (lines s ws Output) (lines s ws Gate),
        header_within,
        lines_within Input,
        lines_within Latch,
        lines_within Output,
        lines_within Gate,
        fits.inputs_within,
        fits.latches_within,
        fits.gates_within,
        fits.outputs_within,
      )
