-- `written_read`: good words, written and read, are the same words, whatever stands after the text. Assumes nothing.
use mathlib.Core.Path.{◌≡◌, refl, sym, ◌∙◌, ap}
use mathlib.Core.Bool.{true, false}
use mathlib.Core.List.{List, [], ◌∷◌, ◌++◌, map, append_assoc}
use Prim.Native.Nat.{ℕ, zero, suc, ◌+◌, ◌≤◌, ◌<◌}
use native.Mathlib.Omega.{arith}
use borrow.Author.Tests.{le-leb, lt-ltb, eq-eqb, ne_eqb}
use lib.Dec.{eqb, leb, ltb}
use lib.ListN.{length, length-append}
use Rattle.answers.specs.Lists.{numbers, each}
use Rattle.text.specs.Numbers.{bytes_of, decimal}
use Rattle.answers.specs.Limits.{largest_number, inputs_limit, latches_limit, gates_limit, outputs_limit}
use Rattle.text.specs.Readings.{space_byte, newline_byte, parts, Reading, found, Reader, ahead, and_then, in_turn, mark, space, newline, told, number, at_most, exactly}
use Rattle.text.proofs.ReadingLaws.{in_turn_append, in_turn_one}
use Rattle.meaning.specs.Problem.{word, latch_place, gate_place}
use Rattle.meaning.specs.Check.{largest_literal, largest_reset}
use Rattle.aiger.specs.Circuits.{Sizes, sizes, circuit, output_place}
use Rattle.aiger.specs.Texts.{input_literal, latch_literal, gate_literal, largest_variable, ended, input_line, next_text, latch_line, output_line, gate_line, circuit_text, opening, input_due, is_reset, as_reset, reset_due, latch_due, output_due, below, gate_due, lines_due, after_opening, circuit_read}
use Rattle.aiger.proofs.WordsInOrder.{pair_at, one_at, latch_numbers, output_numbers, gate_numbers, words_are}
use Rattle.aiger.proofs.FoundIn.{FoundIn, AllFoundIn, found_joined, found_lines, number_found, number_ended}
use Rattle.aiger.specs.Reads.{Fitting}
use Rattle.aiger.proofs.CheckedCircuit.{GoodCircuit}

-- ════════ Numbers that are small ════════

eqb_refl : (n : ℕ) → eqb n n ≡ true
eqb_refl n = eq-eqb n n refl

-- ════════ One line ════════

exactly_ended : (n b : ℕ) → n ≤ largest_number → parts b ≡ true → AllFoundIn (exactly n ∷ mark b ∷ []) (ended n b) []
exactly_ended n b small h = record {
  finds = λ p rest.
      let text : ended n b ++ rest ≡ decimal n ++ b ∷ rest = append_assoc (decimal n) (b ∷ []) rest in
      let place : suc (p + length (decimal n)) ≡ p + length (ended n b) = rw (length-append (decimal n) (b ∷ [])) (omega arith) in
      rw (text, number_found (λ m. eqb m n) n small (eqb_refl n) p b rest h, eqb_refl b, place);
}

at_most_ended : (n m b : ℕ) → n ≤ m → m ≤ largest_number → parts b ≡ true → AllFoundIn (at_most m ∷ mark b ∷ []) (ended n b) (n ∷ [])
at_most_ended n m b h small e = number_ended (λ k. leb k m) n (omega arith) (le-leb n m h) b e (eqb_refl b)

below_ended : (n m b : ℕ) → n < m → m ≤ largest_number → parts b ≡ true → AllFoundIn (below m ∷ mark b ∷ []) (ended n b) (n ∷ [])
below_ended n m b h small e = number_ended (λ k. ltb k m) n (omega arith) (lt-ltb n m h) b e (eqb_refl b)

input_found : (i : ℕ) → input_literal i ≤ largest_number → FoundIn (input_due i) (input_line i) []
input_found i small = (exactly_ended (input_literal i) newline_byte small refl).finds

output_found : (n m : ℕ) → n ≤ m → m ≤ largest_number → FoundIn (in_turn (at_most m ∷ newline ∷ [])) (ended n newline_byte) (n ∷ [])
output_found n m h small = (at_most_ended n m newline_byte h small refl).finds

gate_found : (own a b : ℕ) → own ≤ largest_number → a < own → b < own
    → FoundIn (in_turn (exactly own ∷ space ∷ below own ∷ space ∷ below own ∷ newline ∷ []))
    (ended own space_byte ++ ended a space_byte ++ ended b newline_byte) (a ∷ b ∷ [])
gate_found own a b small ha hb =
    let to-left = found_joined (exactly_ended own space_byte small refl) (below_ended a own space_byte ha small refl) in
    (found_joined to-left (below_ended b own newline_byte hb small refl)).finds

-- The end of a latch's line, where a reset is told.
reset_found : (own m r : ℕ) → m ≤ largest_number → is_reset own m ≡ true → as_reset own m ≡ r → (p : ℕ) (rest : List ℕ)
    → reset_due own p (space_byte ∷ (ended m newline_byte ++ rest)) ≡ found (r ∷ []) (p + suc (length (ended m newline_byte))) rest
reset_found own m r small h e p rest =
    let text : ended m newline_byte ++ rest ≡ decimal m ++ newline_byte ∷ rest = append_assoc (decimal m) (newline_byte ∷ []) rest in
    let place : suc (suc p + length (decimal m)) ≡ p + suc (length (ended m newline_byte)) =
    rw (length-append (decimal m) (newline_byte ∷ [])) (omega arith) in
    rw (text, number_found (is_reset own) m small h (suc p) newline_byte rest refl, e, place)

module _ (own next most : ℕ) (small : own ≤ largest_number) (two : 2 ≤ own) (within : next ≤ most) (most-small : most ≤ largest_number) where
  -- The next literal, and what a reset finds after it.
  next_then : (b : ℕ) (t ms left : List ℕ) (p q : ℕ) → parts b ≡ true → reset_due own (p + length (decimal next)) (b ∷ t) ≡ found ms q left
      → in_turn (at_most most ∷ reset_due own ∷ []) p (decimal next ++ b ∷ t) ≡ found (next ∷ ms) q left
  next_then b t ms left p q h e =
      ap (λ (r : Reading). and_then r (in_turn (reset_due own ∷ [])))
      (number_found (λ k. leb k most) next (omega arith) (le-leb next most within) p b t h)
      ∙ ap (ahead (next ∷ [])) (in_turn_one (reset_due own) (p + length (decimal next)) (b ∷ t) ∙ e)

  fixed_at_0 : FoundIn (in_turn (at_most most ∷ reset_due own ∷ [])) (ended next newline_byte) (next ∷ 0 ∷ [])
  fixed_at_0 p rest =
      let text : ended next newline_byte ++ rest ≡ decimal next ++ newline_byte ∷ rest = append_assoc (decimal next) (newline_byte ∷ []) rest in
      let place : suc (p + length (decimal next)) ≡ p + length (ended next newline_byte) =
      rw (length-append (decimal next) (newline_byte ∷ [])) (omega arith) in
      rw (text, ← place) (next_then newline_byte rest (0 ∷ []) rest p (suc (p + length (decimal next))) refl refl)

  told_reset : (m r : ℕ) → m ≤ largest_number → is_reset own m ≡ true → as_reset own m ≡ r
      → FoundIn (in_turn (at_most most ∷ reset_due own ∷ [])) (ended next space_byte ++ ended m newline_byte) (next ∷ r ∷ [])
  told_reset m r m-small h e p rest =
      let tail = ended m newline_byte in
      let text : (ended next space_byte ++ tail) ++ rest ≡ decimal next ++ space_byte ∷ (tail ++ rest) =
      append_assoc (ended next space_byte) tail rest ∙ append_assoc (decimal next) (space_byte ∷ []) (tail ++ rest) in
      let place : p + length (decimal next) + suc (length tail) ≡ p + length (ended next space_byte ++ tail) =
      rw (length-append (ended next space_byte) tail, length-append (decimal next) (space_byte ∷ [])) (omega arith) in
      rw (text, ← place)
      (next_then space_byte (tail ++ rest) (r ∷ []) rest p (p + length (decimal next) + suc (length tail)) refl
      (reset_found own m r m-small h e (p + length (decimal next)) rest))

  not_own : (m : ℕ) → m < 2 → eqb m own ≡ false
  not_own m h = ne_eqb m own (λ e. omega arith)

  own_is_reset : is_reset own own ≡ true
  own_is_reset = rw (ne_eqb own 0 (λ e. omega arith), ne_eqb own 1 (λ e. omega arith), eqb_refl own)

  next_found : (r : ℕ) → r ≤ largest_reset → FoundIn (in_turn (at_most most ∷ reset_due own ∷ [])) (next_text own next r) (next ∷ r ∷ [])
  next_found zero h = fixed_at_0
  next_found (suc zero) h = told_reset 1 1 (omega arith) refl (rw (not_own 1 (omega arith)))
  next_found (suc (suc zero)) h = told_reset own 2 small own_is_reset (rw (eqb_refl own))
  next_found (suc (suc (suc r))) h = absurd (omega arith)

  after_own : (r : ℕ) → r ≤ largest_reset → AllFoundIn (at_most most ∷ reset_due own ∷ []) (next_text own next r) (next ∷ r ∷ [])
  after_own r h = record { finds = next_found r h }

  latch_found : (r : ℕ) → r ≤ largest_reset
      → FoundIn (in_turn (exactly own ∷ space ∷ at_most most ∷ reset_due own ∷ [])) (ended own space_byte ++ next_text own next r) (next ∷ r ∷ [])
  latch_found r h = (found_joined (exactly_ended own space_byte small refl) (after_own r h)).finds

-- ════════ All lines ════════

-- No number of a good circuit is too large.
largest_small : (s : Sizes) → Fitting s → largest_literal (circuit s) ≤ largest_number
unfolding inputs_limit latches_limit gates_limit outputs_limit largest_number
largest_small s f = omega arith

module _ (ws : List ℕ) (good : GoodCircuit ws) where
  abbrev s : Sizes
  s = sizes ws

  small : largest_literal (circuit s) ≤ largest_number
  small = largest_small s good.fitting

  inputs_found : AllFoundIn (map input_due (numbers 0 s.inputs)) (each (numbers 0 s.inputs) input_line) (each (numbers 0 s.inputs) (λ i. []))
  inputs_found = found_lines input_due input_line (λ i. []) s.inputs (λ i h. input_found i (omega (arith, small)))

  latches_found : AllFoundIn (map (latch_due s) (numbers 0 s.latches)) (each (numbers 0 s.latches) (latch_line s ws)) (latch_numbers s ws)
  latches_found =
      found_lines (latch_due s) (latch_line s ws) (λ i. pair_at ws (latch_place (circuit s) i)) s.latches
      (λ i h.
      let right = good.latches_right i h in
      latch_found (latch_literal s i) (word ws (latch_place (circuit s) i)) (largest_literal (circuit s)) (omega (arith, small)) (omega arith)
      right.next_in_range small (word ws (latch_place (circuit s) i + 1)) right.reset_in_range)

  outputs_found : AllFoundIn (map (output_due s) (numbers 0 s.outputs)) (each (numbers 0 s.outputs) (output_line s ws)) (output_numbers s ws)
  outputs_found =
      found_lines (output_due s) (output_line s ws) (λ o. one_at ws (output_place s o)) s.outputs
      (λ o h. output_found (word ws (output_place s o)) (largest_literal (circuit s)) (good.outputs_right o h) small)

  gates_found : AllFoundIn (map (gate_due s) (numbers 0 s.gates)) (each (numbers 0 s.gates) (gate_line s ws)) (gate_numbers s ws)
  gates_found =
      found_lines (gate_due s) (gate_line s ws) (λ j. pair_at ws (gate_place (circuit s) j)) s.gates
      (λ j h.
      let right = good.gates_right j h in
      gate_found (gate_literal s j) (word ws (gate_place (circuit s) j)) (word ws (gate_place (circuit s) j + 1)) (omega (arith, small))
      right.left_below right.right_below)

  -- The lines with the newline that ends the header, and what is kept of them.
  abbrev lines_text : List ℕ
  lines_text =
      (newline_byte ∷ [])
      ++ each (numbers 0 s.inputs) input_line
      ++ each (numbers 0 s.latches) (latch_line s ws)
      ++ each (numbers 0 s.outputs) (output_line s ws)
      ++ each (numbers 0 s.gates) (gate_line s ws)

  newline_found : AllFoundIn (newline ∷ []) (newline_byte ∷ []) []
  newline_found = record { finds = λ p rest. let place : suc p ≡ p + 1 = omega arith in rw place }

  none_kept : (ns : List ℕ) → each {B = ℕ} ns (λ i. []) ≡ []
  none_kept [] = refl
  none_kept (n ∷ ns) = none_kept ns

  lines_found : AllFoundIn (lines_due s) lines_text ((latch_numbers s ws ++ output_numbers s ws) ++ gate_numbers s ws)
  lines_found =
      let no_numbers : each {B = ℕ} (numbers 0 s.inputs) (λ i. []) ≡ [] = none_kept (numbers 0 s.inputs) in
      let to_inputs = found_joined newline_found (rw no_numbers at inputs_found) in
      found_joined (found_joined (found_joined to_inputs latches_found) outputs_found) gates_found

-- ════════ The header ════════

told_found : AllFoundIn (told (bytes_of "aag") ∷ space ∷ []) (bytes_of "aag ") []
told_found = record { finds = λ p rest. let place : suc (p + 3) ≡ p + 4 = omega arith in rw place }

-- `aag M I L O`, and the space before A.
abbrev front_text : ℕ → ℕ → ℕ → ℕ → List ℕ
front_text m i l o = bytes_of "aag " ++ ended m space_byte ++ ended i space_byte ++ ended l space_byte ++ ended o space_byte

abbrev front_due : List Reader
front_due =
    (told (bytes_of "aag") ∷ space ∷ [])
    ++ (at_most largest_number ∷ space ∷ [])
    ++ (at_most inputs_limit ∷ space ∷ [])
    ++ (at_most latches_limit ∷ space ∷ [])
    ++ (at_most outputs_limit ∷ space ∷ [])

limits_small : (inputs_limit ≤ largest_number) × (latches_limit ≤ largest_number) × (outputs_limit ≤ largest_number) × (gates_limit ≤ largest_number)
unfolding inputs_limit latches_limit gates_limit outputs_limit largest_number
limits_small = (omega arith, omega arith, omega arith, omega arith)

module _ (m i l o a : ℕ) (hm : m ≤ largest_number) (hi : i ≤ inputs_limit) (hl : l ≤ latches_limit) (ho : o ≤ outputs_limit) (ha : a ≤ gates_limit) where
  front_found : AllFoundIn front_due (front_text m i l o) (m ∷ i ∷ l ∷ o ∷ [])
  front_found =
      let to_m = found_joined told_found (at_most_ended m largest_number space_byte hm (omega arith) refl) in
      let to-i = found_joined to_m (at_most_ended i inputs_limit space_byte hi limits_small.0 refl) in
      let to-l = found_joined to-i (at_most_ended l latches_limit space_byte hl limits_small.1 refl) in
      found_joined to-l (at_most_ended o outputs_limit space_byte ho limits_small.2 refl)

  opening_found : (rest : List ℕ) → in_turn opening 0 (front_text m i l o ++ (decimal a ++ newline_byte ∷ rest))
      ≡ found (m ∷ i ∷ l ∷ o ∷ a ∷ []) (length (front_text m i l o) + length (decimal a)) (newline_byte ∷ rest)
  opening_found rest =
      let front = front_text m i l o in
      let text = decimal a ++ newline_byte ∷ rest in
      let last : number (λ k. leb k gates_limit) (0 + length front) text ≡ found (a ∷ []) (0 + length front + length (decimal a)) (newline_byte ∷ rest) =
      number_found (λ k. leb k gates_limit) a (omega (arith, limits_small.3)) (le-leb a gates_limit ha) (0 + length front) newline_byte rest refl in
      let place : 0 + length front + length (decimal a) ≡ length front + length (decimal a) = omega arith in
      in_turn_append front_due (at_most gates_limit ∷ []) 0 (front ++ text)
      ∙ ap (λ (r : Reading). and_then r (in_turn (at_most gates_limit ∷ []))) (front_found.finds 0 text)
      ∙ ap (ahead (m ∷ i ∷ l ∷ o ∷ [])) (in_turn_one (at_most gates_limit) (0 + length front) text ∙ last)
      ∙ ap (λ (p : ℕ). found (m ∷ i ∷ l ∷ o ∷ a ∷ []) p (newline_byte ∷ rest)) place

-- ════════ The whole text ════════

module _ (ws : List ℕ) (good : GoodCircuit ws) where
  fitting : Fitting (sizes ws)
  fitting = good.fitting

  abbrev front : List ℕ
  front = front_text (largest_variable (sizes ws)) (sizes ws).inputs (sizes ws).latches (sizes ws).outputs

  abbrev inputs_text : List ℕ
  inputs_text = each (numbers 0 (sizes ws).inputs) input_line

  abbrev latches_text : List ℕ
  latches_text = each (numbers 0 (sizes ws).latches) (latch_line (sizes ws) ws)

  abbrev outputs_text : List ℕ
  outputs_text = each (numbers 0 (sizes ws).outputs) (output_line (sizes ws) ws)

  abbrev gates_text : List ℕ
  gates_text = each (numbers 0 (sizes ws).gates) (gate_line (sizes ws) ws)

  -- The text as the header up to A's word, and the lines with the newline before them.
  text_parted : circuit_text ws ≡ (front ++ decimal (sizes ws).gates) ++ lines_text ws good
  unfolding circuit_text
  text_parted =
      let a = decimal (sizes ws).gates in
      let nl = newline_byte ∷ [] in
      let header : front ++ (a ++ nl) ≡ (front ++ a) ++ nl = sym (append_assoc front a nl) in
      ap (λ (t : List ℕ). t ++ inputs_text ++ latches_text ++ outputs_text ++ gates_text) header
      ∙ ap (λ (t : List ℕ). t ++ latches_text ++ outputs_text ++ gates_text) (append_assoc (front ++ a) nl inputs_text)
      ∙ ap (λ (t : List ℕ). t ++ outputs_text ++ gates_text) (append_assoc (front ++ a) (nl ++ inputs_text) latches_text)
      ∙ ap (λ (t : List ℕ). t ++ gates_text) (append_assoc (front ++ a) (nl ++ inputs_text ++ latches_text) outputs_text)
      ∙ append_assoc (front ++ a) (nl ++ inputs_text ++ latches_text ++ outputs_text) gates_text

  pub written_read : (rest : List ℕ) → circuit_read (circuit_text ws ++ rest) ≡ found ws (length (circuit_text ws)) rest
  unfolding circuit_read
  written_read rest =
      let s = sizes ws in
      let a = decimal s.gates in
      let lines = lines_text ws good in
      let q = length front + length a in
      let numbers_kept = (latch_numbers s ws ++ output_numbers s ws) ++ gate_numbers s ws in
      let text : circuit_text ws ++ rest ≡ front ++ (a ++ (lines ++ rest)) =
      rw text_parted (append_assoc (front ++ a) lines rest ∙ append_assoc front a (lines ++ rest)) in
      let opened : in_turn opening 0 (circuit_text ws ++ rest) ≡ found (largest_variable s ∷ s.inputs ∷ s.latches ∷ s.outputs ∷ s.gates ∷ []) q (lines ++ rest) =
      rw text (opening_found (largest_variable s) s.inputs s.latches s.outputs s.gates (omega (arith, small ws good)) fitting.inputs_within fitting.latches_within fitting.outputs_within fitting.gates_within _) in
      let place : q + length lines ≡ length (circuit_text ws) = rw (text_parted, length-append (front ++ a) lines, length-append front a) in
      ap after_opening opened
      ∙ rw (eqb_refl (largest_variable s), (lines_found ws good).finds q rest, words_are ws good.length_right, place)
