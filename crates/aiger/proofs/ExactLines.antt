-- The lines of a circuit's text, read exactly where they stand, and the numbers kept of them as the words by their places. Assumes nothing.
use mathlib.Core.Path.{◌≡◌, refl, sym, ◌∙◌}
use mathlib.Core.Bool.{Bool, true, false}
use mathlib.Core.List.{List, [], ◌∷◌, ◌++◌, map}
use Prim.Native.Nat.{ℕ, ◌+◌, ◌*◌, ◌≤◌, ◌<◌}
use native.Mathlib.Omega.{arith}
use borrow.Author.Tests.{le-leb, lt-ltb}
use lib.Dec.{leb, ltb}
use lib.ListN.{length, take, drop, length-append, length-take, length-drop, take-append-drop}
use lib.Seq.{take-add}
use Rattle.answers.specs.Lists.{numbers, each}
use Rattle.answers.specs.Limits.{largest_number, inputs_limit, latches_limit, gates_limit, outputs_limit}
use Rattle.text.specs.Readings.{space_byte, newline_byte, parts, mark, space, newline, at_most, exactly}
use Rattle.meaning.specs.Problem.{word, latch_place, gate_place}
use Rattle.meaning.specs.Check.{largest_literal}
use Rattle.aiger.specs.Circuits.{Sizes, sizes, circuit, output_place}
use Rattle.aiger.specs.Texts.{input_literal, latch_literal, gate_literal, ended, input_line, output_line, gate_line, input_due, reset_due, latch_due, output_due, below, gate_due, lines_due, in_order}
use Rattle.aiger.specs.Accepted.{latch_line_telling}
use Rattle.aiger.specs.Reads.{Fitting, numbers_kept}
use Rattle.aiger.proofs.CheckedCircuit.{GoodCircuit}
use Rattle.aiger.proofs.Kept.{each_length}
use Rattle.aiger.proofs.KeptNumbers.{in_order_length}
use Rattle.aiger.proofs.WordsInOrder.{pair_at, one_at, latch_numbers, output_numbers, gate_numbers, words_are}
use Rattle.aiger.proofs.Exact.{NoChoice, Exact, exact_by, same_parts, exact_joined, exact_lines}
use Rattle.aiger.proofs.ExactWords.{exact_mark, exact_number, exact_exactly, exact_ended}
use Rattle.aiger.proofs.ExactLatch.{exact_next}

-- ════════ One line ════════

module _ (n b : ℕ) (h : parts b ≡ true) where
  own_ended : n ≤ largest_number → Exact NoChoice (exactly n ∷ mark b ∷ []) (λ c. ended n b) []
  own_ended small = exact_ended (exact_exactly n small) b h

  pub at_most_ended : (m : ℕ) → n ≤ m → m ≤ largest_number → Exact NoChoice (at_most m ∷ mark b ∷ []) (λ c. ended n b) (n ∷ [])
  at_most_ended m within small = exact_ended (exact_number (λ k. leb k m) n (omega arith) (le-leb n m within)) b h

  below_ended : (m : ℕ) → n < m → m ≤ largest_number → Exact NoChoice (below m ∷ mark b ∷ []) (λ c. ended n b) (n ∷ [])
  below_ended m under small = exact_ended (exact_number (λ k. ltb k m) n (omega arith) (lt-ltb n m under)) b h

-- ════════ All lines ════════

none_kept : (ns : List ℕ) → each {B = ℕ} ns (λ i. []) ≡ []
none_kept [] = refl
none_kept (n ∷ ns) = none_kept ns

-- No number of a good circuit is too large.
largest_small : (s : Sizes) → Fitting s → largest_literal (circuit s) ≤ largest_number
unfolding inputs_limit latches_limit gates_limit outputs_limit largest_number
largest_small s f = omega arith

module _ (ws : List ℕ) (good : GoodCircuit ws) where
  abbrev s : Sizes
  s = sizes ws

  pub small : largest_literal (circuit s) ≤ largest_number
  small = largest_small s good.fitting

  abbrev inputs_text : List ℕ
  inputs_text = each (numbers 0 s.inputs) input_line

  abbrev latches_text : (ℕ → Bool) → List ℕ
  latches_text told = each (numbers 0 s.latches) (latch_line_telling told s ws)

  abbrev outputs_text : List ℕ
  outputs_text = each (numbers 0 s.outputs) (output_line s ws)

  abbrev gates_text : List ℕ
  gates_text = each (numbers 0 s.gates) (gate_line s ws)

  exact_inputs : Exact (ℕ → NoChoice) (map input_due (numbers 0 s.inputs)) (λ c. inputs_text) []
  exact_inputs =
      let no_numbers : each {B = ℕ} (numbers 0 s.inputs) (λ i. []) ≡ [] = none_kept (numbers 0 s.inputs) in
      rw no_numbers
      at (exact_lines (λ i. exactly (input_literal i) ∷ newline ∷ []) (λ i c. input_line i) (λ i. []) tt s.inputs
      (λ i h. own_ended (input_literal i) newline_byte refl (omega (arith, small))))

  exact_latch : (i : ℕ) → i < s.latches
      → Exact (NoChoice × Bool) (exactly (latch_literal s i) ∷ space ∷ at_most (largest_literal (circuit s)) ∷ reset_due (latch_literal s i) ∷ [])
      (λ c. latch_line_telling (λ j. c.1) s ws i) (pair_at ws (latch_place (circuit s) i))
  exact_latch i h =
      let own = latch_literal s i in
      let right = good.latches_right i h in
      exact_joined (own_ended own space_byte refl (omega (arith, small)))
      (exact_next own (omega (arith, small)) (omega arith) (word ws (latch_place (circuit s) i + 1)) right.reset_in_range
      (word ws (latch_place (circuit s) i)) (largest_literal (circuit s)) right.next_in_range small)

  exact_latches : Exact (ℕ → Bool) (map (latch_due s) (numbers 0 s.latches)) latches_text (latch_numbers s ws)
  exact_latches =
      exact_by
      (exact_lines (λ i. exactly (latch_literal s i) ∷ space ∷ at_most (largest_literal (circuit s)) ∷ reset_due (latch_literal s i) ∷ [])
      (λ i c. latch_line_telling (λ j. c.1) s ws i) (λ i. pair_at ws (latch_place (circuit s) i)) (tt, false) s.latches exact_latch)
      latches_text (λ told. (λ i. (tt, told i), refl)) (λ c. (λ i. (c i).1, refl))

  exact_outputs : Exact (ℕ → NoChoice) (map (output_due s) (numbers 0 s.outputs)) (λ c. outputs_text) (output_numbers s ws)
  exact_outputs =
      exact_lines (λ o. at_most (largest_literal (circuit s)) ∷ newline ∷ []) (λ o c. output_line s ws o) (λ o. one_at ws (output_place s o)) tt s.outputs
      (λ o h. at_most_ended (word ws (output_place s o)) newline_byte refl (largest_literal (circuit s)) (good.outputs_right o h) small)

  exact_gate : (j : ℕ) → j < s.gates
      → Exact ((NoChoice × NoChoice) × NoChoice)
      (exactly (gate_literal s j) ∷ space ∷ below (gate_literal s j) ∷ space ∷ below (gate_literal s j) ∷ newline ∷ [])
      (λ c. gate_line s ws j) (pair_at ws (gate_place (circuit s) j))
  exact_gate j h =
      let own = gate_literal s j in
      let own_small : own ≤ largest_number = omega (arith, small) in
      let right = good.gates_right j h in
      let left_one = below_ended (word ws (gate_place (circuit s) j)) space_byte refl own right.left_below own_small in
      exact_joined (exact_joined (own_ended own space_byte refl own_small) left_one)
      (below_ended (word ws (gate_place (circuit s) j + 1)) newline_byte refl own right.right_below own_small)

  exact_gates : Exact (ℕ → (NoChoice × NoChoice) × NoChoice) (map (gate_due s) (numbers 0 s.gates)) (λ c. gates_text) (gate_numbers s ws)
  exact_gates =
      exact_lines (λ j. exactly (gate_literal s j) ∷ space ∷ below (gate_literal s j) ∷ space ∷ below (gate_literal s j) ∷ newline ∷ [])
      (λ j c. gate_line s ws j) (λ j. pair_at ws (gate_place (circuit s) j)) ((tt, tt), tt) s.gates exact_gate

  -- The lines with the newline that ends the header.
  abbrev pub lines_telling : (ℕ → Bool) → List ℕ
  lines_telling told = (newline_byte ∷ []) ++ inputs_text ++ latches_text told ++ outputs_text ++ gates_text

  pub exact_lines_due : Exact (ℕ → Bool) (lines_due s) lines_telling ((latch_numbers s ws ++ output_numbers s ws) ++ gate_numbers s ws)
  exact_lines_due =
      exact_by (exact_joined (exact_joined (exact_joined (exact_joined (exact_mark newline_byte) exact_inputs) exact_latches) exact_outputs) exact_gates)
      lines_telling (λ told. (((((tt, λ i. tt), told), λ o. tt), λ j. ((tt, tt), tt)), refl)) (λ c. (c.0.0.1, refl))

-- ════════ The numbers kept ════════

module _ (s : Sizes) where
  put_together : (ns : List ℕ)
      → (take (2 * s.latches) ns ++ take s.outputs (drop (2 * s.latches) ns)) ++ drop (2 * s.latches + s.outputs) ns ≡ ns
  put_together ns = rw (← take-add (2 * s.latches) s.outputs ns) (take-append-drop (2 * s.latches + s.outputs) ns)

  -- Numbers that are put in order as the same words are the same.
  same_if_ordered : (ns ms : List ℕ) → length ns ≡ length ms → in_order s ns ≡ in_order s ms → ns ≡ ms
  same_if_ordered ns ms l e =
      let header = s.inputs ∷ s.latches ∷ s.gates ∷ s.outputs ∷ [] in
      let xs : List ℕ → List ℕ = take (2 * s.latches) in
      let gs : List ℕ → List ℕ = drop (2 * s.latches + s.outputs) in
      let os : List ℕ → List ℕ = λ ks. take s.outputs (drop (2 * s.latches) ks) in
      let to_gates =
      same_parts (header ++ xs ns ++ gs ns) (os ns) (header ++ xs ms ++ gs ms) (os ms) e (simp (length-append, length-take, length-drop, l)) in
      let to_latches = same_parts (header ++ xs ns) (gs ns) (header ++ xs ms) (gs ms) to_gates.0 (simp (length-take, l)) in
      let latches = same_parts header (xs ns) header (xs ms) to_latches.0 refl in
      sym (put_together ns) ∙ rw (latches.1, to_gates.1, to_latches.1) (put_together ms)

  -- Words that were put in order have by their places the numbers that they were made of.
  pub numbers_back : (ns : List ℕ) → length ns ≡ numbers_kept s
      → (latch_numbers s (in_order s ns) ++ output_numbers s (in_order s ns)) ++ gate_numbers s (in_order s ns) ≡ ns
  numbers_back ns counted =
      let ws = in_order s ns in
      let kept = (latch_numbers s ws ++ output_numbers s ws) ++ gate_numbers s ws in
      let as_many : length kept ≡ length ns =
      rw (
        length-append,
        length-append,
        each_length 2 (λ i. pair_at ws (latch_place (circuit s) i)) (λ i. refl),
        each_length 1 (λ o. one_at ws (output_place s o)) (λ i. refl),
        each_length 2 (λ j. pair_at ws (gate_place (circuit s) j)) (λ i. refl),
      )
      (omega arith) in
      same_if_ordered kept ns as_many (words_are ws (in_order_length s ns counted))
