-- A circuit's words by their places: the header, the latches, the gates, the outputs, one after another. Assumes nothing.
use mathlib.Core.Path.{◌≡◌, refl, sym, ◌∙◌, ap}
use mathlib.Core.List.{List, [], ◌∷◌, ◌++◌, append_assoc}
use Prim.Native.Nat.{ℕ, zero, suc, ◌+◌, ◌*◌, ◌≤◌, ◌<◌}
use native.Mathlib.Omega.{arith}
use lib.ListN.{length, take, drop, length-append, length-drop}
use lib.Seq.{length-take-le, drop-cons, take-add, take-length, take_at, drop_at}
use Rattle.answers.specs.Lists.{numbers, each}
use Rattle.meaning.specs.Problem.{word, latch_place, gate_place}
use Rattle.aiger.specs.Circuits.{Sizes, sizes, circuit, output_place, words_in_all}
use Rattle.aiger.specs.Texts.{in_order}

-- ════════ Each by its place ════════

abbrev pub pair_at : List ℕ → ℕ → List ℕ
pair_at ws at = word ws at ∷ word ws (at + 1) ∷ []

abbrev pub one_at : List ℕ → ℕ → List ℕ
one_at ws at = word ws at ∷ []

-- Numbers kept of the lines: none of an input, a pair of a latch, one of an output, a pair of a gate.
abbrev pub latch_numbers : Sizes → List ℕ → List ℕ
latch_numbers s ws = each (numbers 0 s.latches) (λ i. pair_at ws (latch_place (circuit s) i))

abbrev pub output_numbers : Sizes → List ℕ → List ℕ
output_numbers s ws = each (numbers 0 s.outputs) (λ o. one_at ws (output_place s o))

abbrev pub gate_numbers : Sizes → List ℕ → List ℕ
gate_numbers s ws = each (numbers 0 s.gates) (λ j. pair_at ws (gate_place (circuit s) j))

module _ (ws : List ℕ) (a : ℕ) where
  take_2 : (at : ℕ) → at + 1 < length ws → (m : ℕ) → take (2 + m) (drop at ws) ≡ pair_at ws at ++ take m (drop (at + 2) ws)
  take_2 at h m =
      let one : drop at ws ≡ word ws at ∷ drop (suc at) ws = drop-cons ws at 0 (omega arith) in
      let two : drop (suc at) ws ≡ word ws (suc at) ∷ drop (suc (suc at)) ws = drop-cons ws (suc at) 0 (omega arith) in
      let e : at + 1 ≡ suc at = omega arith in
      let f : at + 2 ≡ suc (suc at) = omega arith in
      let g : 2 + m ≡ suc (suc m) = omega arith in
      rw (one, two, e, f, g)

  pairs_from : (i n : ℕ) → a + 2 * i + 2 * n ≤ length ws
      → each (numbers i n) (λ j. pair_at ws (a + 2 * j)) ≡ take (2 * n) (drop (a + 2 * i) ws)
  pairs_from i zero h = refl
  pairs_from i (suc n) h =
      let more : 2 * suc n ≡ 2 + 2 * n = omega arith in
      let next : a + 2 * suc i ≡ a + 2 * i + 2 = omega arith in
      rw (more, take_2 (a + 2 * i) (omega arith) (2 * n), ← next) (ap (λ (l : List ℕ). pair_at ws (a + 2 * i) ++ l) (pairs_from (suc i) n (omega arith)))

  ones_from : (i n : ℕ) → a + i + n ≤ length ws → each (numbers i n) (λ j. one_at ws (a + j)) ≡ take n (drop (a + i) ws)
  ones_from i zero h = refl
  ones_from i (suc n) h =
      let one : drop (a + i) ws ≡ word ws (a + i) ∷ drop (suc (a + i)) ws = drop-cons ws (a + i) 0 (omega arith) in
      let next : suc (a + i) ≡ a + suc i = omega arith in
      rw (one, next) (ap (λ (l : List ℕ). word ws (a + i) ∷ l) (ones_from (suc i) n (omega arith)))

  pub pairs : (n : ℕ) → a + 2 * n ≤ length ws → each (numbers 0 n) (λ j. pair_at ws (a + 2 * j)) ≡ take (2 * n) (drop a ws)
  pairs n h =
      let e : a + 2 * 0 ≡ a = omega arith in
      pairs_from 0 n (omega arith) ∙ rw e

  pub ones : (n : ℕ) → a + n ≤ length ws → each (numbers 0 n) (λ j. one_at ws (a + j)) ≡ take n (drop a ws)
  ones n h =
      let e : a + 0 ≡ a = omega arith in
      ones_from 0 n (omega arith) ∙ rw e

-- ════════ All of them ════════

module _ (ws : List ℕ) (length_right : length ws ≡ words_in_all (sizes ws)) where
  -- The three parts as they lie in the words.
  latches_are : latch_numbers (sizes ws) ws ≡ take (2 * (sizes ws).latches) (drop 4 ws)
  latches_are = pairs ws 4 (sizes ws).latches (omega arith)

  gates_are : gate_numbers (sizes ws) ws ≡ take (2 * (sizes ws).gates) (drop (4 + 2 * (sizes ws).latches) ws)
  gates_are = pairs ws (4 + 2 * (sizes ws).latches) (sizes ws).gates (omega arith)

  outputs_are : output_numbers (sizes ws) ws ≡ take (sizes ws).outputs (drop (4 + 2 * (sizes ws).latches + 2 * (sizes ws).gates) ws)
  outputs_are = ones ws (4 + 2 * (sizes ws).latches + 2 * (sizes ws).gates) (sizes ws).outputs (omega arith)

-- Numbers in the order of the text's lines, put into the words' order.
pub back_in_order : (s : Sizes) (xs os gs : List ℕ) → length xs ≡ 2 * s.latches → length os ≡ s.outputs
    → in_order s ((xs ++ os) ++ gs) ≡ (((s.inputs ∷ s.latches ∷ s.gates ∷ s.outputs ∷ []) ++ xs) ++ gs) ++ os
back_in_order s xs os gs e f =
    let both : length (xs ++ os) ≡ 2 * s.latches + s.outputs = rw (length-append xs os, e, f) in
    let last : drop (2 * s.latches + s.outputs) ((xs ++ os) ++ gs) ≡ gs = drop_at (xs ++ os) gs (2 * s.latches + s.outputs) both in
    let group : (xs ++ os) ++ gs ≡ xs ++ (os ++ gs) = append_assoc xs os gs in
    let first : take (2 * s.latches) ((xs ++ os) ++ gs) ≡ xs = rw group (take_at xs (os ++ gs) (2 * s.latches) e) in
    let rest : drop (2 * s.latches) ((xs ++ os) ++ gs) ≡ os ++ gs = rw group (drop_at xs (os ++ gs) (2 * s.latches) e) in
    let middle : take s.outputs (drop (2 * s.latches) ((xs ++ os) ++ gs)) ≡ os = rw rest (take_at os gs s.outputs f) in
    rw (first, last, middle)

module _ (ws : List ℕ) (length_right : length ws ≡ words_in_all (sizes ws)) where
  within : (n at : ℕ) → at + n ≤ length ws → length (take n (drop at ws)) ≡ n
  within n at h = length-take-le n (drop at ws) (rw (length-drop at ws) (omega arith))

  header_is : take 4 ws ≡ (sizes ws).inputs ∷ (sizes ws).latches ∷ (sizes ws).gates ∷ (sizes ws).outputs ∷ []
  header_is =
      let w0 : drop 0 ws ≡ word ws 0 ∷ drop 1 ws = drop-cons ws 0 0 (omega arith) in
      let w1 : drop 1 ws ≡ word ws 1 ∷ drop 2 ws = drop-cons ws 1 0 (omega arith) in
      let w2 : drop 2 ws ≡ word ws 2 ∷ drop 3 ws = drop-cons ws 2 0 (omega arith) in
      let w3 : drop 3 ws ≡ word ws 3 ∷ drop 4 ws = drop-cons ws 3 0 (omega arith) in
      ap (take 4) (w0 ∙ ap (λ (l : List ℕ). word ws 0 ∷ l) (w1 ∙ ap (λ (l : List ℕ). word ws 1 ∷ l) (w2 ∙ ap (λ (l : List ℕ). word ws 2 ∷ l) w3)))

  pub words_are : in_order (sizes ws) ((latch_numbers (sizes ws) ws ++ output_numbers (sizes ws) ws) ++ gate_numbers (sizes ws) ws) ≡ ws
  words_are =
      let s = sizes ws in
      let gates_from = 4 + 2 * s.latches in
      let outputs_from = gates_from + 2 * s.gates in
      let xs_length : length (latch_numbers s ws) ≡ 2 * s.latches = rw (latches_are ws length_right) (within (2 * s.latches) 4 (omega arith)) in
      let os_length : length (output_numbers s ws) ≡ s.outputs = rw (outputs_are ws length_right) (within s.outputs outputs_from (omega arith)) in
      let xs = take (2 * s.latches) (drop 4 ws) in
      let gs = take (2 * s.gates) (drop gates_from ws) in
      let os = take s.outputs (drop outputs_from ws) in
      let whole : ((take 4 ws ++ xs) ++ gs) ++ os ≡ ws =
      rw (← take-add 4 (2 * s.latches) ws, ← take-add gates_from (2 * s.gates) ws, ← take-add outputs_from s.outputs ws, ← length_right) (take-length ws) in
      back_in_order s (latch_numbers s ws) (output_numbers s ws) (gate_numbers s ws) xs_length os_length
      ∙ rw (latches_are ws length_right, gates_are ws length_right, outputs_are ws length_right)
      (ap (λ (h : List ℕ). ((h ++ xs) ++ gs) ++ os) (sym header_is) ∙ whole)
