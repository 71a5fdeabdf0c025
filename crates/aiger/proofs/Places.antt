-- The lines of a circuit's text are short: neither a fault in them nor their end lies past 100,000, far before a text's largest place.
-- Assumes nothing.
use mathlib.Core.Path.{◌≡◌, refl, ap}
use mathlib.Core.Bool.{Bool, true, false, cond, ◌&&◌}
use mathlib.Core.List.{List, [], ◌∷◌, ◌++◌, map}
use Prim.Native.Nat.{ℕ, zero, suc, ◌+◌, ◌*◌, ◌≤◌, ◌<◌}
use native.Mathlib.Nat.{mul-suc}
use native.Mathlib.Omega.{arith}
use lib.Dec.{leb, ltb, eqb}
use lib.ListN.{length}
use Rattle.answers.specs.Lists.{numbers}
use Rattle.answers.proofs.Tests.{first_true}
use Rattle.text.specs.Numbers.{bytes_of, same, value, is_number}
use Rattle.answers.specs.Limits.{largest_number, longest_text, inputs_limit, latches_limit, gates_limit, outputs_limit}
use Rattle.text.specs.Readings.{Reading, found, fault, Reader, ahead, and_then, in_turn, space_byte, newline_byte, newline, space, mark, told, number, unkept, exactly, word_of, past_word}
use Rattle.text.proofs.Decimals.{length_within}
use Rattle.text.proofs.NumberLaws.{number_printed, number_within}
use Rattle.text.proofs.ReadingLaws.{in_turn_append}
use Rattle.meaning.specs.Problem.{word}
use Rattle.meaning.specs.Check.{largest_literal}
use Rattle.aiger.specs.Circuits.{Sizes, circuit}
use Rattle.aiger.specs.Texts.{opening, input_literal, latch_literal, gate_literal, largest_variable, input_due, begins_with, is_reset, as_reset, kept_as, reset_word, reset_due, latch_due, output_due, gate_due, lines_due, sizes_read, variable_place, ordered, after_opening, circuit_read}
use Rattle.aiger.proofs.KeptNumbers.{Opened, opening_kept}

-- ════════ How far a reader moves on ════════

-- The place after what was found, or that of the fault.
abbrev pub came_to : Reading → ℕ
came_to (found ns p t) = p
came_to (fault p) = p

-- At most so many bytes, also where it finds a fault.
abbrev pub Moves : ℕ → Reader → Type 0
Moves m r = (p : ℕ) (t : List ℕ) → came_to (r p t) ≤ p + m

came_ahead : (ns : List ℕ) (x : Reading) → came_to (ahead ns x) ≡ came_to x
came_ahead ns (found ms p t) = refl
came_ahead ns (fault p) = refl

module _ (m n : ℕ) where
  moves_then : (x : Reading) (r : Reader) (p : ℕ) → came_to x ≤ p + m → Moves n r → came_to (and_then x r) ≤ p + (m + n)
  moves_then (found ns q t) r p h k = rw (came_ahead ns (r q t)) (omega (arith, h, k q t))
  moves_then (fault q) r p h k = omega (arith, h)

  moves_next : (r : Reader) (rs : List Reader) → Moves m r → Moves n (in_turn rs) → Moves (m + n) (in_turn (r ∷ rs))
  moves_next r rs a b p t = moves_then (r p t) (in_turn rs) p (a p t) b

  moves_joined : (rs qs : List Reader) → Moves m (in_turn rs) → Moves n (in_turn qs) → Moves (m + n) (in_turn (rs ++ qs))
  moves_joined rs qs a b p t = rw (in_turn_append rs qs p t) (moves_then (in_turn rs p t) (in_turn qs) p (a p t) b)

-- Readers of one kind, and so much for each.
moves_each : (m : ℕ) (f : ℕ → Reader) → ((i : ℕ) → Moves m (f i)) → (n i : ℕ) → Moves (m * n) (in_turn (map f (numbers i n)))
moves_each m f k zero i p t = omega arith
moves_each m f k (suc n) i p t =
    rw (mul-suc m n) (omega (arith, moves_next m (m * n) (f i) (map f (numbers (suc i) n)) (k i) (moves_each m f k n (suc i)) p t))

-- A reader with its bytes.
pub record Mover : Type 0 where
  pub reader : Reader
  pub bytes : ℕ
  pub moves : Moves bytes reader

abbrev pub readers_of : List Mover → List Reader
readers_of [] = []
readers_of (k ∷ ks) = k.reader ∷ readers_of ks

abbrev pub bytes_in : List Mover → ℕ
bytes_in [] = 0
bytes_in (k ∷ ks) = k.bytes + bytes_in ks

pub moves_all : (ks : List Mover) → Moves (bytes_in ks) (in_turn (readers_of ks))
moves_all [] p t = omega arith
moves_all (k ∷ ks) p t = moves_next k.bytes (bytes_in ks) k.reader (readers_of ks) k.moves (moves_all ks) p t

-- ════════ What is due, one by one ════════

moves_if : (b : Bool) (ns : List ℕ) (p q : ℕ) (t : List ℕ) (m : ℕ) → (b ≡ true → q ≤ p + m) → came_to (cond b (found ns q t) (fault p)) ≤ p + m
moves_if true ns p q t m h = h refl
moves_if false ns p q t m h = omega arith

moves_mark : (b : ℕ) → Moves 1 (mark b)
moves_mark b p [] = omega arith
moves_mark b p (c ∷ t) = moves_if (eqb c b) [] p (suc p) t 1 (λ e. omega arith)

abbrev marked : ℕ → Mover
marked b = record { reader = mark b; bytes = 1; moves = moves_mark b }

abbrev named : List ℕ → Mover
named w = record {
  reader = told w;
  bytes = length w;
  moves = λ p t. moves_if (same (word_of t) w) [] p (p + length w) (past_word t) (length w) (λ e. omega arith);
}

-- A number's word has at most ten digits.
pub word_short : (w : List ℕ) → is_number w ≡ true → length w ≤ 10
unfolding largest_number
word_short w e =
    omega (arith, ap length (number_printed w e), length_within 9 (value w) (omega (arith, number_within w e)))

moves_number : (right : ℕ → Bool) → Moves 10 (number right)
moves_number right p t =
    let w = word_of t in
    moves_if (is_number w && right (value w)) (value w ∷ []) p (p + length w) (past_word t) 10
    (λ e. omega (arith, word_short w (first_true (is_number w) (right (value w)) e)))

abbrev taken : (ℕ → Bool) → Mover
taken right = record { reader = number right; bytes = 10; moves = moves_number right }

came_unkept : (x : Reading) → came_to (unkept x) ≡ came_to x
came_unkept (found ns q u) = refl
came_unkept (fault q) = refl

abbrev known : ℕ → Mover
known m = record {
  reader = exactly m;
  bytes = 10;
  moves = λ p t. rw (came_unkept (number (λ n. eqb n m) p t)) (moves_number (λ n. eqb n m) p t);
}

came_kept : (f : ℕ → ℕ) (x : Reading) → came_to (kept_as f x) ≡ came_to x
came_kept f (found ns q u) = refl
came_kept f (fault q) = refl

abbrev reset_worded : ℕ → Mover
reset_worded own = record {
  reader = reset_word own;
  bytes = 10;
  moves = λ p t. rw (came_kept (as_reset own) (number (is_reset own) p t)) (moves_number (is_reset own) p t);
}

-- ════════ The header and the lines ════════

abbrev spaced : Mover
spaced = marked space_byte

abbrev ended : Mover
ended = marked newline_byte

abbrev at_most_of : ℕ → Mover
at_most_of m = taken (λ n. leb n m)

moves_opening : Moves 58 (in_turn opening)
moves_opening =
    moves_all
    (named (bytes_of "aag")
    ∷ spaced
    ∷ at_most_of largest_number
    ∷ spaced
    ∷ at_most_of inputs_limit
    ∷ spaced
    ∷ at_most_of latches_limit
    ∷ spaced
    ∷ at_most_of outputs_limit
    ∷ spaced
    ∷ at_most_of gates_limit
    ∷ [])

moves_input : (i : ℕ) → Moves 11 (input_due i)
moves_input i = moves_all (known (input_literal i) ∷ ended ∷ [])

moves_reset : (own : ℕ) → Moves 12 (reset_due own)
moves_reset own p t =
    go (begins_with newline_byte t) (rw (came_ahead (0 ∷ []) (newline p t)) (omega (arith, moves_mark newline_byte p t)))
    (moves_all (spaced ∷ reset_worded own ∷ ended ∷ []) p t)
  where
    go : (b : Bool) → came_to (ahead (0 ∷ []) (newline p t)) ≤ p + 12 → came_to (in_turn (space ∷ reset_word own ∷ newline ∷ []) p t) ≤ p + 12
        → came_to (cond b (ahead (0 ∷ []) (newline p t)) (in_turn (space ∷ reset_word own ∷ newline ∷ []) p t)) ≤ p + 12
    go true h l = h
    go false h l = l

module _ (s : Sizes) where
  abbrev literal_of : Mover
  literal_of = at_most_of (largest_literal (circuit s))

  moves_latch : (i : ℕ) → Moves 33 (latch_due s i)
  moves_latch i =
      let own = latch_literal s i in
      moves_all (known own ∷ spaced ∷ literal_of ∷ record { reader = reset_due own; bytes = 12; moves = moves_reset own } ∷ [])

  moves_output : (o : ℕ) → Moves 11 (output_due s o)
  moves_output o = moves_all (literal_of ∷ ended ∷ [])

  moves_gate : (j : ℕ) → Moves 33 (gate_due s j)
  moves_gate j =
      let own = gate_literal s j in
      let smaller = taken (λ n. ltb n own) in
      moves_all (known own ∷ spaced ∷ smaller ∷ spaced ∷ smaller ∷ ended ∷ [])

  moves_lines : Moves (1 + 11 * s.inputs + 33 * s.latches + 11 * s.outputs + 33 * s.gates) (in_turn (lines_due s))
  moves_lines =
      let header = newline ∷ [] in
      let inputs = map input_due (numbers 0 s.inputs) in
      let latches = map (latch_due s) (numbers 0 s.latches) in
      let outputs = map (output_due s) (numbers 0 s.outputs) in
      let gates = map (gate_due s) (numbers 0 s.gates) in
      let by-inputs = moves_joined 1 (11 * s.inputs) header inputs (moves_all (ended ∷ [])) (moves_each 11 input_due moves_input s.inputs 0) in
      let by-latches = moves_joined (1 + 11 * s.inputs) (33 * s.latches) (header ++ inputs) latches by-inputs
      (moves_each 33 (latch_due s) moves_latch s.latches 0) in
      let by-outputs = moves_joined (1 + 11 * s.inputs + 33 * s.latches) (11 * s.outputs) (header ++ inputs ++ latches) outputs by-latches
      (moves_each 11 (output_due s) moves_output s.outputs 0) in
      moves_joined (1 + 11 * s.inputs + 33 * s.latches + 11 * s.outputs) (33 * s.gates) (header ++ inputs ++ latches ++ outputs) gates by-outputs
      (moves_each 33 (gate_due s) moves_gate s.gates 0)

-- ════════ The whole text ════════

module _ (text : List ℕ) where
  lines_place : (ns : List ℕ) (p : ℕ) (t : List ℕ) → Opened ns → p ≤ 58
      → came_to (ordered (sizes_read ns) (in_turn (lines_due (sizes_read ns)) p t)) < 100_000
  unfolding inputs_limit latches_limit outputs_limit gates_limit
  lines_place ns p t o h =
      let moved = moves_lines (sizes_read ns) p t in
      go (in_turn (lines_due (sizes_read ns)) p t)
      (omega (arith, moved, h, o.inputs_within, o.latches_within, o.outputs_within, o.gates_within))
    where
      go : (x : Reading) → came_to x < 100_000 → came_to (ordered (sizes_read ns) x) < 100_000
      go (found ms q u) k = k
      go (fault q) k = k

  judged_place : (x : Reading) → in_turn opening 0 text ≡ x → came_to x ≤ 58 → came_to (after_opening x) < 100_000
  judged_place (fault p) e h = omega (arith, h)
  judged_place (found ns p t) e h =
      go (eqb (word ns 0) (largest_variable (sizes_read ns))) (ordered (sizes_read ns) (in_turn (lines_due (sizes_read ns)) p t))
      (lines_place ns p t (opening_kept 0 text e) h)
    where
      go : (b : Bool) (x : Reading) → came_to x < 100_000 → came_to (cond b x (fault variable_place)) < 100_000
      go true x k = k
      go false x k = omega arith

  -- However long the text is.
  pub lines_short : came_to (circuit_read text) < 100_000
  unfolding circuit_read
  lines_short = judged_place (in_turn opening 0 text) refl (omega (arith, moves_opening 0 text))

  -- So no fault of the lines lies past the largest place, and neither does their end.
  pub fault_within : {p : ℕ} → circuit_read text ≡ fault p → p ≤ longest_text
  unfolding longest_text
  fault_within e = omega (arith, lines_short, ap came_to e)

  pub end_within : {ws left : List ℕ} {p : ℕ} → circuit_read text ≡ found ws p left → p ≤ longest_text
  unfolding longest_text
  end_within e = omega (arith, lines_short, ap came_to e)
