-- `read_good`: the words of a text that is read without fault pass the check of a circuit's words. Assumes nothing.
use mathlib.Core.Path.{◌≡◌, refl, sym, ◌∙◌, ap, subst}
use mathlib.Core.Bool.{Bool, true, false, cond}
use mathlib.Core.List.{List, [], ◌∷◌, ◌++◌, append_assoc}
use Prim.Native.Nat.{ℕ, zero, suc, ◌+◌, ◌*◌, ◌≤◌, ◌<◌}
use native.Mathlib.Omega.{arith}
use borrow.Author.Tests.{leb-true, ltb-true, eqb-true}
use lib.Dec.{eqb}
use lib.ListN.{length, get_or, take, drop, length-append, get_or-append}
use lib.Seq.{drop-drop, get_or-append-add}
use Rattle.answers.specs.Lists.{numbers, each}
use Rattle.text.specs.Readings.{Reading, found, fault, in_turn}
use Rattle.meaning.specs.Problem.{word, latch_place, gate_place}
use Rattle.meaning.specs.Check.{largest_literal}
use Rattle.meaning.specs.Proper.{LatchRight, GateRight}
use Rattle.aiger.specs.Circuits.{Sizes, circuit, output_place, words_in_all}
use Rattle.aiger.specs.Texts.{largest_variable, opening, lines_due, sizes_read, in_order, ordered, variable_place, after_opening, circuit_read}
use Rattle.aiger.specs.Reads.{numbers_kept, Fitting}
use Rattle.aiger.proofs.Kept.{Test, pass, pass_length, pass_append, pass_first, pass_second, pass_at, each_length, Keeping}
use Rattle.aiger.proofs.KeptNumbers.{latch_tests, output_tests, gate_tests, lines_tests, lines_pass, lines_count, opening_tests, opening_passes, Opened, opened_if, in_order_length}
use Rattle.aiger.proofs.CheckedCircuit.{GoodCircuit}
use Rattle.aiger.proofs.Exact.{numbers_in, place_in, left_in, not_found}

-- ════════ Tests by place ════════

-- The c-th of the i-th, where each has m.
module _ {A : Type 0} (m : ℕ) (f : ℕ → List A) (lengths : (i : ℕ) → length (f i) ≡ m) where
  each_at : (k n i c : ℕ) (d : A) → i < n → c < m → get_or (each (numbers k n) f) (m * i + c) d ≡ get_or (f (k + i)) c d
  each_at k zero i c d h l = absurd (omega arith)
  each_at k (suc n) zero c d h l =
      let first : m * 0 + c ≡ c = omega arith in
      let same : k + 0 ≡ k = omega arith in
      let inside : c < length (f k) = rw (lengths k) l in
      rw (first, same) (get_or-append (f k) (each (numbers (suc k) n) f) d c inside)
  each_at k (suc n) (suc i) c d h l =
      let later : m * suc i + c ≡ length (f k) + (m * i + c) = rw (lengths k) (omega arith) in
      let same : suc k + i ≡ k + suc i = omega arith in
      rw (later, get_or-append-add (f k) (each (numbers (suc k) n) f) (m * i + c) d, ← same) (each_at (suc k) n i c d (omega arith) l)

-- ════════ The tests of the words ════════

abbrev latches_tests : Sizes → List Test
latches_tests s = each (numbers 0 s.latches) (latch_tests s)

abbrev gates_tests : Sizes → List Test
gates_tests s = each (numbers 0 s.gates) (gate_tests s)

abbrev outputs_tests : Sizes → List Test
outputs_tests s = each (numbers 0 s.outputs) (output_tests s)

abbrev any : Test
any n = true

abbrev words_tests : Sizes → List Test
words_tests s = (((any ∷ any ∷ any ∷ any ∷ []) ++ latches_tests s) ++ gates_tests s) ++ outputs_tests s

module _ (s : Sizes) (ns : List ℕ) (passed : pass (lines_tests s) ns ≡ true) where
  latches_count : length (latches_tests s) ≡ 2 * s.latches
  latches_count = each_length 2 (latch_tests s) (λ i. refl) s.latches 0

  gates_count : length (gates_tests s) ≡ 2 * s.gates
  gates_count = each_length 2 (gate_tests s) (λ i. refl) s.gates 0

  outputs_count : length (outputs_tests s) ≡ s.outputs
  outputs_count = each_length 1 (output_tests s) (λ i. refl) s.outputs 0 ∙ omega arith

  grouped : pass (latches_tests s ++ (outputs_tests s ++ gates_tests s)) ns ≡ true
  grouped = ap (λ (fs : List Test). pass fs ns) (sym (append_assoc (latches_tests s) (outputs_tests s) (gates_tests s))) ∙ passed

  -- The lines' numbers, part by part.
  latches_pass : pass (latches_tests s) (take (2 * s.latches) ns) ≡ true
  latches_pass = rw latches_count at (pass_first (latches_tests s) (outputs_tests s ++ gates_tests s) ns grouped)

  others_pass : pass (outputs_tests s ++ gates_tests s) (drop (2 * s.latches) ns) ≡ true
  others_pass = rw latches_count at (pass_second (latches_tests s) (outputs_tests s ++ gates_tests s) ns grouped)

  outputs_pass : pass (outputs_tests s) (take s.outputs (drop (2 * s.latches) ns)) ≡ true
  outputs_pass = rw outputs_count at (pass_first (outputs_tests s) (gates_tests s) (drop (2 * s.latches) ns) others_pass)

  gates_pass : pass (gates_tests s) (drop (2 * s.latches + s.outputs) ns) ≡ true
  gates_pass =
      let after = pass_second (outputs_tests s) (gates_tests s) (drop (2 * s.latches) ns) others_pass in
      rw (outputs_count, drop-drop s.outputs (2 * s.latches) ns) at after

  words_pass : pass (words_tests s) (in_order s ns) ≡ true
  words_pass =
      let tests = any ∷ any ∷ any ∷ any ∷ [] in
      let header = s.inputs ∷ s.latches ∷ s.gates ∷ s.outputs ∷ [] in
      let xs = take (2 * s.latches) ns in
      let gs = drop (2 * s.latches + s.outputs) ns in
      let to_latches = pass_append tests header (latches_tests s) xs refl latches_pass in
      let to-gates = pass_append (tests ++ latches_tests s) (header ++ xs) (gates_tests s) gs to_latches gates_pass in
      pass_append (tests ++ latches_tests s ++ gates_tests s) (header ++ xs ++ gs) (outputs_tests s) (take s.outputs (drop (2 * s.latches) ns)) to-gates outputs_pass

  -- A test of the words at its place.
  passes_at : (i : ℕ) → i < words_in_all s → get_or (words_tests s) i any (word (in_order s ns) i) ≡ true
  passes_at i h = pass_at (words_tests s) (in_order s ns) words_pass i (rw (length-append, length-append, length-append, latches_count, gates_count, outputs_count) (omega arith))

  latch_test : (i c : ℕ) → i < s.latches → c < 2 → get_or (words_tests s) (4 + (2 * i + c)) any ≡ get_or (latch_tests s i) c any
  latch_test i c h l =
      let head = any ∷ any ∷ any ∷ any ∷ [] in
      let in_latches : 4 + (2 * i + c) < length (head ++ latches_tests s) = rw (length-append head (latches_tests s), latches_count) (omega arith) in
      let in_gates : 4 + (2 * i + c) < length (head ++ latches_tests s ++ gates_tests s) = rw (length-append (head ++ latches_tests s) (gates_tests s)) (omega arith) in
      get_or-append (head ++ latches_tests s ++ gates_tests s) (outputs_tests s) any (4 + (2 * i + c)) in_gates
      ∙ get_or-append (head ++ latches_tests s) (gates_tests s) any (4 + (2 * i + c)) in_latches
      ∙ get_or-append-add head (latches_tests s) (2 * i + c) any
      ∙ each_at 2 (latch_tests s) (λ j. refl) 0 s.latches i c any h l

  gate_test : (j c : ℕ) → j < s.gates → c < 2 → get_or (words_tests s) (4 + 2 * s.latches + (2 * j + c)) any ≡ get_or (gate_tests s (0 + j)) c any
  gate_test j c h l =
      let head = any ∷ any ∷ any ∷ any ∷ [] in
      let front = head ++ latches_tests s in
      let front_length : length front ≡ 4 + 2 * s.latches = rw (length-append head (latches_tests s), latches_count) in
      let inside : length front + (2 * j + c) < length (front ++ gates_tests s) = rw (length-append front (gates_tests s), gates_count) (omega arith) in
      rw (← front_length)
      (get_or-append (front ++ gates_tests s) (outputs_tests s) any (length front + (2 * j + c)) inside
      ∙ get_or-append-add front (gates_tests s) (2 * j + c) any
      ∙ each_at 2 (gate_tests s) (λ i. refl) 0 s.gates j c any h l)

  output_test : (o : ℕ) → o < s.outputs → get_or (words_tests s) (4 + 2 * s.latches + 2 * s.gates + o) any ≡ get_or (output_tests s o) 0 any
  output_test o h =
      let head = any ∷ any ∷ any ∷ any ∷ [] in
      let front = head ++ latches_tests s ++ gates_tests s in
      let front_length : length front ≡ 4 + 2 * s.latches + 2 * s.gates =
      rw (length-append (head ++ latches_tests s) (gates_tests s), length-append head (latches_tests s), latches_count, gates_count) in
      let one : o ≡ 1 * o + 0 = omega arith in
      rw (← front_length)
      (get_or-append-add front (outputs_tests s) o any
      ∙ rw one (each_at 1 (output_tests s) (λ i. refl) 0 s.outputs o 0 any h (omega arith)))

  -- What the check asks.
  latch_right : (i : ℕ) → i < s.latches → LatchRight (circuit s) (in_order s ns) i
  latch_right i h =
      let next : 4 + (2 * i + 0) ≡ latch_place (circuit s) i = omega arith in
      let reset : 4 + (2 * i + 1) ≡ latch_place (circuit s) i + 1 = omega arith in
      let one = passes_at (4 + (2 * i + 0)) (omega arith) in
      let two = passes_at (4 + (2 * i + 1)) (omega arith) in
      record {
        next_in_range = leb-true _ _ (rw (latch_test i 0 h (omega arith), next) at one);
        reset_in_range = leb-true _ _ (rw (latch_test i 1 h (omega arith), reset) at two);
      }

  gate_right : (j : ℕ) → j < s.gates → GateRight (circuit s) (in_order s ns) j
  gate_right j h =
      let left : 4 + 2 * s.latches + (2 * j + 0) ≡ gate_place (circuit s) j = omega arith in
      let right : 4 + 2 * s.latches + (2 * j + 1) ≡ gate_place (circuit s) j + 1 = omega arith in
      let same : 0 + j ≡ j = omega arith in
      let one = passes_at (4 + 2 * s.latches + (2 * j + 0)) (omega arith) in
      let two = passes_at (4 + 2 * s.latches + (2 * j + 1)) (omega arith) in
      record {
        left_below = ltb-true _ _ (rw (gate_test j 0 h (omega arith), same, left) at one);
        right_below = ltb-true _ _ (rw (gate_test j 1 h (omega arith), same, right) at two);
      }

  output_right : (o : ℕ) → o < s.outputs → word (in_order s ns) (output_place s o) ≤ largest_literal (circuit s)
  output_right o h = let one = passes_at (4 + 2 * s.latches + 2 * s.gates + o) (omega arith) in leb-true _ _ (rw (output_test o h) at one)

-- ════════ The words that were read ════════

words_good : (s : Sizes) (ns : List ℕ) → Fitting s → pass (lines_tests s) ns ≡ true → GoodCircuit (in_order s ns)
words_good s ns f e =
    let counted : length ns ≡ numbers_kept s = pass_length (lines_tests s) ns e ∙ lines_count s in
    let in_all : length (in_order s ns) ≡ words_in_all s = in_order_length s ns counted in
    record {
      header_there = rw in_all (omega arith);
      fitting = f;
      length_right = in_all;
      latches_right = latch_right s ns e;
      gates_right = gate_right s ns e;
      outputs_right = output_right s ns e;
    }

abbrev Good : Reading → Type 0
Good (found ws p t) = GoodCircuit ws
Good (fault p) = Unit {0}

ordered_good : (s : Sizes) → Fitting s → (r : Reading) → Keeping (lines_tests s) r → Good (ordered s r)
ordered_good s f (found ns p t) e = words_good s ns f e
ordered_good s f (fault p) e = tt

opened_good : (ns : List ℕ) (p : ℕ) (t : List ℕ) → Opened ns → Good (after_opening (found ns p t))
opened_good ns p t o = go (eqb (word ns 0) (largest_variable (sizes_read ns)))
  where
    fits : Fitting (sizes_read ns)
    fits = record {
      inputs_within = o.inputs_within;
      latches_within = o.latches_within;
      gates_within = o.gates_within;
      outputs_within = o.outputs_within;
    }

    go : (b : Bool) → Good (cond b (ordered (sizes_read ns) (in_turn (lines_due (sizes_read ns)) p t)) (fault variable_place))
    go true = ordered_good (sizes_read ns) fits (in_turn (lines_due (sizes_read ns)) p t) (lines_pass (sizes_read ns) p t)
    go false = tt

after_good : (r : Reading) → Keeping opening_tests r → Good (after_opening r)
after_good (found ns p t) e = opened_good ns p t (opened_if ns e)
after_good (fault p) e = tt

pub read_good : (text ws : List ℕ) (p : ℕ) (left : List ℕ) → circuit_read text ≡ found ws p left → GoodCircuit ws
unfolding circuit_read
read_good text ws p left e = subst Good e (after_good (in_turn opening 0 text) (opening_passes 0 text))

-- ════════ The header and the lines ════════

-- The header's numbers, and those of the lines after it.
pub record HeaderRead (x : Reading) (ws : List ℕ) (p : ℕ) (left : List ℕ) : Type 0 where
  pub header : List ℕ
  pub place : ℕ
  pub rest : List ℕ
  pub kept : List ℕ
  pub header_is : x ≡ found header place rest
  pub variables_are : word header 0 ≡ largest_variable (sizes_read header)
  pub lines_are : in_turn (lines_due (sizes_read header)) place rest ≡ found kept p left
  pub words_made : ws ≡ in_order (sizes_read header) kept

pub header_read : (x : Reading) (ws : List ℕ) (p : ℕ) (left : List ℕ) → after_opening x ≡ found ws p left → HeaderRead x ws p left
header_read (fault o) ws p left e = absurd (not_found e)
header_read (found hs q u) ws p left e = judged (eqb (word hs 0) (largest_variable (sizes_read hs))) refl e
  where
    lines : word hs 0 ≡ largest_variable (sizes_read hs) → (y : Reading) → in_turn (lines_due (sizes_read hs)) q u ≡ y
        → ordered (sizes_read hs) y ≡ found ws p left → HeaderRead (found hs q u) ws p left
    lines m (fault o) f g = absurd (not_found g)
    lines m (found ns o v) f g =
        record {
          header = hs;
          place = q;
          rest = u;
          kept = ns;
          header_is = refl;
          variables_are = m;
          lines_are = f ∙ ap (λ (k : ℕ). found ns k v) (ap place_in g) ∙ ap (found ns p) (ap left_in g);
          words_made = sym (ap numbers_in g);
        }

    judged : (b : Bool) → eqb (word hs 0) (largest_variable (sizes_read hs)) ≡ b
        → cond b (ordered (sizes_read hs) (in_turn (lines_due (sizes_read hs)) q u)) (fault variable_place) ≡ found ws p left
        → HeaderRead (found hs q u) ws p left
    judged true f g = lines (eqb-true (word hs 0) (largest_variable (sizes_read hs)) f) (in_turn (lines_due (sizes_read hs)) q u) refl g
    judged false f g = absurd (not_found g)
