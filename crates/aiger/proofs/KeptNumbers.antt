-- What the header and the lines of a circuit's text keep: five sizes within their limits; a pair of a latch, one number of an output, a pair of a gate.
-- Assumes nothing.
use mathlib.Core.Path.{◌≡◌, refl, ◌∙◌}
use mathlib.Core.Logic.{◌⊎◌, inl, inr}
use mathlib.Core.Bool.{Bool, true, false, cond, ◌||◌, false≢true}
use mathlib.Core.List.{List, [], ◌∷◌, ◌++◌, map}
use Prim.Native.Nat.{ℕ, ◌≤◌}
use native.Mathlib.Omega.{arith}
use borrow.Author.Tests.{leb-true, le-leb, eqb-true}
use lib.Dec.{leb, eqb}
use lib.ListN.{length, length-append, length-take, length-drop}
use Rattle.answers.specs.Lists.{numbers, each}
use Rattle.answers.proofs.Tests.{both_true, first_true, second_true, one_true}
use Rattle.text.specs.Numbers.{bytes_of}
use Rattle.answers.specs.Limits.{largest_number, inputs_limit, latches_limit, gates_limit, outputs_limit}
use Rattle.text.specs.Readings.{Reading, found, fault, Reader, ahead, in_turn, space, newline, number, space_byte, newline_byte}
use Rattle.meaning.specs.Problem.{word}
use Rattle.meaning.specs.Check.{largest_literal, largest_reset}
use Rattle.aiger.specs.Circuits.{Sizes, circuit, words_in_all}
use Rattle.aiger.specs.Texts.{opening, input_literal, input_due, begins_with, is_reset, as_reset, kept_as, reset_word, reset_due, latch_due, output_due, gate_literal, gate_due, latch_literal, lines_due, in_order}
use Rattle.aiger.specs.Reads.{numbers_kept}
use Rattle.aiger.proofs.Kept.{Test, pass, pass_length, pass_at, each_length, Keeping, KeptBy, kept_found, keeping_ahead, kept_mark, turn_none, turn_next, turn_append, turn_each, Keeper, turn_all, marked, named, known, kept_number, taken, within, under}

-- ════════ The header ════════

abbrev pub opening_tests : List Test
opening_tests = within largest_number ∷ within inputs_limit ∷ within latches_limit ∷ within outputs_limit ∷ within gates_limit ∷ []

abbrev spaced : Keeper
spaced = marked space_byte

pub opening_passes : KeptBy opening_tests (in_turn opening)
opening_passes =
    turn_all
    (named (bytes_of "aag")
    ∷ spaced
    ∷ taken (within largest_number)
    ∷ spaced
    ∷ taken (within inputs_limit)
    ∷ spaced
    ∷ taken (within latches_limit)
    ∷ spaced
    ∷ taken (within outputs_limit)
    ∷ spaced
    ∷ taken (within gates_limit)
    ∷ [])

-- M, I, L, O and A.
pub record Opened (ns : List ℕ) : Type 0 where
  pub five : length ns ≡ 5
  pub variables_within : word ns 0 ≤ largest_number
  pub inputs_within : word ns 1 ≤ inputs_limit
  pub latches_within : word ns 2 ≤ latches_limit
  pub outputs_within : word ns 3 ≤ outputs_limit
  pub gates_within : word ns 4 ≤ gates_limit

pub opened_if : (ns : List ℕ) → pass opening_tests ns ≡ true → Opened ns
opened_if ns e = record {
  five = pass_length opening_tests ns e;
  variables_within = leb-true _ _ (pass_at opening_tests ns e 0 (omega arith));
  inputs_within = leb-true _ _ (pass_at opening_tests ns e 1 (omega arith));
  latches_within = leb-true _ _ (pass_at opening_tests ns e 2 (omega arith));
  outputs_within = leb-true _ _ (pass_at opening_tests ns e 3 (omega arith));
  gates_within = leb-true _ _ (pass_at opening_tests ns e 4 (omega arith));
}

pub opening_kept : (p : ℕ) (text : List ℕ) {ns : List ℕ} {q : ℕ} {rest : List ℕ} → in_turn opening p text ≡ found ns q rest → Opened ns
opening_kept p text {ns} e = opened_if ns (kept_found opening_tests (opening_passes p text) e)

-- ════════ A latch's reset ════════

keeping_either : (fs : List Test) (b : Bool) (x y : Reading) → Keeping fs x → Keeping fs y → Keeping fs (cond b x y)
keeping_either fs true x y a c = a
keeping_either fs false x y a c = c

pass_one : (f g : Test) (h : ℕ → ℕ) → ((n : ℕ) → f n ≡ true → g (h n) ≡ true) → (ns : List ℕ) → pass (f ∷ []) ns ≡ true → pass (g ∷ []) (map h ns) ≡ true
pass_one f g h k [] e = absurd (false≢true e)
pass_one f g h k (n ∷ []) e = both_true (k n (first_true (f n) true e)) refl
pass_one f g h k (n ∷ m ∷ ns) e = absurd (false≢true (second_true (f n) false e))

keeping_as : (f g : Test) (h : ℕ → ℕ) → ((n : ℕ) → f n ≡ true → g (h n) ≡ true) → (r : Reading) → Keeping (f ∷ []) r → Keeping (g ∷ []) (kept_as h r)
keeping_as f g h k (found ns p t) e = pass_one f g h k ns e
keeping_as f g h k (fault p) e = tt

-- 0, 1, or 2 for the latch's own literal.
reset_within : (own n : ℕ) → is_reset own n ≡ true → within largest_reset (as_reset own n) ≡ true
reset_within own n e = go (eqb n own) e
  where
    small : (eqb n 0 ≡ true) ⊎ (eqb n 1 ≡ true) → n ≤ 2
    small (inl z) = let is = eqb-true n 0 z in omega arith
    small (inr o) = let is = eqb-true n 1 o in omega arith

    first : (eqb n 0 || eqb n 1 ≡ true) ⊎ (false ≡ true) → n ≤ 2
    first (inl q) = small (one_true (eqb n 0) (eqb n 1) q)
    first (inr q) = absurd (false≢true q)

    go : (b : Bool) → eqb n 0 || eqb n 1 || b ≡ true → leb (cond b 2 n) largest_reset ≡ true
    go true q = refl
    go false q = le-leb n 2 (first (one_true (eqb n 0 || eqb n 1) false q))

abbrev reset_worded : ℕ → Keeper
reset_worded own = record {
  reader = reset_word own;
  tests = within largest_reset ∷ [];
  kept = λ p t. keeping_as (is_reset own) (within largest_reset) (as_reset own) (reset_within own) (number (is_reset own) p t) (kept_number (is_reset own) p t);
}

abbrev ended : Keeper
ended = marked newline_byte

pub reset_passes : (own : ℕ) → KeptBy (within largest_reset ∷ []) (reset_due own)
reset_passes own p t =
    keeping_either (within largest_reset ∷ []) (begins_with newline_byte t) (ahead (0 ∷ []) (newline p t))
    (in_turn (space ∷ reset_word own ∷ newline ∷ []) p t)
    (keeping_ahead (within largest_reset ∷ []) (0 ∷ []) [] (newline p t) refl (kept_mark newline_byte p t))
    (turn_all (spaced ∷ reset_worded own ∷ ended ∷ []) p t)

-- ════════ The lines ════════

abbrev pub latch_tests : Sizes → ℕ → List Test
latch_tests s i = within (largest_literal (circuit s)) ∷ within largest_reset ∷ []

abbrev pub output_tests : Sizes → ℕ → List Test
output_tests s o = within (largest_literal (circuit s)) ∷ []

abbrev pub gate_tests : Sizes → ℕ → List Test
gate_tests s j = under (gate_literal s j) ∷ under (gate_literal s j) ∷ []

abbrev pub lines_tests : Sizes → List Test
lines_tests s =
    each (numbers 0 s.latches) (latch_tests s)
    ++ each (numbers 0 s.outputs) (output_tests s)
    ++ each (numbers 0 s.gates) (gate_tests s)

pub input_passes : (i : ℕ) → KeptBy [] (input_due i)
input_passes i = turn_all (known (input_literal i) ∷ ended ∷ [])

pub latch_passes : (s : Sizes) (i : ℕ) → KeptBy (latch_tests s i) (latch_due s i)
latch_passes s i =
    turn_all
    (known (latch_literal s i)
    ∷ spaced
    ∷ taken (within (largest_literal (circuit s)))
    ∷ record { reader = reset_due (latch_literal s i); tests = within largest_reset ∷ []; kept = reset_passes (latch_literal s i) }
    ∷ [])

pub output_passes : (s : Sizes) (o : ℕ) → KeptBy (output_tests s o) (output_due s o)
output_passes s o = turn_all (taken (within (largest_literal (circuit s))) ∷ ended ∷ [])

pub gate_passes : (s : Sizes) (j : ℕ) → KeptBy (gate_tests s j) (gate_due s j)
gate_passes s j =
    let m = gate_literal s j in
    turn_all (known m ∷ spaced ∷ taken (under m) ∷ spaced ∷ taken (under m) ∷ ended ∷ [])

-- Readers that keep nothing.
turn_unkept : (f : ℕ → Reader) → ((i : ℕ) → KeptBy [] (f i)) → (is : List ℕ) → KeptBy [] (in_turn (map f is))
turn_unkept f k [] = turn_none
turn_unkept f k (i ∷ is) = turn_next [] (f i) [] (map f is) (k i) (turn_unkept f k is)

pub lines_pass : (s : Sizes) → KeptBy (lines_tests s) (in_turn (lines_due s))
lines_pass s =
    let inputs = numbers 0 s.inputs in
    let latches = numbers 0 s.latches in
    let outputs = numbers 0 s.outputs in
    let gates = numbers 0 s.gates in
    let header = newline ∷ [] in
    let to_inputs = header ++ map input_due inputs in
    let to_latches = to_inputs ++ map (latch_due s) latches in
    let to_outputs = to_latches ++ map (output_due s) outputs in
    let latches-kept = each latches (latch_tests s) in
    let outputs-kept = latches-kept ++ each outputs (output_tests s) in
    let by-inputs = turn_append [] header [] (map input_due inputs) (turn_all (ended ∷ [])) (turn_unkept input_due input_passes inputs) in
    let by-latches = turn_append [] to_inputs latches-kept (map (latch_due s) latches) by-inputs (turn_each (latch_tests s) (latch_due s) (latch_passes s) latches) in
    let by-outputs = turn_append latches-kept to_latches (each outputs (output_tests s)) (map (output_due s) outputs) by-latches
    (turn_each (output_tests s) (output_due s) (output_passes s) outputs) in
    turn_append outputs-kept to_outputs (each gates (gate_tests s)) (map (gate_due s) gates) by-outputs
    (turn_each (gate_tests s) (gate_due s) (gate_passes s) gates)

-- How many numbers that makes.
pub lines_count : (s : Sizes) → length (lines_tests s) ≡ numbers_kept s
lines_count s =
    rw (length-append, length-append, each_length 2 (latch_tests s) (λ i. refl), each_length 1 (output_tests s) (λ i. refl), each_length 2 (gate_tests s) (λ i. refl))
    (omega arith)

pub lines_kept : (s : Sizes) (p : ℕ) (text : List ℕ) {ns : List ℕ} {q : ℕ} {rest : List ℕ} → in_turn (lines_due s) p text ≡ found ns q rest
    → length ns ≡ numbers_kept s
lines_kept s p text {ns} e = pass_length (lines_tests s) ns (kept_found (lines_tests s) (lines_pass s p text) e) ∙ lines_count s

-- ════════ The words ════════

pub in_order_length : (s : Sizes) (ns : List ℕ) → length ns ≡ numbers_kept s → length (in_order s ns) ≡ words_in_all s
in_order_length s ns e =
    simp (length-append, length-take, length-drop) (omega arith)
