-- When the judge accepts a run with a first byte: where it meets the constraints, the loop closes and the formula holds, since 7 and 8 pass.
-- Assumes nothing.
use mathlib.Core.Path.{◌≡◌, refl, sym, ◌∙◌, ap, fun_ext}
use mathlib.Core.Bool.{Bool, true, false, beq, ◌&&◌, and-true, cond}
use mathlib.Core.List.{List, [], ◌∷◌, map}
use Prim.Native.Nat.{ℕ, zero, suc, ◌+◌, ◌*◌, ◌<◌, ◌≤◌}
use native.Mathlib.Omega.{arith}
use borrow.Author.Tests.{not-true, le-leb, eq-eqb}
use lib.Dec.{leb, eqb}
use lib.ListN.{length, get_or, take, length-map, get_or-map, get_or-append}
use lib.Seq.{get_or-take}
use Rattle.answers.specs.Lists.{numbers, numbered, all_of}
use Rattle.answers.specs.Answers.{Answer, Check, check, first_failing, granted, bad_witness, against_reset}
use Rattle.answers.proofs.Tests.{both_true, first_true, second_true, not_both, false_if_not_true, all_of_append, all_of_map}
use Rattle.answers.proofs.Answers.{passing, refusing}
use Rattle.meaning.specs.Witnesses.{constraint_broken, witness_length, shape_of, shape, first_latches, inputs_at, run, position, rows, byte_limit, byte_checks, reset_checks, loop_checks, position_checks}
use Rattle.meaning.specs.Problem.{Problem, Latch, latch}
use Rattle.meaning.specs.Runs.{values, next_values, meets_reset, meets_constraints, run_from}
use Rattle.meaning.specs.Formulas.{formula}
use Rattle.meaning.specs.Bounded.{Shape, prefix, lasso}
use Rattle.meaning.specs.LassoValue.{bounded_value}
use Rattle.meaning.specs.Calls.{accepted}
use Rattle.meaning.proofs.Numbers.{all_of_numbers, all_of_numbers_if}
use Rattle.pairing.proofs.Witnesses.{all_checks, judged_by_all, all_checks_refusing}
use Rattle.finder.specs.Runs.{Broken, resets, slots, bytes_by, run_bytes}
use Rattle.finder.proofs.Digits.{bytes_below_2, length_run}

-- ════════ The judge's yes ════════

-- No refusal has the number 0.
yes_is_passing : (cs : List Check) → all_of refusing cs ≡ true → eqb (first_failing cs (granted 0)).number 0 ≡ all_of passing cs
yes_is_passing [] r = refl
yes_is_passing (c ∷ cs) r =
    go c.passes (first_true (refusing c) (all_of refusing cs) r) (yes_is_passing cs (second_true (refusing c) (all_of refusing cs) r))
  where
    go : (b : Bool) → refusing c ≡ true → eqb (first_failing cs (granted 0)).number 0 ≡ all_of passing cs
        → eqb (cond b (first_failing cs (granted 0)) c.otherwise).number 0 ≡ b && all_of passing cs
    go true f later = later
    go false f later = not-true _ f

module _ (p : Problem) (bs : List ℕ) where
  abbrev value : Bool
  value = bounded_value (shape bs) p.bound (rows p bs) (formula p) 0

  -- 7, 8, 9, 20 and 10.
  by_parts : accepted p bs
      ≡ all_of passing (byte_checks p bs)
      && (all_of passing (reset_checks p bs) && (all_of passing (loop_checks p bs (shape bs)) && (all_of passing (position_checks p bs) && value)))
  by_parts =
      ap (λ (a : Answer). eqb a.number 0) (judged_by_all p bs)
      ∙ yes_is_passing (all_checks p bs) (all_checks_refusing p bs)
      ∙ simp (all_of_append, and-true)

  abbrev reset_test : ℕ → Bool
  reset_test i = meets_reset (latch p i).reset (get_or (first_latches p bs) i false)

  resets_passing : all_of passing (reset_checks p bs) ≡ all_of reset_test (numbers 0 (length p.latches))
  resets_passing = all_of_map passing (λ i. check (reset_test i) (against_reset (1 + i))) (numbers 0 (length p.latches))

  abbrev met_at : ℕ → Bool
  met_at t = meets_constraints p (position p bs t)

  positions_passing : all_of passing (position_checks p bs) ≡ all_of met_at (numbers 0 (p.bound + 1))
  positions_passing = all_of_map passing (λ t. check (met_at t) (constraint_broken t)) (numbers 0 (p.bound + 1))

-- A latch by its byte.
latch_byte : (p : Problem) (b : ℕ) (xs : List ℕ) (i : ℕ) → i < length p.latches → get_or (first_latches p (b ∷ xs)) i false ≡ eqb (get_or xs i 0) 1
latch_byte p b xs i h =
    get_or-map (λ (x : ℕ). eqb x 1) (take (length p.latches) xs) i 0
    ∙ ap (λ (x : ℕ). eqb x 1) (get_or-take (length p.latches) xs i 0 h)

-- Each latch of an accepted run starts by its reset.
pub accepted_meets : (p : Problem) (b : ℕ) (xs : List ℕ) → accepted p (b ∷ xs) ≡ true → (i : ℕ) → i < length p.latches
    → meets_reset (latch p i).reset (eqb (get_or xs i 0) 1) ≡ true
accepted_meets p b xs e i h =
    let bs : List ℕ = b ∷ xs in
    let parts = sym (by_parts p bs) ∙ e in
    let later = second_true (all_of passing (byte_checks p bs)) _ parts in
    let pass = first_true (all_of passing (reset_checks p bs)) _ later in
    ap (meets_reset (latch p i).reset) (sym (latch_byte p b xs i h))
    ∙ all_of_numbers (reset_test p bs) (length p.latches) (sym (resets_passing p bs) ∙ pass) i h

-- ════════ The run does not depend on the first byte ════════

module _ (p : Problem) (b c : ℕ) (xs : List ℕ) where
  same_inputs : (t : ℕ) → inputs_at p (b ∷ xs) t ≡ inputs_at p (c ∷ xs) t
  same_inputs t =
      let place : 1 + length p.latches + p.inputs * t ≡ suc (length p.latches + p.inputs * t) = omega arith in
      rw place

  same_run : run p (b ∷ xs) ≡ run p (c ∷ xs)
  unfolding run
  same_run =
      ap (λ (f : ℕ → List Bool). run_from p (first_latches p (b ∷ xs)) (map f (numbers 0 (p.bound + 1)))) (fun_ext same_inputs)

  pub same_position : (t : ℕ) → position p (b ∷ xs) t ≡ position p (c ∷ xs) t
  same_position t = rw same_run

  pub same_rows : rows p (b ∷ xs) ≡ rows p (c ∷ xs)
  same_rows = fun_ext (λ t. ap (values p) (same_position t))

-- ════════ 7 and 8 pass ════════

-- A free latch meets its reset, a fixed one is by it.
bytes_meet : (rs : List ℕ) (m i : ℕ) → meets_reset (get_or rs i 2) (eqb (get_or (bytes_by rs m) i 0) 1) ≡ true
bytes_meet [] m i = refl
bytes_meet (zero ∷ rs) m zero = refl
bytes_meet (zero ∷ rs) m (suc i) = bytes_meet rs m i
bytes_meet (suc zero ∷ rs) m zero = refl
bytes_meet (suc zero ∷ rs) m (suc i) = bytes_meet rs m i
bytes_meet (suc (suc r) ∷ rs) m zero = refl
bytes_meet (suc (suc r) ∷ rs) m (suc i) = bytes_meet rs m i

module _ (p : Problem) (m : ℕ) where
  resets_pass : (b : ℕ) → all_of passing (reset_checks p (b ∷ run_bytes p m)) ≡ true
  unfolding run_bytes
  resets_pass b =
      resets_passing p (b ∷ run_bytes p m)
      ∙ all_of_numbers_if (reset_test p (b ∷ run_bytes p m)) (length p.latches) (λ i h.
      rw (latch_byte p b (run_bytes p m) i h) (rw (reset_of i h) at (bytes_meet (slots p) m i)))
    where
      reset_of : (i : ℕ) → i < length p.latches → get_or (slots p) i 2 ≡ (latch p i).reset
      reset_of i h =
          get_or-append (resets p) _ 2 i (rw length-map h)
          ∙ get_or-map (λ (c : Latch). c.reset) p.latches i (record { next = 0; reset = 2 })

-- The bytes after the first.
later_bytes_pass : (p : Problem) (i : ℕ) (xs : List ℕ) → ((j : ℕ) → get_or xs j 0 ≤ 1)
    → all_of passing (numbered (suc i) xs (λ i b. check (leb b (byte_limit p i)) (bad_witness i))) ≡ true
later_bytes_pass p i [] h = refl
later_bytes_pass p i (x ∷ xs) h = both_true (le-leb x 1 (h 0)) (later_bytes_pass p (suc i) xs (λ j. h (suc j)))

bytes_pass : (p : Problem) (m b : ℕ) → b ≤ p.bound + 1 → all_of passing (byte_checks p (b ∷ run_bytes p m)) ≡ true
unfolding run_bytes
bytes_pass p m b h =
    both_true (eq-eqb (suc (length (run_bytes p m))) (witness_length p) (length_run p b m))
    (both_true (le-leb b (p.bound + 1) h) (later_bytes_pass p 0 (run_bytes p m) (bytes_below_2 (slots p) m)))

-- ════════ 20 ════════

-- Each position of an accepted run meets the constraints.
met_if_accepted : (p : Problem) (bs : List ℕ) → accepted p bs ≡ true → (t : ℕ) → t ≤ p.bound → meets_constraints p (position p bs t) ≡ true
met_if_accepted p bs e t h =
    let parts = sym (by_parts p bs) ∙ e in
    let after-7 = second_true (all_of passing (byte_checks p bs)) _ parts in
    let after-8 = second_true (all_of passing (reset_checks p bs)) _ after-7 in
    let after-9 = second_true (all_of passing (loop_checks p bs (shape bs))) _ after-8 in
    let pass = first_true (all_of passing (position_checks p bs)) _ after-9 in
    all_of_numbers (met_at p bs) (p.bound + 1) (sym (positions_passing p bs) ∙ pass) t (omega arith)

module _ (p : Problem) (m : ℕ) where
  -- So a run that breaks one is no witness, whatever its first byte.
  pub broken_refused : Broken p m → (b : ℕ) → accepted p (b ∷ run_bytes p m) ≡ false
  broken_refused x b =
      false_if_not_true _
      (λ e. not_both (met_if_accepted p (b ∷ run_bytes p m) e x.at x.within)
      (ap (meets_constraints p) (same_position p b 0 (run_bytes p m) x.at) ∙ x.broken))

  positions_pass : ((t : ℕ) → t ≤ p.bound → meets_constraints p (position p (0 ∷ run_bytes p m) t) ≡ true) → (b : ℕ)
      → all_of passing (position_checks p (b ∷ run_bytes p m)) ≡ true
  positions_pass met b =
      positions_passing p (b ∷ run_bytes p m)
      ∙ all_of_numbers_if (met_at p (b ∷ run_bytes p m)) (p.bound + 1) (λ t h.
      ap (meets_constraints p) (same_position p b 0 (run_bytes p m) t) ∙ met t (omega arith))

-- ════════ 9 and 10 ════════

-- The next values at k are the latches at l.
abbrev pub closing : Problem → List ℕ → Shape → Bool
closing p bs prefix = true
closing p bs (lasso l) =
    all_of
    (λ i. beq (get_or (next_values p (position p bs p.bound)) i false) (get_or (position p bs l).latches i false))
    (numbers 0 (length p.latches))

loop_passing : (p : Problem) (bs : List ℕ) (s : Shape) → all_of passing (loop_checks p bs s) ≡ closing p bs s
loop_passing p bs prefix = refl
loop_passing p bs (lasso l) = all_of_map passing _ (numbers 0 (length p.latches))

same_closing : (p : Problem) (b c : ℕ) (xs : List ℕ) (s : Shape) → closing p (b ∷ xs) s ≡ closing p (c ∷ xs) s
same_closing p b c xs prefix = refl
same_closing p b c xs (lasso l) = simp (same_position p b c xs)

-- Of a run that meets the constraints, with a first byte within its limit.
pub accepted_is : (p : Problem) (m first : ℕ) → first ≤ p.bound + 1
    → ((t : ℕ) → t ≤ p.bound → meets_constraints p (position p (0 ∷ run_bytes p m) t) ≡ true)
    → accepted p (first ∷ run_bytes p m)
    ≡ closing p (0 ∷ run_bytes p m) (shape_of first) && bounded_value (shape_of first) p.bound (rows p (0 ∷ run_bytes p m)) (formula p) 0
accepted_is p m first h met =
    by_parts p (first ∷ run_bytes p m)
    ∙ rw (bytes_pass p m first h, resets_pass p m first, positions_pass p m met first, loop_passing p (first ∷ run_bytes p m) (shape_of first), same_closing p first 0 (run_bytes p m) (shape_of first), same_rows p first 0 (run_bytes p m))
