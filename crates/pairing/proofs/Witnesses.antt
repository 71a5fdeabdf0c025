-- The bytes that the judge accepts are the witnesses. Assumes nothing.
use mathlib.Core.Path.{◌≡◌, refl, sym, ◌∙◌}
use mathlib.Core.Logic.{◌↔◌}
use mathlib.Core.Bool.{Bool, true, false, beq, not}
use mathlib.Core.List.{List, [], ◌∷◌, map}
use Prim.Native.Nat.{ℕ, zero, suc, ◌+◌, ◌<◌, ◌≤◌, zero-le, suc-le-suc}
use native.Mathlib.Nat.{le_of_suc-le-suc, not-suc-le-zero, add-zero, zero-add}
use native.Mathlib.Omega.{arith}
use borrow.Author.Tests.{leb-true, le-leb, eqb-true}
use lib.Dec.{leb, eqb}
use lib.ListN.{length, get_or}
use lib.Seq.{ext_get_or}
use Rattle.answers.specs.Lists.{numbers, numbered, all_of, joined}
use Rattle.answers.specs.Answers.{Check, check, first_failing, granted, bad_witness, against_reset, open_loop}
use Rattle.answers.proofs.Tests.{both_true, first_true, second_true, eqb_self, all_of_numbered, all_of_map, all_of_each}
use Rattle.answers.proofs.Answers.{passing, refusing, first_failing_passed, first_failing_joined, all_pass_if_granted, other_than}
use Rattle.meaning.specs.Witnesses.{constraint_broken, witness_length, byte, shape, first_latches, position, rows, Closes, Shows, Witness, byte_limit, byte_checks, reset_checks, loop_checks, position_checks}
use Rattle.meaning.specs.Problem.{Problem, latch}
use Rattle.meaning.specs.Runs.{next_values, meets_reset, meets_constraints, StartsRight}
use Rattle.meaning.specs.Formulas.{formula}
use Rattle.meaning.specs.Bounded.{Shape, prefix, lasso}
use Rattle.meaning.specs.LassoValue.{bounded_value}
use Rattle.meaning.specs.Calls.{witness_parts, judge_bytes}
use Rattle.meaning.proofs.ItemByItem.{◌and◌, all_of_joined}
use Rattle.meaning.proofs.Numbers.{all_of_numbers, all_of_numbers_if}
use Rattle.pairing.proofs.UntilOnLassos.{shifted}
use Rattle.pairing.proofs.Meaning.{lasso_value}
use Rattle.pairing.proofs.Runs.{length_next_values, length_latches}
use Rattle.pairing.proofs.NodeValues.{StartWithin, start_within}
use Rattle.pairing.proofs.Forms.{beq_is}

-- ════════ The order of the judge's checks ════════

record ChecksPassed (p : Problem) (bs : List ℕ) : Type 0 where
  bytes_pass : all_of passing (byte_checks p bs) ≡ true
  resets_pass : all_of passing (reset_checks p bs) ≡ true
  loop_passes : all_of passing (loop_checks p bs (shape bs)) ≡ true
  positions_pass : all_of passing (position_checks p bs) ≡ true
  formula_passes : bounded_value (shape bs) p.bound (rows p bs) (formula p) 0 ≡ true

each_refusing : (c : ℕ → Check) (is : List ℕ) → ((i : ℕ) → refusing (c i) ≡ true) → all_of refusing (map c is) ≡ true
each_refusing c [] h = refl
each_refusing c (i ∷ is) h = both_true (h i) (each_refusing c is h)

module _ (p : Problem) (bs : List ℕ) where
  byte_checks_refusing : all_of refusing (byte_checks p bs) ≡ true
  byte_checks_refusing = all_of_numbered refusing 0 bs _ (λ i b. refl)

  reset_checks_refusing : all_of refusing (reset_checks p bs) ≡ true
  reset_checks_refusing = each_refusing _ (numbers 0 (length p.latches)) (λ i. refl)

  loop_checks_refusing : (s : Shape) → all_of refusing (loop_checks p bs s) ≡ true
  loop_checks_refusing prefix = refl
  loop_checks_refusing (lasso l) = each_refusing _ (numbers 0 (length p.latches)) (λ i. refl)

  position_checks_refusing : all_of refusing (position_checks p bs) ≡ true
  position_checks_refusing = each_refusing _ (numbers 0 (p.bound + 1)) (λ t. refl)

  -- The judge's checks in one list.
  abbrev pub all_checks : List Check
  all_checks = joined (witness_parts p bs)

  pub judged_by_all : judge_bytes p bs ≡ first_failing all_checks (granted 0)
  unfolding judge_bytes
  judged_by_all = first_failing_joined (witness_parts p bs) (granted 0)

  pub all_checks_refusing : all_of refusing all_checks ≡ true
  all_checks_refusing =
      (all_of_joined refusing (witness_parts p bs)).1
      (byte_checks_refusing and reset_checks_refusing and loop_checks_refusing (shape bs) and position_checks_refusing and refl and tt)

  passed_if_granted : judge_bytes p bs ≡ granted 0 → ChecksPassed p bs
  passed_if_granted e =
      let pass = (all_of_joined passing (witness_parts p bs)).0 (all_pass_if_granted all_checks (granted 0) all_checks_refusing (sym judged_by_all ∙ e)) in
      record {
        bytes_pass = pass.0;
        resets_pass = pass.1.0;
        loop_passes = pass.1.1.0;
        positions_pass = pass.1.1.1.0;
        formula_passes = first_true _ true pass.1.1.1.1.0;
      }

  granted_if_passed : ChecksPassed p bs → judge_bytes p bs ≡ granted 0
  granted_if_passed q =
      judged_by_all
      ∙ first_failing_passed all_checks (granted 0)
      ((all_of_joined passing (witness_parts p bs)).1
      (q.bytes_pass and q.resets_pass and q.loop_passes and q.positions_pass and both_true q.formula_passes refl and tt))

-- ════════ The bytes ════════

module _ {A : Type 0} (f : A → Bool) (g : ℕ → ℕ → A) where
  all_of_numbered_at : (i : ℕ) (bs : List ℕ) (j : ℕ) → all_of f (numbered i bs g) ≡ true → j < length bs → f (g (i + j) (byte bs j)) ≡ true
  all_of_numbered_at i [] j e h = absurd (not-suc-le-zero h)
  all_of_numbered_at i (b ∷ bs) zero e h = rw add-zero (first_true (f (g i b)) _ e)
  all_of_numbered_at i (b ∷ bs) (suc j) e h =
      rw (← shifted) (all_of_numbered_at (suc i) bs j (second_true (f (g i b)) _ e) (le_of_suc-le-suc h))

  all_of_numbered_if_at : (i : ℕ) (bs : List ℕ) → ((j : ℕ) → j < length bs → f (g (i + j) (byte bs j)) ≡ true)
      → all_of f (numbered i bs g) ≡ true
  all_of_numbered_if_at i [] h = refl
  all_of_numbered_if_at i (b ∷ bs) h =
      both_true (rw add-zero at (h 0 (suc-le-suc zero-le)))
      (all_of_numbered_if_at (suc i) bs (λ j q. rw shifted (h (suc j) (suc-le-suc q))))

module _ (p : Problem) (bs : List ℕ) where
  abbrev byte_check : ℕ → ℕ → Check
  byte_check i b = check (leb b (byte_limit p i)) (bad_witness i)

  length_if_passes : all_of passing (byte_checks p bs) ≡ true → length bs ≡ witness_length p
  length_if_passes e = eqb-true (length bs) (witness_length p) (first_true _ _ e)

  bytes_if_pass : all_of passing (byte_checks p bs) ≡ true → (i : ℕ) → i < length bs → byte bs i ≤ byte_limit p i
  bytes_if_pass e i h =
      leb-true (byte bs i) (byte_limit p i)
      (rw zero-add at (all_of_numbered_at passing byte_check 0 bs i (second_true (eqb (length bs) (witness_length p)) _ e) h))

  pass_if_bytes : length bs ≡ witness_length p → ((i : ℕ) → i < length bs → byte bs i ≤ byte_limit p i)
      → all_of passing (byte_checks p bs) ≡ true
  pass_if_bytes e h =
      let same_length : eqb (length bs) (witness_length p) ≡ true = rw e (eqb_self (witness_length p)) in
      both_true same_length
      (all_of_numbered_if_at passing byte_check 0 bs (λ i q. rw zero-add (le-leb (byte bs i) (byte_limit p i) (h i q))))

-- ════════ The resets ════════

module _ (p : Problem) (bs : List ℕ) where
  abbrev reset_test : ℕ → Bool
  reset_test i = meets_reset (latch p i).reset (get_or (first_latches p bs) i false)

  abbrev reset_check : ℕ → Check
  reset_check i = check (reset_test i) (against_reset (1 + i))

  starts_if_passes : all_of passing (reset_checks p bs) ≡ true → StartsRight p (first_latches p bs)
  starts_if_passes e =
      all_of_numbers reset_test (length p.latches) (sym (all_of_map passing reset_check (numbers 0 (length p.latches))) ∙ e)

  passes_if_starts : StartsRight p (first_latches p bs) → all_of passing (reset_checks p bs) ≡ true
  passes_if_starts h = all_of_map passing reset_check (numbers 0 (length p.latches)) ∙ all_of_numbers_if reset_test (length p.latches) h

-- ════════ The loop and the formula ════════

module _ (p : Problem) (bs : List ℕ) where
  abbrev loop_test : ℕ → ℕ → Bool
  loop_test l i = beq (get_or (next_values p (position p bs p.bound)) i false) (get_or (position p bs l).latches i false)

  abbrev loop_check : ℕ → ℕ → Check
  loop_check l i = check (loop_test l i) (open_loop i)

  pub closes_if_passes : (l : ℕ) → length bs ≡ witness_length p → l ≤ p.bound → all_of passing (loop_checks p bs (lasso l)) ≡ true → Closes p bs l
  closes_if_passes l right fits e =
      ext_get_or false (next_values p (position p bs p.bound)) (position p bs l).latches
      (length_next_values p (position p bs p.bound) ∙ sym (length_latches p bs right l fits))
      (λ i h. (beq_is _ _).0
      (all_of_numbers (loop_test l) (length p.latches) (sym (all_of_map passing (loop_check l) (numbers 0 (length p.latches))) ∙ e)
      i (rw (length_next_values p (position p bs p.bound)) at h)))

  pub passes_if_closes : (l : ℕ) → Closes p bs l → all_of passing (loop_checks p bs (lasso l)) ≡ true
  passes_if_closes l e =
      all_of_map passing (loop_check l) (numbers 0 (length p.latches))
      ∙ all_of_numbers_if (loop_test l) (length p.latches) (λ i h. rw e ((beq_is _ (get_or (position p bs l).latches i false)).1 refl))

  shows_if_passes : (s : Shape) → length bs ≡ witness_length p → StartWithin s p → all_of passing (loop_checks p bs s) ≡ true
      → bounded_value s p.bound (rows p bs) (formula p) 0 ≡ true → Shows p bs s
  shows_if_passes prefix right fits loop e = e
  shows_if_passes (lasso l) right fits loop e =
      (closes_if_passes l right fits loop, (lasso_value l p.bound fits (rows p bs) (formula p) 0).0 e)

  loop_if_shows : (s : Shape) → Shows p bs s → all_of passing (loop_checks p bs s) ≡ true
  loop_if_shows prefix h = refl
  loop_if_shows (lasso l) h = passes_if_closes l h.0

  pub value_if_shows : (s : Shape) → StartWithin s p → Shows p bs s → bounded_value s p.bound (rows p bs) (formula p) 0 ≡ true
  value_if_shows prefix fits h = h
  value_if_shows (lasso l) fits h = (lasso_value l p.bound fits (rows p bs) (formula p) 0).1 h.1

-- ════════ The constraints ════════

module _ (p : Problem) (bs : List ℕ) where
  abbrev position_test : ℕ → Bool
  position_test t = meets_constraints p (position p bs t)

  abbrev position_check : ℕ → Check
  position_check t = check (position_test t) (constraint_broken t)

  met_if_passes : all_of passing (position_checks p bs) ≡ true → (t : ℕ) → t ≤ p.bound → meets_constraints p (position p bs t) ≡ true
  met_if_passes e t h =
      all_of_numbers position_test (p.bound + 1) (sym (all_of_map passing position_check (numbers 0 (p.bound + 1))) ∙ e) t (omega arith)

  passes_if_met : ((t : ℕ) → t ≤ p.bound → meets_constraints p (position p bs t) ≡ true) → all_of passing (position_checks p bs) ≡ true
  passes_if_met h =
      all_of_map passing position_check (numbers 0 (p.bound + 1)) ∙ all_of_numbers_if position_test (p.bound + 1) (λ t l. h t (omega arith))

-- ════════ Accepted bytes are witnesses ════════

module _ (p : Problem) (bs : List ℕ) where
  witness_if_passed : ChecksPassed p bs → Witness p bs
  witness_if_passed q =
      let right = length_if_passes p bs q.bytes_pass in
      let limits = bytes_if_pass p bs q.bytes_pass in
      let start : byte bs 0 ≤ p.bound + 1 = limits 0 (omega arith) in
      record {
        length_right = right;
        start_in_range = start;
        bits_in_range = bits limits;
        starts_right = starts_if_passes p bs q.resets_pass;
        constraints_met = met_if_passes p bs q.positions_pass;
        shows = shows_if_passes p bs (shape bs) right (start_within p (byte bs 0) start) q.loop_passes q.formula_passes;
      }
    where
      bits : ((i : ℕ) → i < length bs → byte bs i ≤ byte_limit p i) → (i : ℕ) → 1 ≤ i → i < length bs → byte bs i ≤ 1
      bits limits zero h q = absurd (not-suc-le-zero h)
      bits limits (suc i) h q = limits (suc i) q

  passed_if_witness : Witness p bs → ChecksPassed p bs
  passed_if_witness w = record {
    bytes_pass = pass_if_bytes p bs w.length_right limits;
    resets_pass = passes_if_starts p bs w.starts_right;
    loop_passes = loop_if_shows p bs (shape bs) w.shows;
    positions_pass = passes_if_met p bs w.constraints_met;
    formula_passes = value_if_shows p bs (shape bs) (start_within p (byte bs 0) w.start_in_range) w.shows;
  }
    where
      limits : (i : ℕ) → i < length bs → byte bs i ≤ byte_limit p i
      limits zero h = w.start_in_range
      limits (suc i) h = w.bits_in_range (suc i) (suc-le-suc zero-le) h

  -- The judge accepts exactly the witnesses.
  pub accepted_is_witness : (judge_bytes p bs ≡ granted 0) ↔ Witness p bs
  accepted_is_witness = (λ e. witness_if_passed (passed_if_granted p bs e), λ w. granted_if_passed p bs (passed_if_witness w))

-- ════════ Each kind of check by itself ════════

-- Their numbers are 7, 8, 9, 20 and 10.
module _ (p : Problem) (bs : List ℕ) (k : ℕ) where
  pub byte_checks_other : not (eqb 7 k) ≡ true → all_of (other_than k) (byte_checks p bs) ≡ true
  byte_checks_other e = both_true e (all_of_numbered (other_than k) 0 bs _ (λ i b. e))

  pub reset_checks_other : not (eqb 8 k) ≡ true → all_of (other_than k) (reset_checks p bs) ≡ true
  reset_checks_other e = all_of_each (other_than k) _ (numbers 0 (length p.latches)) (λ i. e)

  pub loop_checks_other : (s : Shape) → not (eqb 9 k) ≡ true → all_of (other_than k) (loop_checks p bs s) ≡ true
  loop_checks_other prefix e = refl
  loop_checks_other (lasso l) e = all_of_each (other_than k) _ (numbers 0 (length p.latches)) (λ i. e)

  pub position_checks_other : not (eqb 20 k) ≡ true → all_of (other_than k) (position_checks p bs) ≡ true
  position_checks_other e = all_of_each (other_than k) _ (numbers 0 (p.bound + 1)) (λ t. e)

module _ (p : Problem) (bs : List ℕ) where
  pub length_if_pass : all_of passing (byte_checks p bs) ≡ true → length bs ≡ witness_length p
  length_if_pass = length_if_passes p bs

  pub start_if_pass : all_of passing (byte_checks p bs) ≡ true → byte bs 0 ≤ p.bound + 1
  start_if_pass e = bytes_if_pass p bs e 0 (omega (arith, length_if_pass e))

  pub bits_if_pass : all_of passing (byte_checks p bs) ≡ true → (i : ℕ) → 1 ≤ i → i < length bs → byte bs i ≤ 1
  bits_if_pass e zero h l = absurd (not-suc-le-zero h)
  bits_if_pass e (suc i) h l = bytes_if_pass p bs e (suc i) l

  pub pass_if_bits : length bs ≡ witness_length p → byte bs 0 ≤ p.bound + 1 → ((i : ℕ) → 1 ≤ i → i < length bs → byte bs i ≤ 1)
      → all_of passing (byte_checks p bs) ≡ true
  pass_if_bits right start bits = pass_if_bytes p bs right within
    where
      within : (i : ℕ) → i < length bs → byte bs i ≤ byte_limit p i
      within zero l = start
      within (suc i) l = bits (suc i) (suc-le-suc zero-le) l

  pub starts_if_pass : all_of passing (reset_checks p bs) ≡ true → StartsRight p (first_latches p bs)
  starts_if_pass = starts_if_passes p bs

  pub pass_if_starts : StartsRight p (first_latches p bs) → all_of passing (reset_checks p bs) ≡ true
  pass_if_starts = passes_if_starts p bs

  abbrev pub loop_test_at : ℕ → ℕ → Bool
  loop_test_at l i = beq (get_or (next_values p (position p bs p.bound)) i false) (get_or (position p bs l).latches i false)

  pub shows_if_pass : (s : Shape) → length bs ≡ witness_length p → StartWithin s p → all_of passing (loop_checks p bs s) ≡ true
      → bounded_value s p.bound (rows p bs) (formula p) 0 ≡ true → Shows p bs s
  shows_if_pass = shows_if_passes p bs

  abbrev pub position_test_at : ℕ → Bool
  position_test_at t = meets_constraints p (position p bs t)

  pub met_if_pass : all_of passing (position_checks p bs) ≡ true → (t : ℕ) → t ≤ p.bound → meets_constraints p (position p bs t) ≡ true
  met_if_pass = met_if_passes p bs

  pub pass_if_met : ((t : ℕ) → t ≤ p.bound → meets_constraints p (position p bs t) ≡ true) → all_of passing (position_checks p bs) ≡ true
  pass_if_met = passes_if_met p bs
