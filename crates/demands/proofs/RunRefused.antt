-- Exactly when the witness judge answers 9, 20 and 10, and with what place. Assumes nothing.
use mathlib.Core.Path.{◌≡◌, refl, sym, ◌∙◌, ap}
use mathlib.Core.Bool.{Bool, true, false, not}
use mathlib.Core.List.{List}
use mathlib.Core.Logic.{◌↔◌, inl, inr}
use Prim.Native.Nat.{ℕ, ◌+◌, ◌≤◌, ◌<◌}
use native.Mathlib.Omega.{arith}
use lib.Dec.{eqb}
use lib.ListN.{length}
use Rattle.std.specs.Prelude.{Result, Err}
use Rattle.answers.specs.Lists.{all_of}
use Rattle.answers.specs.Answers.{Answer, first_failing, granted, open_loop, formula_false}
use Rattle.answers.proofs.Tests.{not_both, false_if_not_true}
use Rattle.answers.proofs.Answers.{passing, number_of, number_after, past_checks, one_check}
use Rattle.answers.proofs.NumberedChecks.{first_fails}
use Rattle.meaning.specs.Problem.{Problem, problem}
use Rattle.meaning.specs.Runs.{meets_constraints}
use Rattle.meaning.specs.Formulas.{formula}
use Rattle.meaning.specs.Bounded.{Shape, prefix, lasso}
use Rattle.meaning.specs.LassoValue.{bounded_value}
use Rattle.meaning.specs.Witnesses.{constraint_broken, witness_length, byte, shape, position, rows, Shows, byte_checks, reset_checks, loop_checks, position_checks, formula_checks}
use Rattle.meaning.specs.Calls.{WellFormed, judge_bytes, judge_witness}
use Rattle.meaning.proofs.Check.{check_numbers, Apart, past_check}
use Rattle.meaning.proofs.Calls.{judge_witness_is}
use Rattle.pairing.proofs.NodeValues.{StartWithin, start_within}
use Rattle.pairing.proofs.Forms.{beq_is}
use Rattle.pairing.proofs.Witnesses.{byte_checks_other, reset_checks_other, loop_checks_other, position_checks_other}
use Rattle.pairing.proofs.Witnesses.{length_if_pass, start_if_pass, bits_if_pass, pass_if_bits, starts_if_pass, pass_if_starts}
use Rattle.pairing.proofs.Witnesses.{loop_test_at, closes_if_passes, passes_if_closes, shows_if_pass, value_if_shows, position_test_at, met_if_pass, pass_if_met}
use Rattle.witness.specs.declared.NotWitness.{NotWitness}
use Rattle.witness.specs.declared.NotWitness.TheVariants as not-witness
use Rattle.witness.specs.Promise.{answer_of}
use Rattle.witness.proofs.Unique.{judgement_unique}
use Rattle.demands.specs.RunRefused.{Begins, ClosesIfLasso, FirstOpen}

module _ (p : Problem) (bs : List ℕ) where
  -- What answers where the checks before it pass.
  abbrev from_formula : Answer
  from_formula = first_failing (formula_checks p bs) (granted 0)

  abbrev from_positions : Answer
  from_positions = first_failing (position_checks p bs) from_formula

  abbrev from_loop : Shape → Answer
  from_loop s = first_failing (loop_checks p bs s) from_positions

  abbrev from_resets : Answer
  from_resets = first_failing (reset_checks p bs) (from_loop (shape bs))

  judged_in_order : judge_bytes p bs ≡ first_failing (byte_checks p bs) from_resets
  unfolding judge_bytes
  judged_in_order = refl

  -- An answer that is neither 7 nor 8 comes where both pass.
  past_8 : (x : Answer) → not (eqb 7 x.number) ≡ true → not (eqb 8 x.number) ≡ true
      → (judge_bytes p bs ≡ x) ↔ (Begins p bs × (from_loop (shape bs) ≡ x))
  past_8 x not_7 not_8 =
      let bytes = past_checks x (byte_checks p bs) from_resets (byte_checks_other p bs x.number not_7) in
      let resets = past_checks x (reset_checks p bs) (from_loop (shape bs)) (reset_checks_other p bs x.number not_8) in (
        λ e.
            let (in-range, after) = bytes.0 (sym judged_in_order ∙ e) in
            let (started, later) = resets.0 after in (
              record {
                length_right = length_if_pass p bs in-range;
                start_in_range = start_if_pass p bs in-range;
                bits_in_range = bits_if_pass p bs in-range;
                starts_right = starts_if_pass p bs started;
              },
              later,
            ),
        λ h.
            let (b, later) = h in
            let in-range = pass_if_bits p bs b.length_right b.start_in_range b.bits_in_range in
            judged_in_order ∙ bytes.1 (in-range, resets.1 (pass_if_starts p bs b.starts_right, later)),
      )

  -- ════════ 9 ════════

  not_9_after : from_positions.number ≡ 9 → ⊥
  not_9_after e =
      let later = number_after 9 (position_checks p bs) from_formula (position_checks_other p bs 9 refl) e in
      omega (arith, number_after 9 (formula_checks p bs) (granted 0) refl later)

  open_if : (s : Shape) (i : ℕ) → from_loop s ≡ open_loop i → (l : ℕ) × (s ≡ lasso l) × FirstOpen p bs l i
  open_if prefix i e = absurd (not_9_after (number_of e))
  open_if (lasso l) i e =
      let (within, fails, before) = (first_fails (loop_test_at p bs l) 9 (length p.latches) i from_positions not_9_after).0 e in (
        l,
        refl,
        record { within = within; differs = λ same. not_both ((beq_is _ _).1 same) fails; agree_before = λ m h. (beq_is _ _).0 (before m h) },
      )

  loop_if_open : (s : Shape) (i l : ℕ) → s ≡ lasso l → FirstOpen p bs l i → from_loop s ≡ open_loop i
  loop_if_open s i l e f =
      let fails = false_if_not_true (loop_test_at p bs l i) (λ same. f.differs ((beq_is _ _).0 same)) in
      let before : (m : ℕ) → m < i → loop_test_at p bs l m ≡ true = λ m h. (beq_is _ _).1 (f.agree_before m h) in
      rw e ((first_fails (loop_test_at p bs l) 9 (length p.latches) i from_positions not_9_after).1 (f.within, fails, before))

  -- ════════ 20 and 10 ════════

  closes_if_passed : (s : Shape) → length bs ≡ witness_length p → StartWithin s p → all_of passing (loop_checks p bs s) ≡ true → ClosesIfLasso p bs s
  closes_if_passed prefix right fits e = tt
  closes_if_passed (lasso l) right fits e = closes_if_passes p bs l right fits e

  passed_if_closes : (s : Shape) → ClosesIfLasso p bs s → all_of passing (loop_checks p bs s) ≡ true
  passed_if_closes prefix c = refl
  passed_if_closes (lasso l) c = passes_if_closes p bs l c

  within : Begins p bs → StartWithin (shape bs) p
  within b = start_within p (byte bs 0) b.start_in_range

  -- An answer that is not 9 either comes where a lasso closes.
  past_9 : (x : Answer) → not (eqb 9 x.number) ≡ true → Begins p bs
      → (from_loop (shape bs) ≡ x) ↔ (ClosesIfLasso p bs (shape bs) × (from_positions ≡ x))
  past_9 x not_9 b =
      let loop = past_checks x (loop_checks p bs (shape bs)) from_positions (loop_checks_other p bs x.number (shape bs) not_9) in (
        λ e. let (pass, later) = loop.0 e in (closes_if_passed (shape bs) b.length_right (within b) pass, later),
        λ h. loop.1 (passed_if_closes (shape bs) h.0, h.1),
      )

  not_20_after : from_formula.number ≡ 20 → ⊥
  not_20_after e = omega (arith, number_after 20 (formula_checks p bs) (granted 0) refl e)

  -- 20 names the first position that breaks a constraint.
  broken_exactly : (t : ℕ) → (from_positions ≡ constraint_broken t)
      ↔ ((t ≤ p.bound) × (position_test_at p bs t ≡ false) × ((u : ℕ) → u < t → position_test_at p bs u ≡ true))
  broken_exactly t =
      let first = first_fails (position_test_at p bs) 20 (p.bound + 1) t from_formula not_20_after in (
        λ e. let (among, fails, before) = first.0 e in (omega arith, fails, before),
        λ h. first.1 (omega (arith, h.0), h.1, h.2),
      )

  abbrev value : Shape → Bool
  value s = bounded_value s p.bound (rows p bs) (formula p) 0

  -- 10 comes where every position meets the constraints and the formula's value is false.
  false_exactly : (from_positions ≡ formula_false 0) ↔ (((t : ℕ) → t ≤ p.bound → position_test_at p bs t ≡ true) × (value (shape bs) ≡ false))
  false_exactly =
      let met = past_checks (formula_false 0) (position_checks p bs) from_formula (position_checks_other p bs 10 refl) in (
        λ e. let (pass, later) = met.0 e in elim (one_check (value (shape bs)) (granted 0) (formula_false 0) later) [
          | inl a ↦ absurd (let z : ◌≡◌ {A = ℕ} 0 10 = number_of a.1 in omega arith)
          | inr b ↦ (met_if_pass p bs pass, b.0)
        ],
        λ h. met.1 (pass_if_met p bs h.0, rw h.1),
      )

  shows_if_value : Begins p bs → ClosesIfLasso p bs (shape bs) → value (shape bs) ≡ true → Shows p bs (shape bs)
  shows_if_value b c = shows_if_pass p bs (shape bs) b.length_right (within b) (passed_if_closes (shape bs) c)

-- ════════ The call ════════

module _ (version : ℕ) (ws bs : List ℕ) where
  abbrev p : Problem
  p = problem version ws

  module _ {r : Result Unit NotWitness} (call : answer_of r ≡ judge_witness version ws bs) where
    -- An answer by another number than the check's, 7 and 8,
    after_8 : (a : Result Unit NotWitness) → Apart (answer_of a).number check_numbers → not (eqb 7 (answer_of a).number) ≡ true
        → not (eqb 8 (answer_of a).number) ≡ true → (r ≡ a) ↔ (WellFormed version ws × Begins p bs × (from_loop p bs (shape bs) ≡ answer_of a))
    after_8 a apart not_7 not_8 =
        let checked = past_check version ws (judge_bytes p bs) (answer_of a) apart in
        let begun = past_8 p bs (answer_of a) not_7 not_8 in
        let is = judge_witness_is version ws bs in (
          λ e.
              let (formed, answered) = checked.0 (sym is ∙ sym call ∙ ap answer_of e) in
              let (b, later) = begun.0 answered in
              (formed, b, later),
          λ h. judgement_unique version ws bs r a call (sym (is ∙ checked.1 (h.0, begun.1 (h.1, h.2)))),
        )

    -- and than 9.
    after_9 : (a : Result Unit NotWitness) → Apart (answer_of a).number check_numbers → not (eqb 7 (answer_of a).number) ≡ true
        → not (eqb 8 (answer_of a).number) ≡ true → not (eqb 9 (answer_of a).number) ≡ true
        → (r ≡ a) ↔ (WellFormed version ws × Begins p bs × ClosesIfLasso p bs (shape bs) × (from_positions p bs ≡ answer_of a))
    after_9 a apart not_7 not_8 not_9 =
        let past = after_8 a apart not_7 not_8 in (
          λ e.
              let (formed, b, later) = past.0 e in
              let (closed, answered) = (past_9 p bs (answer_of a) not_9 b).0 later in
              (formed, b, closed, answered),
          λ h. past.1 (h.0, h.1, (past_9 p bs (answer_of a) not_9 h.1).1 (h.2, h.3)),
        )

    -- 9, with the first latch at which the loop does not close.
    pub refused_9 : (i : ℕ) → (r ≡ Err (not-witness.OpenLoop i)) ↔ (WellFormed version ws × Begins p bs × ((l : ℕ) × (shape bs ≡ lasso l) × FirstOpen p bs l i))
    refused_9 i =
        let past = after_8 (Err (not-witness.OpenLoop i)) refl refl refl in (
          λ e. let (formed, b, later) = past.0 e in (formed, b, open_if p bs (shape bs) i later),
          λ h. past.1 (h.0, h.1, loop_if_open p bs (shape bs) i h.2.0 h.2.1 h.2.2),
        )

    -- 20, with the first position at which a constraint is false.
    pub refused_20 : (t : ℕ) → (r ≡ Err (not-witness.ConstraintBroken t))
        ↔ (WellFormed version ws × Begins p bs × ClosesIfLasso p bs (shape bs)
        × (t ≤ p.bound) × (meets_constraints p (position p bs t) ≡ false) × ((u : ℕ) → u < t → meets_constraints p (position p bs u) ≡ true))
    refused_20 t =
        let past = after_9 (Err (not-witness.ConstraintBroken t)) refl refl refl refl in (
          λ e.
              let (formed, b, closed, later) = past.0 e in
              let (among, broken, before) = (broken_exactly p bs t).0 later in
              (formed, b, closed, among, broken, before),
          λ h. past.1 (h.0, h.1, h.2, (broken_exactly p bs t).1 (h.3, h.4, h.5)),
        )

    -- 10, where all that comes before passes and the run does not show the formula.
    pub refused_10 : (r ≡ Err not-witness.FormulaFalse)
        ↔ (WellFormed version ws × Begins p bs × ClosesIfLasso p bs (shape bs)
        × ((t : ℕ) → t ≤ p.bound → meets_constraints p (position p bs t) ≡ true) × (Shows p bs (shape bs) → ⊥))
    refused_10 =
        let past = after_9 (Err not-witness.FormulaFalse) refl refl refl refl in (
          λ e.
              let (formed, b, closed, later) = past.0 e in
              let (met, is_false) = (false_exactly p bs).0 later in
              (formed, b, closed, met, λ shown. not_both (value_if_shows p bs (shape bs) (within p bs b) shown) is_false),
          λ h.
              let is_false = false_if_not_true (value p bs (shape bs)) (λ e. h.4 (shows_if_value p bs h.1 h.2 e)) in
              past.1 (h.0, h.1, h.2, (false_exactly p bs).1 (h.3, is_false)),
        )
