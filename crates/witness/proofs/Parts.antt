-- The checks of one latch and of one position, and what the table of a shown run says of them. Assumes nothing.
use Rattle.std.proofs.Common.{◌≡◌, ℕ, suc, ◌+◌, ◌*◌, ◌<◌, ◌≤◌, Bool, false, List, length, get_or, drop, refl, sym, ◌∙◌, ap, ap₂, arith, get_or-take, get_or-drop}
use mathlib.Core.Bool.{beq}
use Rattle.answers.specs.Answers.{Check, check, against_reset, open_loop}
use Rattle.meaning.specs.Problem.{Problem, latch, latch_variable, W}
use Rattle.meaning.specs.Proper.{Proper}
use Rattle.meaning.specs.Runs.{next_values, meets_reset, meets_constraints}
use Rattle.meaning.specs.Witnesses.{position, first_latches, constraint_broken, byte, shape, loop_checks}
use Rattle.pairing.proofs.Runs.{position_inputs, length_inputs_at, length_latches}
use Rattle.pairing.proofs.Gates.{values_latch}
use Rattle.std.specs.Prelude.{Ok, Err}
use Rattle.witness.specs.declared.NotWitness.TheVariants.{OpenLoop}
use Rattle.witness.specs.Promise.{AnsweredBy}
use Rattle.witness.specs.ShownRun.{RunShown}
use Rattle.witness.proofs.Checks.{PassedUpTo, fail_one, pass_all, from_number, number_first, numbers_end, passed_before}
use Rattle.values.specs.Tables.{row_width, row_in}
use Rattle.values.specs.Values.{closed_at, first_open}
use Rattle.values.proofs.FirstOpen.{FirstNot, by_first}
use Rattle.values.proofs.RowLaws.{wide_enough, next_value_in}

-- ════════ The checks ════════

abbrev pub reset_check : Problem → List ℕ → ℕ → Check
reset_check p bs i = check (meets_reset (latch p i).reset (get_or (first_latches p bs) i false)) (against_reset (1 + i))

abbrev pub position_check : Problem → List ℕ → ℕ → Check
position_check p bs t = check (meets_constraints p (position p bs t)) (constraint_broken t)

-- 9, of one latch, where the loop starts at l.
abbrev pub loop_check : Problem → List ℕ → ℕ → ℕ → Check
loop_check p bs l i =
    check (beq (get_or (next_values p (position p bs p.bound)) i false) (get_or (position p bs l).latches i false)) (open_loop i)

-- ════════ The latches of a shown run ════════

module _ {p : Problem} {bs : List ℕ} {table : List Bool} (proper : Proper p) (run : RunShown p bs table) where
  -- A latch's value at a position stands in its row.
  latch_there : (l i : ℕ) → l ≤ p.bound → i < length p.latches
      → get_or table (l * row_width + 1 + p.inputs + i) false ≡ get_or (position p bs l).latches i false
  latch_there l i h q =
      let wide = wide_enough proper in
      let place : l * row_width + 1 + p.inputs + i ≡ l * row_width + latch_variable p i = omega arith in
      let inside : latch_variable p i < W p + 1 = omega arith in
      let inside' : latch_variable p i < row_width = omega arith in
      rw place
      (sym (get_or-take (W p + 1) (row_in table l) (latch_variable p i) false inside
      ∙ get_or-take row_width (drop (l * row_width) table) (latch_variable p i) false inside'
      ∙ get_or-drop (l * row_width) table (latch_variable p i) false)
      ∙ ap (λ (vs : List Bool). get_or vs (latch_variable p i) false) (run.right.right l (omega arith))
      ∙ values_latch p (position p bs l) (rw position_inputs (length_inputs_at p bs run.long l h)) (length_latches p bs run.long l h) i q)

  -- What is compared of it at k and at l is what is checked.
  closed_is : (l i : ℕ) → l ≤ p.bound → i < length p.latches
      → closed_at p (row_in table p.bound) table (l * row_width + 1 + p.inputs) i ≡ (loop_check p bs l i).passes
  closed_is l i h q = ap₂ beq (next_value_in run.right proper {t = p.bound} (omega arith) i q) (latch_there l i h q)

  module _ {l r : ℕ} (starts : byte bs 0 ≡ suc l) (first : r ≡ first_open p (row_in table p.bound) table (l * row_width + 1 + p.inputs)) where
    closed : ℕ → Bool
    closed = closed_at p (row_in table p.bound) table (l * row_width + 1 + p.inputs)

    found : FirstNot closed (length p.latches) r
    unfolding first_open closed
    found = by_first _ _ first

    same : (i : ℕ) → i < length p.latches → closed i ≡ (loop_check p bs l i).passes
    unfolding closed
    same i q = closed_is l i (omega (arith, run.start_within)) q

    -- The checks before the first open latch pass.
    passed : PassedUpTo (loop_checks p bs (shape bs)) (from_number (loop_check p bs l) (length p.latches) r)
    passed =
        rw starts
        (passed_before (loop_check p bs l) (length p.latches) r found.within (λ j h. sym (same j (omega (arith, found.within))) ∙ found.passed j h))

    pub open_refused : r < length p.latches → AnsweredBy (loop_checks p bs (shape bs)) (Err (OpenLoop r))
    open_refused h = fail_one passed (number_first (loop_check p bs l) (length p.latches) r h) (sym (same r h) ∙ found.fails h) refl

    pub none_open : r ≡ length p.latches → AnsweredBy (loop_checks p bs (shape bs)) (Ok (tt {0}))
    none_open e = pass_all passed (numbers_end (loop_check p bs l) (length p.latches) r (omega arith))
