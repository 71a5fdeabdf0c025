-- A problem whose latches may all start at any value: what holds of the first k + 1 positions of its runs holds of any k + 1 positions in a row. Assumes nothing.
use mathlib.Core.Path.{◌≡◌, refl, sym, ◌∙◌, ap}
use mathlib.Core.Bool.{Bool, true, false}
use mathlib.Core.List.{List, map}
use Prim.Native.Nat.{ℕ, zero, suc, ◌+◌, ◌≤◌, ◌<◌, zero-le}
use native.Mathlib.Nat.{add-zero, add-suc, not-suc-le-zero}
use native.Mathlib.Numerals.{add-one}
use borrow.Author.Tests.{le-leb}
use lib.Dec.{leb}
use lib.ListN.{length, get_or}
use lib.Seq.{ext_get_or}
use Rattle.answers.specs.Lists.{numbers}
use Rattle.answers.proofs.Tests.{both_true, not_both, false_if_not_true}
use Rattle.meaning.specs.Problem.{Problem, latch}
use Rattle.meaning.specs.Runs.{Position, literal_value, values, EndlessRun}
use Rattle.meaning.specs.Formulas.{Formula, atom, both, next, until, formula}
use Rattle.meaning.specs.Bounded.{prefix_value}
use Rattle.meaning.specs.Witnesses.{first_latches, inputs_at, position, rows, Witness}
use Rattle.meaning.proofs.Numbers.{length_map_numbers, get_or_map_numbers}
use Rattle.pairing.specs.ModelLaws.{Reading}
use Rattle.pairing.specs.Bytes.{bytes_of_reading}
use Rattle.pairing.proofs.Bytes.{bytes_length, bytes_start, bytes_bits, bytes_latches, bytes_inputs, bytes_prefix}
use Rattle.pairing.proofs.Endless.{same_run}
use Rattle.pairing.proofs.Gates.{values_input, values_latch}
use Rattle.pairing.proofs.Prefixes.{until_on_prefix, prefix_value_agrees}
use Rattle.pairing.proofs.Runs.{length_next_values}

-- ════════ The beginning of an endless run as bytes ════════

-- A list by its places.
by_places : (f : ℕ → Bool) (n : ℕ) (bs : List Bool) → length bs ≡ n → ((i : ℕ) → i < n → f i ≡ get_or bs i false) → map f (numbers 0 n) ≡ bs
by_places f n bs l same =
    ext_get_or false (map f (numbers 0 n)) bs (length_map_numbers f 0 n ∙ sym l)
    (λ i h. let inside : i < n = rw length_map_numbers at h in get_or_map_numbers f n i false inside ∙ same i inside)

module _ (p : Problem) (path : ℕ → Position) (runs : EndlessRun p path) where
  latches_always : (t : ℕ) → length (path t).latches ≡ length p.latches
  latches_always zero = runs.latches_there
  latches_always (suc t) = ap length (runs.steps_right t) ∙ length_next_values p (path t)

  -- The circuit by the run, and no loop; what the nodes read does not stand in the bytes.
  abbrev run_reading : Reading
  run_reading = record {
    truth = true;
    circuit = λ t v. get_or (values p (path t)) v false;
    chosen = λ l. false;
    P = λ n i. false;
    Q = λ n i. false;
    E = λ n. false;
  }

  -- "0 for a prefix", the latches at 0, the inputs at 0..k.
  abbrev first_bytes : List ℕ
  first_bytes = bytes_of_reading p run_reading

  begins : (path 0).latches ≡ first_latches p first_bytes
  begins =
      sym (bytes_latches p run_reading
      ∙ by_places _ (length p.latches) (path 0).latches (latches_always 0) (values_latch p (path 0) (runs.inputs_there 0) (latches_always 0)))

  same_inputs : (t : ℕ) → t ≤ p.bound → (path t).inputs ≡ inputs_at p first_bytes t
  same_inputs t h =
      sym (bytes_inputs p run_reading t h
      ∙ by_places _ p.inputs (path t).inputs (runs.inputs_there t) (values_input p (path t) (runs.inputs_there t) (latches_always t)))

  same_positions : (t : ℕ) → t ≤ p.bound → path t ≡ position p first_bytes t
  same_positions = same_run p first_bytes path runs begins same_inputs

  -- Where the formula is true of them, these bytes are a witness.
  beginning_witness : prefix_value p.bound (λ i. values p (path i)) (formula p) 0 ≡ true → Witness p first_bytes
  beginning_witness e = record {
    length_right = bytes_length p run_reading;
    start_in_range = bytes_start p run_reading;
    bits_in_range = bytes_bits p run_reading;
    starts_right = rw (← begins) runs.starts_right;
    constraints_met = λ t h. rw (← same_positions t h) (runs.constraints_met t);
    shows = rw (bytes_prefix p run_reading (λ l h. refl))
        (sym (prefix_value_agrees p.bound (λ i. values p (path i)) (rows p first_bytes) (λ t h. ap (values p) (same_positions t h)) (formula p) 0) ∙ e);
  }

-- ════════ Every latch free ════════

module _ (p : Problem) (free : (i : ℕ) → i < length p.latches → (latch p i).reset ≡ 2) where
  -- An endless run from any later position on is an endless run.
  pub later_run : (path : ℕ → Position) → EndlessRun p path → (n : ℕ) → EndlessRun p (λ t. path (n + t))
  later_run path runs n = record {
    inputs_there = λ t. runs.inputs_there (n + t);
    latches_there = latches_always p path runs (n + 0);
    starts_right = λ i h. rw (free i h);
    steps_right = λ t. rw add-suc (runs.steps_right (n + t));
    constraints_met = λ t. runs.constraints_met (n + t);
  }

  module _ (none : (bs : List ℕ) → Witness p bs → ⊥) (path : ℕ → Position) (runs : EndlessRun p path) (n : ℕ) where
    -- No k + 1 positions in a row of any endless run, however late, show the fault.
    pub at_every_tick : prefix_value p.bound (λ i. values p (path (n + i))) (formula p) 0 ≡ false
    at_every_tick = false_if_not_true _ (λ e. none _ (beginning_witness p (λ t. path (n + t)) (later_run path runs n) e))

    -- Of the fault F (x and X y): y never comes right after x.
    pub never_one_then_other : (x y : ℕ) (f : Formula) → formula p ≡ until f (both (atom x) (next (atom y))) → 1 ≤ p.bound
        → literal_value (values p (path n)) x ≡ true → literal_value (values p (path (suc n))) y ≡ true → ⊥
    never_one_then_other x y f is some now then = not_both shown at_every_tick
      where
        at_first : leb 0 p.bound ≡ true
        at_first = le-leb 0 p.bound zero-le

        shown : prefix_value p.bound (λ i. values p (path (n + i))) (formula p) 0 ≡ true
        shown =
            rw is
            ((until_on_prefix p.bound (λ i. values p (path (n + i))) f (both (atom x) (next (atom y))) 0).1 (
              0,
              zero-le,
              zero-le,
              both_true at_first (both_true (both_true at_first (rw add-zero now)) (both_true at_first (both_true (le-leb 1 p.bound some) (rw add-one then)))),
              λ m h q. absurd (not-suc-le-zero q),
            ))
