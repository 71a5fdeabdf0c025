-- What the judge says of a run whose tables are filled: the loop by the last row, and the formula's value over the table. Assumes nothing.
use Rattle.std.proofs.Common.{Option, Some, None, MatchOption, true≢false, zero-le}
use Rattle.std.specs.Option.{is_some}
use mathlib.Core.Path.{◌≡◌, refl, sym, ◌∙◌, ap₂}
use mathlib.Core.Bool.{Bool, true, false, beq, ◌&&◌}
use mathlib.Core.List.{List, [], ◌∷◌}
use Prim.Native.Nat.{ℕ, zero, suc, ◌+◌, ◌-◌, ◌<◌, ◌≤◌}
use native.Mathlib.Omega.{arith}
use lib.ListN.{length, get_or}
use Rattle.answers.specs.Lists.{numbers, all_of}
use Rattle.meaning.specs.Problem.{Problem}
use Rattle.meaning.specs.Witnesses.{shape_of}
use Rattle.meaning.specs.Calls.{accepted}
use Rattle.values.specs.Tables.{row_in}
use Rattle.values.specs.Values.{closed_at}
use Rattle.values.proofs.RowLaws.{next_value_in}
use Rattle.values.proofs.ValueShown.{value_shown}
use Rattle.values.specs.Values.{first_open}
use Rattle.values.proofs.FirstOpen.{all_if_none, not_if_one}
use Rattle.finder.specs.Runs.{Shown, run_bytes}
use Rattle.finder.specs.Search.{closed_by, judged, Lowest}
use Rattle.finder.proofs.Accepted.{accepted_is, closing}

-- Tests that are the same at each number.
same_tests : (f g : ℕ → Bool) (i n : ℕ) → ((j : ℕ) → j < i + n → f j ≡ g j) → all_of f (numbers i n) ≡ all_of g (numbers i n)
same_tests f g i zero h = refl
same_tests f g i (suc n) h = ap₂ ◌&&◌ (h i (omega arith)) (same_tests f g (suc i) n (λ j l. h j (omega arith)))

-- Where the loop does not close one latch is open.
module _ (p : Problem) (row there : List Bool) (at : ℕ) where
  abbrev FirstOpen : Option ℕ → Type 0
  FirstOpen r = MatchOption r (first_open p row there at ≡ length p.latches) (λ i. (i ≡ first_open p row there at) × (i < length p.latches))

  abbrev all_closed_at : Bool
  all_closed_at = all_of (closed_at p row there at) (numbers 0 (length p.latches))

  pub not_closed : (r : Option ℕ) → FirstOpen r → true ≡ is_some r → false ≡ all_closed_at
  unfolding first_open
  not_closed None f e = absurd (true≢false e)
  not_closed (Some i) f e = not_if_one (closed_at p row there at) (length p.latches) f.0 (λ q. omega (arith, f.1))

  pub all_closed : (r : Option ℕ) → FirstOpen r → false ≡ is_some r → true ≡ all_closed_at
  unfolding first_open
  all_closed None f e = all_if_none (closed_at p row there at) (length p.latches) refl f
  all_closed (Some i) f e = absurd (true≢false (sym e))

-- Of a loop.
pub closed_later : (p : Problem) (run : List (List Bool)) (table : List Bool) (first : ℕ) → 0 < first
    → closed_by p run table first ≡ all_of (closed_at p (row_in table p.bound) (get_or run (first - 1) []) p.inputs) (numbers 0 (length p.latches))
closed_later p run table zero some = absurd (omega arith)
closed_later p run table (suc l) some = let e : suc l - 1 ≡ l = omega arith in rw e

module _ {p : Problem} {m : ℕ} {run : List (List Bool)} {table : List Bool} (shown : Shown p m (p.bound + 1) run table) where
  -- By the last row the loop is closed as by the run.
  closing_shown : (first : ℕ) → first ≤ p.bound + 1 → closed_by p run table first ≡ closing p (0 ∷ run_bytes p m) (shape_of first)
  closing_shown zero h = refl
  closing_shown (suc l) h =
      same_tests _ _ 0 (length p.latches) (λ i q.
      ap₂ beq
      (next_value_in shown.values_right shown.proper {t = p.bound} (omega arith) i (omega arith))
      (shown.latches_right l i (omega arith) (omega arith)))

  -- So what is said over the tables is said of the run.
  pub judged_so : (first : ℕ) → first ≤ p.bound + 1 → judged p run table first ≡ accepted p (first ∷ run_bytes p m)
  judged_so first h =
      ap₂ ◌&&◌ (closing_shown first h) (value_shown shown.proper shown.values_right first h)
      ∙ sym (accepted_is p m first h (λ t l. shown.constraints_met t (omega arith)))

  -- The first of all first bytes below a limit.
  pub lowest_of : {limit : ℕ} → limit ≤ p.bound + 2 → (r : Option ℕ)
      → MatchOption r ((b : ℕ) → 0 ≤ b → b < limit → judged p run table b ≡ false)
      (λ first. (0 ≤ first) × (first < limit) × (judged p run table first ≡ true) × ((b : ℕ) → 0 ≤ b → b < first → judged p run table b ≡ false))
      → Lowest p (run_bytes p m) limit r
  lowest_of few None none = λ b l. sym (judged_so b (omega arith)) ∙ none b zero-le l
  lowest_of few (Some first) one = record {
    below = one.1;
    none_lower = λ b l. sym (judged_so b (omega (arith, one.1))) ∙ one.3 b zero-le l;
    is_one = sym (judged_so first (omega (arith, one.1))) ∙ one.2;
  }
