-- A lent buffer that is written where a test passes, and then has room for it: what it holds, and what stays. Assumes nothing.
use mathlib.Core.Path.{◌≡◌, refl, ◌∙◌, ap}
use mathlib.Core.Bool.{Bool, true, false, cond}
use mathlib.Core.List.{List}
use mathlib.Core.Logic.{◌≢◌}
use Prim.Native.Nat.{ℕ, ◌≤◌}
use native.Mathlib.Omega.{arith}
use borrow.Author.Tests.{eq-eqb, ne_eqb}
use lib.Dec.{eqb}
use lib.ListN.{length, take, drop, replicate, length-append, length-drop, length-replicate}
use lib.Seq.{take_at, drop_at}
use Rattle.answers.specs.Lists.{written}
use Rattle.answers.specs.Answers.{Answer}
use Rattle.clauses.specs.Refutations.{judged, area_after}
use Rattle.demands.specs.Buffers.{KeptPast}

module _ {A : Type 0} where
  -- What is written has so many elements, and where the test passes the buffer has room for them.
  pub record Left (new : List A) (needed : ℕ) (test : Bool) (before after : List A) : Type 0 where
    pub length_is : length new ≡ needed
    pub is : after ≡ cond test (written new before) before
    pub fits : test ≡ true → needed ≤ length before

  pub kept_if_unchanged : {needed : ℕ} {before after : List A} → after ≡ before → KeptPast needed before after
  kept_if_unchanged {needed} e = record { same_length = ap length e; past = ap (drop needed) e }

  module _ {new : List A} {needed : ℕ} {test : Bool} {before after : List A} (b : Left new needed test before after) where
    pub unchanged : test ≡ false → after ≡ before
    unchanged e = b.is ∙ rw e

    is_written : test ≡ true → after ≡ written new before
    is_written e = b.is ∙ rw e

    pub holds : test ≡ true → take needed after ≡ new
    holds e = ap (take needed) (is_written e) ∙ take_at new (drop (length new) before) needed b.length_is

    kept_if_written : test ≡ true → KeptPast needed before after
    kept_if_written e = record {
      same_length =
          ap length (is_written e)
          ∙ simp (length-append, length-drop) (omega (arith, b.length_is, b.fits e));
      past =
          ap (drop needed) (is_written e)
          ∙ drop_at new (drop (length new) before) needed b.length_is
          ∙ ap (λ n. drop n before) b.length_is;
    }

    pub kept : KeptPast needed before after
    kept = go test refl
      where
        go : (t : Bool) → test ≡ t → KeptPast needed before after
        go true e = kept_if_written e
        go false e = kept_if_unchanged (unchanged e)

-- Written at 0, and unchanged at a refusal.
module _ {A : Type 0} (new : List A) (a : Answer) {before after : List A} (b : Left new (length new) (eqb a.number 0) before after) where
  pub left_by_number : (a.number ≢ 0 → after ≡ before) × (a.number ≡ 0 → take (length new) after ≡ new) × KeptPast (length new) before after
  left_by_number = (λ refused. unchanged b (ne_eqb _ 0 refused), λ at_0. holds b (eq-eqb _ 0 at_0), kept b)

-- A work area: zeros, where the steps were judged.
pub area_left : (a : Answer) (needed : ℕ) {before after : List ℕ} → after ≡ area_after a needed before → (judged a ≡ true → needed ≤ length before)
    → Left (replicate needed 0) needed (judged a) before after
unfolding area_after
area_left a needed is fits = record { length_is = length-replicate needed 0; is = is; fits = fits }
