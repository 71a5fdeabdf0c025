-- What the finder answers: the check's refusal, 17, 18, or what the list of witnesses says, with the room after it. Assumes nothing.
use Rattle.std.specs.Result.{IsErrAnd}
use Rattle.std.proofs.Common.{Result, Ok, Err}
use mathlib.Core.Path.{◌≡◌, refl, sym, ◌∙◌, ap}
use mathlib.Core.Bool.{cond}
use mathlib.Core.List.{List, [], ◌∷◌}
use Prim.Native.Nat.{ℕ, ◌*◌, ◌%◌, ◌^◌, ◌<◌, ◌≤◌}
use native.Mathlib.Nat.{one-mul, pow-le-pow_right, mod-eq_of_lt}
use native.Mathlib.Omega.{arith}
use borrow.Author.Tests.{le-leb, lt-leb, ne_eqb}
use lib.Dec.{eqb}
use lib.ListN.{length}
use Rattle.answers.specs.Lists.{written}
use Rattle.answers.specs.Answers.{Answer, granted}
use Rattle.answers.specs.Limits.{search_limit}
use Rattle.finder.specs.Calls.{too_much_open, witness_room_too_small, none_exists, open_bytes, first_found, with_first, room_after_finding}
use Rattle.meaning.specs.Problem as problems
use Rattle.meaning.specs.Witnesses.{witness_length}
use Rattle.meaning.specs.Calls.{WellFormed, check_problem, witnesses}
use Rattle.meaning.proofs.Check.{checked_if_well_formed}
use Rattle.finder.proofs.FindingOrder.{find_witness_is}
use Rattle.pairing.proofs.FirstWitness.{first_witness}
use Rattle.problem.specs.declared.Refusal.{Refusal}
use Rattle.problem.specs.Promise.{refusal_answer}
use Rattle.problem.proofs.Unique.{refusal_not_yes}
use Rattle.problem.proofs.Formed.{refused_whatever}
use Rattle.finder.specs.declared.NotFound.{NotFound}
use Rattle.finder.specs.declared.NotFound.TheVariants.{Problem, TooMuchOpen, RoomTooSmall}
use Rattle.finder.specs.Promise.{answer_of, FoundIn, FoundAs}

-- ════════ The check ════════

-- `?` makes it a refusal of the finder.
pub refused_as : {f : Refusal} (r : Result ℕ NotFound) → IsErrAnd r (λ e. e ≡ Problem f) → r ≡ Err (Problem f)
refused_as (Ok n) h = absurd h
refused_as (Err e) h = ap (λ x. Err x) h

module _ {version : ℕ} {ws : List ℕ} where
  pub found_if_good : WellFormed version ws → {before after : List ℕ} {r : Result ℕ NotFound}
      → FoundIn (problems.problem version ws) before r after → FoundAs version ws before r after
  unfolding room_after_finding
  found_if_good formed {before} found = record {
    answered = found.answered ∙ sym (find_witness_is version ws (length before) ∙ checked_if_well_formed version ws _ formed);
    room_after = found.room_after;
  }

  pub found_if_refused : {f : Refusal} → refusal_answer f ≡ check_problem version ws → (before : List ℕ)
      → FoundAs version ws before (Err (Problem f)) before
  unfolding room_after_finding
  found_if_refused {f} refused before = record {
    answered = refused_whatever version ws f _ refused ∙ sym (find_witness_is version ws (length before));
    room_after = rw (ne_eqb (refusal_answer f).number 0 (refusal_not_yes f));
  }

-- ════════ 17, 18 and the search ════════

-- Each open byte is 0 or 1: so many runs are a number of four bytes.
pub all_runs : {m n : ℕ} → m ≡ n → m ≤ 16 → 1 * 2 ^ m % 4294967296 ≡ 2 ^ n
all_runs {m} e few =
    let small : 2 ^ m ≤ 2 ^ 16 = pow-le-pow_right {n = 2} (omega arith) few in
    mod-eq_of_lt {n = 1 * 2 ^ m} {m = 4294967296} (omega arith) ∙ rw (one-mul, e)

module _ (p : problems.Problem) {before : List ℕ} where
  pub too_much : {n : ℕ} → n ≡ open_bytes p → search_limit < n → FoundIn p before (Err (TooMuchOpen n)) before
  too_much e h = record {
    answered = rw (lt-leb (open_bytes p) search_limit (rw e at h)) (ap too_much_open e);
    room_after = refl;
  }

  module _ {m n : ℕ} (m-is : m ≡ open_bytes p) (few : m ≤ search_limit) (n-is : n ≡ witness_length p) where
    pub too_small : length before < n → FoundIn p before (Err (RoomTooSmall n)) before
    too_small h = record {
      answered =
          rw (le-leb (open_bytes p) search_limit (rw m-is at few), lt-leb (witness_length p) (length before) (rw n-is at h)) (ap witness_room_too_small n-is);
      room_after = refl;
    }

    -- The room is as the list of witnesses says: with none it stays.
    pub searched : n ≤ length before → {r : Result ℕ NotFound} {after : List ℕ} → answer_of r ≡ first_found (witnesses p) → after ≡ with_first (witnesses p) before
        → FoundIn p before r after
    searched fits {r} {after} e room = record {
      answered = rw (le-leb (open_bytes p) search_limit (rw m-is at few), le-leb (witness_length p) (length before) (rw n-is at fits)) e;
      room_after = room ∙ by_number (witnesses p) ∙ ap (λ (a : Answer). cond (eqb a.number 0) (with_first (witnesses p) before) before) (sym e);
    }
      where
        by_number : (xs : List (List ℕ)) → with_first xs before ≡ cond (eqb (first_found xs).number 0) (with_first xs before) before
        by_number [] = refl
        by_number (bs ∷ rest) = refl

module _ (p : problems.Problem) where
  -- What the list says where it is empty, and where it has a first.
  pub none_found : (before : List ℕ) → witnesses p ≡ [] → (none_exists 0 ≡ first_found (witnesses p)) × (before ≡ with_first (witnesses p) before)
  none_found before e = (rw e, rw e)

  pub one_found : (before : List ℕ) {bs : List ℕ} {rest : List (List ℕ)} → witnesses p ≡ bs ∷ rest → {n : ℕ} → n ≡ witness_length p → {after : List ℕ} → after ≡ written bs before
      → (granted n ≡ first_found (witnesses p)) × (after ≡ with_first (witnesses p) before)
  one_found before {bs} {rest} e {n} n-is {after} w = (rw e (ap granted (n-is ∙ sym (first_witness p e).0.length_right)), rw e w)
