-- The finder's promise decides its answer and the witness room after it. Assumes nothing.
use Rattle.std.proofs.Common.{Result, Ok, Err}
use mathlib.Core.Path.{◌≡◌, refl, sym, ◌∙◌, ap}
use mathlib.Core.List.{List, [], ◌∷◌}
use Prim.Native.Nat.{ℕ}
use lib.ListN.{get_or}
use Rattle.answers.specs.Answers.{Answer}
use Rattle.finder.specs.Calls.{room_after_finding}
use Rattle.problem.specs.declared.Refusal.TheVariants.{BadVersion, BadLength, OutsideLimits, BadReset, BadLiteral, BadNode}
use Rattle.finder.specs.declared.NotFound.{NotFound}
use Rattle.finder.specs.declared.NotFound.TheVariants.{Problem, TooMuchOpen, RoomTooSmall, NoneExists}
use Rattle.finder.specs.Promise.{answer_of, FoundAs}

-- The outcome of each number up to that of a bad node; then 15, 17 and 18, and past them only none is left.
abbrev none : ℕ → Result ℕ NotFound
none p = Err NoneExists

abbrev by_number : List (ℕ → Result ℕ NotFound)
by_number =
    (λ n. Ok n)
    ∷ (λ p. Err (Problem (BadLength p)))
    ∷ (λ p. Err (Problem (OutsideLimits p)))
    ∷ (λ p. Err (Problem (BadReset p)))
    ∷ (λ p. Err (Problem (BadLiteral p)))
    ∷ (λ p. Err (Problem (BadNode p)))
    ∷ none ∷ none ∷ none ∷ none ∷ none ∷ none ∷ none ∷ none ∷ none
    ∷ (λ p. Err (Problem BadVersion))
    ∷ none
    ∷ (λ n. Err (TooMuchOpen n))
    ∷ (λ n. Err (RoomTooSmall n))
    ∷ []

abbrev outcome_back : Answer → Result ℕ NotFound
outcome_back a = get_or by_number a.number none a.place

outcome_back_of : (r : Result ℕ NotFound) → outcome_back (answer_of r) ≡ r
outcome_back_of (Ok n) = refl
outcome_back_of (Err (Problem BadVersion)) = refl
outcome_back_of (Err (Problem (BadLength n))) = refl
outcome_back_of (Err (Problem (OutsideLimits i))) = refl
outcome_back_of (Err (Problem (BadReset i))) = refl
outcome_back_of (Err (Problem (BadLiteral i))) = refl
outcome_back_of (Err (Problem (BadNode i))) = refl
outcome_back_of (Err (TooMuchOpen n)) = refl
outcome_back_of (Err (RoomTooSmall n)) = refl
outcome_back_of (Err NoneExists) = refl

-- Outcomes with one answer are one.
pub same_outcome : {r r' : Result ℕ NotFound} → answer_of r ≡ answer_of r' → r ≡ r'
same_outcome {r} {r'} e = sym (outcome_back_of r) ∙ ap outcome_back e ∙ outcome_back_of r'

pub found_unique : {version : ℕ} {ws before : List ℕ} {r r' : Result ℕ NotFound} {after after' : List ℕ}
    → FoundAs version ws before r after → FoundAs version ws before r' after' → (r ≡ r') × (after ≡ after')
found_unique {version} {ws} {before} a a' =
    let same = a.answered ∙ sym a'.answered in (
      same_outcome same,
      a.room_after ∙ ap (λ (x : Answer). room_after_finding x version ws before) same ∙ sym a'.room_after,
    )
