-- The promises of reading and of writing decide the answer and the room after it; those of `answer` are equations already. Assumes nothing.
use mathlib.Core.Path.{◌≡◌, refl, sym, ◌∙◌, ap}
use mathlib.Core.Bool.{cond}
use mathlib.Core.List.{List, [], ◌∷◌}
use Prim.Native.Nat.{ℕ}
use lib.Dec.{eqb}
use lib.ListN.{get_or}
use Rattle.answers.specs.Answers.{Answer}
use Rattle.problem.specs.declared.Refusal.TheVariants.{BadVersion, BadLength, OutsideLimits, BadReset, BadLiteral, BadNode}
use Rattle.std.specs.Prelude.{Result, Ok, Err}
use Rattle.aiger.specs.declared.NotDone.{NotDone}
use Rattle.aiger.specs.declared.NotDone.TheVariants.{BadText, Circuit, RoomTooSmall}
use Rattle.aiger.specs.Calls.{room_after_reading, room_after_writing}
use Rattle.aiger.specs.Promise.{answer_of, ReadAs, WrittenAs}

-- ════════ The outcome of an answer ════════

-- The outcomes of 0 to 5; past them 15, 19 and 27 are left.
abbrev by_number : List (ℕ → Result ℕ NotDone)
by_number =
    Ok
    ∷ (λ p. Err (Circuit (BadLength p)))
    ∷ (λ p. Err (Circuit (OutsideLimits p)))
    ∷ (λ p. Err (Circuit (BadReset p)))
    ∷ (λ p. Err (Circuit (BadLiteral p)))
    ∷ (λ p. Err (Circuit (BadNode p)))
    ∷ []

abbrev past_5 : ℕ → ℕ → Result ℕ NotDone
past_5 number p = cond (eqb number 19) (Err (BadText p)) (cond (eqb number 27) (Err (RoomTooSmall p)) (Err (Circuit BadVersion)))

abbrev outcome_back : Answer → Result ℕ NotDone
outcome_back a = get_or by_number a.number (past_5 a.number) a.place

outcome_back_of : (r : Result ℕ NotDone) → outcome_back (answer_of r) ≡ r
outcome_back_of (Ok n) = refl
outcome_back_of (Err (BadText p)) = refl
outcome_back_of (Err (Circuit BadVersion)) = refl
outcome_back_of (Err (Circuit (BadLength n))) = refl
outcome_back_of (Err (Circuit (OutsideLimits i))) = refl
outcome_back_of (Err (Circuit (BadReset i))) = refl
outcome_back_of (Err (Circuit (BadLiteral i))) = refl
outcome_back_of (Err (Circuit (BadNode i))) = refl
outcome_back_of (Err (RoomTooSmall n)) = refl

-- Outcomes with one answer are one.
pub same_outcome : {r r' : Result ℕ NotDone} → answer_of r ≡ answer_of r' → r ≡ r'
same_outcome {r} {r'} e = sym (outcome_back_of r) ∙ ap outcome_back e ∙ outcome_back_of r'

-- ════════ The promises ════════

pub read_unique : {text before : List ℕ} {r r' : Result ℕ NotDone} {after after' : List ℕ}
    → ReadAs text before r after → ReadAs text before r' after' → (r ≡ r') × (after ≡ after')
read_unique {text} {before} a a' =
    let same = a.answered ∙ sym a'.answered in (
      same_outcome same,
      a.room_after ∙ ap (λ (x : Answer). room_after_reading x text before) same ∙ sym a'.room_after,
    )

pub written_unique : {ws before : List ℕ} {r r' : Result ℕ NotDone} {after after' : List ℕ}
    → WrittenAs ws before r after → WrittenAs ws before r' after' → (r ≡ r') × (after ≡ after')
written_unique {ws} {before} a a' =
    let same = a.answered ∙ sym a'.answered in (
      same_outcome same,
      a.room_after ∙ ap (λ (x : Answer). room_after_writing x ws before) same ∙ sym a'.room_after,
    )
